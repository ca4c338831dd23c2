-- Calls of a document that are added one after the other.
use Rattle.std.proofs.Common.{◌≡◌, ◌+◌, ℕ, List, [], ◌∷◌, ◌++◌, map, Option, Some, None, Result, Ok, Err, drop, refl, sym, ap, ◌∙◌, subst, append-nil, append_assoc}
use Rattle.std.proofs.lemmas.List.{drop_more}
use Rattle.std.proofs.lemmas.Option.{get_or_from_slice_get, slice_get_within}
use Rattle.std.specs.List.{slice_get}
use Rattle.ii_base.specs.Schema.{SchemaEntry}
use Rattle.ii_definitions.specs.Tokens.{Call}
use Rattle.ii_definitions.specs.IndexCalls.{call_of}
use Rattle.ii_definitions.specs.declared.index_call.IndexCall.{IndexCall}
use Rattle.ii_documents.specs.declared.faults.LineFault.{LineFault}
use Rattle.ii_documents.specs.JsonLines.{Adds, Refusal, TellsOfLine, told_of_line}
use Rattle.ii_documents.specs.Steps.{◌>>=◌}

-- calls before those that a step gives
abbrev pub in_front : List Call → Result (List Call) Refusal → Result (List Call) Refusal
in_front cs r = r >>= λ more. Ok (cs ++ more)

-- the calls of two steps
abbrev pub both : Result (List Call) Refusal → Result (List Call) Refusal → Result (List Call) Refusal
both step rest = step >>= λ cs. in_front cs rest

-- The calls that were added so far, and the remaining result.
pub record IsAdding (es : List SchemaEntry) (doc : ℕ) (old now : List IndexCall) (all rest : Result (List Call) Refusal) : Type 0 where
  pub done : List Call
  pub added : Adds es doc old now done
  pub whole : all ≡ in_front done rest

nothing_before : (r : Result (List Call) Refusal) → r ≡ in_front [] r
nothing_before (Ok cs) = refl
nothing_before (Err e) = refl

before_both : (cs ds : List Call) (r : Result (List Call) Refusal) → in_front cs (in_front ds r) ≡ in_front (cs ++ ds) r
before_both cs ds (Ok more) = ap Ok (sym (append_assoc cs ds more))
before_both cs ds (Err e) = refl

module _ (es : List SchemaEntry) (doc : ℕ) where
  pub adds_nothing : (old : List IndexCall) → Adds es doc old old []
  adds_nothing old = record { calls = sym (append-nil (map (call_of es) old)); each = λ each. each }

  pub begins_adding : (old : List IndexCall) (all : Result (List Call) Refusal) → IsAdding es doc old old all all
  begins_adding old all = record { done = []; added = adds_nothing old; whole = nothing_before all }

  adds_then : (old now next : List IndexCall) (cs ds : List Call) → Adds es doc old now cs → Adds es doc now next ds → Adds es doc old next (cs ++ ds)
  adds_then old now next cs ds a b = record {
    calls = b.calls ∙ ap (λ xs. xs ++ ds) a.calls ∙ append_assoc (map (call_of es) old) cs ds;
    each = λ each. b.each (a.each each);
  }

  module _ (old now next : List IndexCall) (all step rest : Result (List Call) Refusal) (t : IsAdding es doc old now all (both step rest)) where
    -- a step that added what it was to add
    pub goes_on : (cs : List Call) → step ≡ Ok cs → Adds es doc now next cs → IsAdding es doc old next all rest
    goes_on cs is added = record {
      done = t.done ++ cs;
      added = adds_then old now next t.done cs t.added added;
      whole = t.whole ∙ ap (λ r. in_front t.done (both r rest)) is ∙ before_both t.done cs rest;
    }

    -- a step that was refused
    pub stops : (e : LineFault) → TellsOfLine (told_of_line e) step → TellsOfLine (told_of_line e) all
    stops e tells = refused (told_of_line e) tells
      where
        refused : (r : Option Refusal) → TellsOfLine r step → TellsOfLine r all
        refused None tells = tt
        refused (Some why) tells = t.whole ∙ ap (λ s. in_front t.done (both s rest)) tells

  -- all steps were made
  pub ends : (old now : List IndexCall) (all : Result (List Call) Refusal) → IsAdding es doc old now all (Ok []) → (cs : List Call) × (all ≡ Ok cs) × Adds es doc old now cs
  ends old now all t = (t.done ++ [], t.whole, subst (λ cs. Adds es doc old now cs) (sym (append-nil t.done)) t.added)

-- the item at a place, and those after it
pub drop_at : {A : Type 0} (xs : List A) (i : ℕ) (x : A) → slice_get xs i ≡ Some x → drop i xs ≡ x ∷ drop (i + 1) xs
drop_at xs i x is = drop_more xs i x (slice_get_within xs i x is) ∙ ap (λ y. y ∷ drop (i + 1) xs) (get_or_from_slice_get xs i x x is)
