-- Calls checked one after the other.
use Rattle.std.proofs.Common.{ℕ, ◌-◌, ◌<◌, ◌≤◌, List, [], ◌∷◌, ◌++◌, length, get_or, arith, ap}
use Rattle.std.specs.List.{AllByRecursion}
use Rattle.std.proofs.lemmas.List.{get_or_push, length_push}
use Rattle.std.proofs.lemmas.List.Sorted.{IsNonDecreasingBy-push}
use Rattle.ii_base.specs.Schema.{SchemaEntry}
use Rattle.ii_definitions.specs.IndexCalls.{MayAllBeIndexed, MayBeIndexed, doc_of}
use Rattle.ii_definitions.specs.declared.index_call.IndexCall.{IndexCall}

-- calls that may be made one after the other, whose last document is at most `last`
pub record AreChecked (entries : List SchemaEntry) (num_docs last : ℕ) (calls : List IndexCall) : Type 0 where
  pub all : MayAllBeIndexed entries num_docs calls
  pub below : (d : IndexCall) → 0 < length calls → doc_of (get_or calls (length calls - 1) d) ≤ last

each_push : (P : IndexCall → Type 0) (cs : List IndexCall) (c : IndexCall) → AllByRecursion P cs → P c → AllByRecursion P (cs ++ c ∷ [])
each_push P [] c h p = (p, tt)
each_push P (x ∷ cs) c h p = (h.0, each_push P cs c h.1 p)

pub more_checked : (entries : List SchemaEntry) (num_docs last : ℕ) (cs : List IndexCall) (c : IndexCall) → AreChecked entries num_docs last cs → last ≤ doc_of c → MayBeIndexed entries num_docs c → AreChecked entries num_docs (doc_of c) (cs ++ c ∷ [])
more_checked entries num_docs last cs c h low may = record {
  all = record {
    each = each_push (MayBeIndexed entries num_docs) cs c h.all.each may;
    ordered = IsNonDecreasingBy-push doc_of cs c h.all.ordered (λ d some. omega (arith, h.below d some, low));
  };
  below = λ d some. omega (arith, ap doc_of (get_or_push cs c d (length (cs ++ c ∷ []) - 1) (omega (arith, length_push cs c))));
}
