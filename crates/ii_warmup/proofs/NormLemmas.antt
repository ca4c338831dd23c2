-- The norms of fields that are copied one after the other.
use Rattle.std.proofs.Common.{◌≡◌, ◌∙◌, ℕ, ◌+◌, ◌^◌, ◌<◌, ◌≤◌, ◌==◌, Bool, true, false, List, [], ◌∷◌, ◌++◌, Option, None, Some, drop, inl, inr, length, nat_le, nat_lt, take, refl, sym, ap, subst, arith, length-append}
use Rattle.std.specs.Prelude.{◌⊎◌, if◌then◌else◌}
use Rattle.std.specs.List.{AllByRecursion}
use Rattle.std.proofs.Math.Seq.{take-length}
use Rattle.std.proofs.lemmas.Bool.{eq-eqb, le-leb, ltb-false, ltb-true, ne_eqb}
use Rattle.std.proofs.lemmas.List.Folds.{list_all-append}
use Rattle.ii_io.specs.Composite.{Body, body_of}
use Rattle.ii_io.specs.CompositeWrite.{CompositeWriteState, HasBodies, has_start, next_start}
use Rattle.ii_io.specs.CountingWriter.{CountingWriterState}
use Rattle.ii_io.specs.declared.composite_file.place.BodyStart.{BodyStart}
use Rattle.ii_io.specs.declared.faults.Fault.{Fault}
use Rattle.ii_io.specs.declared.faults.Fault.TheVariants.{Damaged, Limit, OutOfMemory}
use Rattle.ii_io.specs.declared.faults.Part.{Part}
use Rattle.ii_io.specs.declared.faults.LimitName.TheVariants.{Offset}
use Rattle.ii_file_slice.specs.declared.faults.FileFault.TheVariants.{Index}
use Rattle.ii_io.proofs.CompositeSteps.{HasBodies-more}
use Rattle.ii_io.proofs.WriteSteps.{wrote_nothing}
use Rattle.ii_layout.proofs.BoundLemmas.{all_push}
use Rattle.ii_warmup.specs.CopiedNorms.{AddsFound, CopiesNorms, HasCopiedNorms, StartsBelow}
use Rattle.ii_warmup.specs.IndexParts.{KnownBodies}

-- ---- fields below a number
pub none_started : (n : ℕ) (starts : List BodyStart) → AllByRecursion (λ (s : BodyStart). s.field < n) starts → has_start n starts ≡ false
none_started n [] below = refl
none_started n (s ∷ ss) below = rw (ne_eqb s.field n (λ same. absurd (omega (arith, same, below.0)))) (none_started n ss below.1)

raised : (n : ℕ) (starts : List BodyStart) → AllByRecursion (λ (s : BodyStart). s.field < n) starts → AllByRecursion (λ (s : BodyStart). s.field < n + 1) starts
raised n [] below = tt
raised n (s ∷ ss) below = (omega (arith, below.0), raised n ss below.1)

pub starts_next : (n : ℕ) (found : Option (List ℕ)) (old new : CompositeWriteState) → StartsBelow n old → AddsFound found n old new → StartsBelow (n + 1) new
starts_next n None old new h same = subst (StartsBelow (n + 1)) (sym same) (record { below = raised n old.starts h.below; few = omega (arith, h.few) })
starts_next n (Some bytes) old new h adds = record {
  below = subst (AllByRecursion (λ (s : BodyStart). s.field < n + 1)) (sym adds.starts) (all_push (λ (s : BodyStart). s.field < n + 1) old.starts (next_start old n) (raised n old.starts h.below) (omega arith));
  few = rw adds.starts (omega (arith, h.few, length-append old.starts (next_start old n ∷ [])));
}

pub none_below : (c : CompositeWriteState) → c.starts ≡ [] → StartsBelow 0 c
none_below c none = record { below = subst (AllByRecursion (λ (s : BodyStart). s.field < 0)) (sym none) tt; few = rw none (omega arith) }

-- ---- one more body
body_kept : (field : ℕ) (bodies : List Body) (b : Body) → (b.field == field) ≡ false → body_of field (bodies ++ b ∷ []) ≡ body_of field bodies
body_kept field [] b other = rw other refl
body_kept field (c ∷ cs) b other = by (body_kept field cs b other) (c.field == field) refl
  where
    by : body_of field (cs ++ b ∷ []) ≡ body_of field cs → (t : Bool) → (c.field == field) ≡ t → body_of field ((c ∷ cs) ++ b ∷ []) ≡ body_of field (c ∷ cs)
    by rest true is = rw is refl
    by rest false is = rw is rest

body_last : (field : ℕ) (bodies : List Body) (b : Body) → (b.field == field) ≡ true → body_of field bodies ≡ None → body_of field (bodies ++ b ∷ []) ≡ Some b.bytes
body_last field [] b own none = rw own refl
body_last field (c ∷ cs) b own none = by (λ h. body_last field cs b own h) (c.field == field) refl
  where
    by : (body_of field cs ≡ None → body_of field (cs ++ b ∷ []) ≡ Some b.bytes) → (t : Bool) → (c.field == field) ≡ t → body_of field ((c ∷ cs) ++ b ∷ []) ≡ Some b.bytes
    by rest true is = let some = rw is at none in absurd (cc)
    by rest false is = rw is (rest (rw is at none))

module _ (wanted : ℕ → Bool) (known : Option (List ℕ)) (initial : CountingWriterState) where
  pub copying_none : (now : CompositeWriteState) → HasBodies initial now [] → HasCopiedNorms wanted known initial 0 now
  copying_none now has = record { done = []; has = has; fit = refl; later = λ field high. refl; norms = λ bodies is field low. absurd (omega (arith, low)) }

  pub copied_next : (place : ℕ) (old new : CompositeWriteState) → place + 1 ≤ 2 ^ 32 → HasCopiedNorms wanted known initial place old → CopiesNorms (wanted place) known place old new → HasCopiedNorms wanted known initial (place + 1) new
  copied_next place old new few h c = by c.found c.adds c.found_is
    where
      by : (found : Option (List ℕ)) → AddsFound found place old new → ((bodies : List Body) → KnownBodies known bodies → found ≡ (if wanted place then body_of place bodies else None)) → HasCopiedNorms wanted known initial (place + 1) new
      by None same is = record {
        done = h.done;
        has = subst (λ (s : CompositeWriteState). HasBodies initial s h.done) (sym same) h.has;
        fit = h.fit;
        later = λ field high. h.later field (omega (arith, high));
        norms = λ bodies are field low. in_turn bodies are field low (nat_lt field place) refl;
      }
        where
          in_turn : (bodies : List Body) → KnownBodies known bodies → (field : ℕ) → field < place + 1 → (b : Bool) → nat_lt field place ≡ b → body_of field h.done ≡ (if wanted field then body_of field bodies else None)
          in_turn bodies are field low true less = h.norms bodies are field (ltb-true field place less)
          in_turn bodies are field low false more =
              let own : place ≡ field = omega (arith, low, ltb-false field place more) in
              h.later field (omega (arith, own)) ∙ subst (λ (f : ℕ). None ≡ (if wanted f then body_of f bodies else None)) own (is bodies are)
      by (Some bytes) adds is = record {
        done = h.done ++ b ∷ [];
        has = HasBodies-more initial old new h.done place bytes h.has adds;
        fit = rw (list_all-append (λ (c : Body). nat_le (c.field + 1) (2 ^ 32)) h.done (b ∷ []), h.fit, le-leb (place + 1) (2 ^ 32) few) refl;
        later = λ field high. body_kept field h.done b (ne_eqb place field (λ same. absurd (omega (arith, same, high)))) ∙ h.later field (omega (arith, high));
        norms = λ bodies are field low. in_turn bodies are field low (nat_lt field place) refl;
      }
        where
          b : Body
          b = record { field = place; bytes = bytes }

          in_turn : (bodies : List Body) → KnownBodies known bodies → (field : ℕ) → field < place + 1 → (t : Bool) → nat_lt field place ≡ t → body_of field (h.done ++ b ∷ []) ≡ (if wanted field then body_of field bodies else None)
          in_turn bodies are field low true less =
              let before = ltb-true field place less in
              body_kept field h.done b (ne_eqb place field (λ same. absurd (omega (arith, same, before)))) ∙ h.norms bodies are field before
          in_turn bodies are field low false more =
              let own : place ≡ field = omega (arith, low, ltb-false field place more) in
              body_last field h.done b (eq-eqb place field own) (h.later field (omega (arith, own))) ∙ subst (λ (f : ℕ). Some bytes ≡ (if wanted f then body_of f bodies else None)) own (is bodies are)

-- ---- norms in memory
pub begun : (w : CountingWriterState) (s : CompositeWriteState) → s ≡ record { writer = w; base = w.written_bytes; starts = []; closed = false } → HasBodies w s []
begun w s is = subst (λ (t : CompositeWriteState). HasBodies w t []) (sym is) (record { writer = wrote_nothing w; base = refl; starts = refl })

-- ---- the norms of a field
-- what was read of a body from its start to its end
pub read_all : (bytes read : List ℕ) (n : ℕ) → n ≡ length bytes → read ≡ take n (drop 0 bytes) → read ≡ bytes
read_all bytes read n size is = is ∙ ap (λ (k : ℕ). take k bytes) size ∙ take-length bytes

pub copies_none : (wanted : Bool) (known : Option (List ℕ)) (field : ℕ) (s : CompositeWriteState) → ((bodies : List Body) → KnownBodies known bodies → None ≡ (if wanted then body_of field bodies else None)) → CopiesNorms wanted known field s s
copies_none wanted known field s is = record { found = None; adds = refl; found_is = is }

-- the faults of an index, as faults of its files
pub index_faults : (e : Fault) → (e ≡ OutOfMemory) ⊎ (e ≡ Limit Offset) → (Index e ≡ Index OutOfMemory) ⊎ (Index e ≡ Index (Limit Offset))
index_faults e (inl memory) = inl (ap Index memory)
index_faults e (inr limit) = inr (ap Index limit)

pub undamaged : (e : Fault) (part : Part) → (e ≡ OutOfMemory) ⊎ (e ≡ Limit Offset) → e ≡ Damaged part → ⊥
undamaged e part (inl memory) is = let both = sym memory ∙ is in absurd (cc)
undamaged e part (inr limit) is = let both = sym limit ∙ is in absurd (cc)
