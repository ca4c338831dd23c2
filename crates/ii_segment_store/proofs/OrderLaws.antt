-- The files of a segment stay in order when it gets other flags.
use Rattle.std.proofs.Common.{◌≡◌, ℕ, ◌+◌, ◌<◌, ◌≤◌, ◌&&◌, Bool, true, false, List, [], ◌∷◌, nat_le, nat_lt, refl, sym, ap, ◌∙◌, arith}
use Rattle.std.specs.Prelude.{filter}
use Rattle.std.proofs.lemmas.Bool.{and_parts, le-leb, le-ltb, leb-true, lt-ltb, ltb-false, ltb-true}
use Rattle.ii_alive.specs.Alive.{num_living}
use Rattle.ii_alive.specs.AliveBytes.{alive_bytes}
use Rattle.ii_store.specs.declared.index_meta.FileMeta.{FileMeta}
use Rattle.ii_directory.specs.declared.name.SegmentComponent.TheVariants.{Alive}
use Rattle.ii_directory.specs.Names.{component_number}
use Rattle.ii_store.specs.IndexMeta.{SegmentState, ascend_from, file_meta, is_segment}
use Rattle.ii_segment_store.specs.Changes.{files_with_flags, with_flags}

abbrev number : FileMeta → ℕ
number f = component_number f.component

abbrev before : FileMeta → Bool
before f = nat_lt (number f) 5

abbrev after : FileMeta → Bool
after f = nat_lt 5 (number f)

-- files after the flags
none_before : (k : ℕ) (fs : List FileMeta) → 5 ≤ k → ascend_from k fs ≡ true → filter before fs ≡ []
none_before k [] le up = refl
none_before k (f ∷ fs) le up =
    let parts = and_parts (nat_le k (number f)) (ascend_from (number f + 1) fs) up in
    let least = leb-true k (number f) parts.0 in
    rw (le-ltb (number f) 5 (omega (arith, least, le))) (none_before (number f + 1) fs (omega (arith, least, le)) parts.1)

all_after : (k : ℕ) (fs : List FileMeta) → 5 < k → ascend_from k fs ≡ true → filter after fs ≡ fs
all_after k [] lt up = refl
all_after k (f ∷ fs) lt up =
    let parts = and_parts (nat_le k (number f)) (ascend_from (number f + 1) fs) up in
    let least = leb-true k (number f) parts.0 in
    rw (lt-ltb 5 (number f) (omega (arith, least, lt))) (ap (λ (hs : List FileMeta). f ∷ hs) (all_after (number f + 1) fs (omega (arith, least, lt)) parts.1))

module _ (x : FileMeta) (five : number x ≡ 5) where
  -- the flags come before these files
  flags_first : (k : ℕ) (fs : List FileMeta) → k ≤ 5 → ascend_from 6 fs ≡ true → ascend_from k (x ∷ fs) ≡ true
  flags_first k fs le up = rw (five, le-leb k 5 le, up) refl

  ascend_with_flags : (k : ℕ) (fs : List FileMeta) → k ≤ 5 → ascend_from k fs ≡ true → ascend_from k (files_with_flags x fs) ≡ true
  ascend_with_flags k [] le up = flags_first k [] le refl
  ascend_with_flags k (f ∷ fs) le up =
      let parts = and_parts (nat_le k (number f)) (ascend_from (number f + 1) fs) up in
      by parts.0 parts.1 (λ low. ascend_with_flags (number f + 1) fs (omega (arith, low)) parts.1) (before f) (after f) refl refl
    where
      by : nat_le k (number f) ≡ true → ascend_from (number f + 1) fs ≡ true → (number f < 5 → ascend_from (number f + 1) (files_with_flags x fs) ≡ true)
          → (b a : Bool) → before f ≡ b → after f ≡ a → ascend_from k (files_with_flags x (f ∷ fs)) ≡ true
      by least up rest true true low high = absurd (omega (arith, ltb-true (number f) 5 low, ltb-true 5 (number f) high))
      by least up rest true false low high = rw (low, high, least) (rest (ltb-true (number f) 5 low))
      by least up rest false true low high =
          let above = ltb-true 5 (number f) high in
          let next : ascend_from 6 (f ∷ fs) ≡ true = rw (le-leb 6 (number f) (omega (arith, above)), up) refl in
          rw (low, high, none_before (number f + 1) fs (omega (arith, above)) up, all_after (number f + 1) fs (omega (arith, above)) up) (flags_first k (f ∷ fs) le next)
      by least up rest false false low high =
          let same : number f ≡ 5 = omega (arith, ltb-false (number f) 5 low, ltb-false 5 (number f) high) in
          let next : ascend_from 6 fs ≡ true = ap (λ (n : ℕ). ascend_from (n + 1) fs) (sym same) ∙ up in
          rw (low, high, none_before 6 fs (omega arith) next, all_after 6 fs (omega arith) next) (flags_first k fs le next)

-- a segment with other flags is as valid as it was
pub flagged_is_segment : (next : ℕ) (s : SegmentState) (generation : ℕ) (alive : List Bool) → is_segment next s ≡ true → num_living alive ≤ s.num_docs → is_segment next (with_flags s generation alive) ≡ true
unfolding is_segment
flagged_is_segment next s generation alive valid few =
    let outer = and_parts (nat_lt s.id next && nat_le s.num_living s.num_docs && nat_lt s.num_docs 2147483648) (ascend_from 0 s.files) valid in
    let middle = and_parts (nat_lt s.id next && nat_le s.num_living s.num_docs) (nat_lt s.num_docs 2147483648) outer.0 in
    let inner = and_parts (nat_lt s.id next) (nat_le s.num_living s.num_docs) middle.0 in
    rw (inner.0, le-leb (num_living alive) s.num_docs few, middle.1, ascend_with_flags (file_meta (Alive generation) (alive_bytes alive)) refl 0 s.files (omega arith) outer.1) refl
