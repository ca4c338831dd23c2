-- The first document with several words, while documents are passed.
use Rattle.std.proofs.Common.{◌≡◌, ℕ, ◌+◌, ◌-◌, ◌<◌, ◌&&◌, Bool, List, suc, ◌∷◌, false, Option, refl, arith}
use Rattle.std.specs.Prelude.{nat_lt}
use Rattle.std.specs.List.{find, range_with_len}
use Rattle.ii_segments.specs.Segments.{is_living}
use Rattle.ii_fieldnorm.specs.Readers.{Norms, id_of_doc}

-- the first from a document on
abbrev pub left_above_one : Norms → List Bool → ℕ → Option ℕ
left_above_one norms alive doc = find (λ d. is_living alive d && nat_lt 1 (id_of_doc norms d)) (range_with_len doc (norms.num_docs - doc))

range_step : (n i : ℕ) → i < n → range_with_len i (n - i) ≡ i ∷ range_with_len (i + 1) (n - (i + 1))
range_step n i within =
    let left : n - i ≡ suc (n - (i + 1)) = omega (arith, within) in
    rw left refl

pub not_there : (norms : Norms) (alive : List Bool) (doc : ℕ) → doc < norms.num_docs → (is_living alive doc && nat_lt 1 (id_of_doc norms doc)) ≡ false → left_above_one norms alive (doc + 1) ≡ left_above_one norms alive doc
not_there norms alive doc within low = let step = range_step norms.num_docs doc within in rw step (rw low refl)
