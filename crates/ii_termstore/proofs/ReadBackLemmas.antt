-- Laws of terms whose ranges join.
use Rattle.std.proofs.Common.{◌≡◌, ℕ, zero, suc, ◌<◌, List, [], ◌∷◌, ◌++◌, length, refl, sym, arith}
use Rattle.ii_termstore.specs.declared.term_info.TermInfo.{TermInfo}
use Rattle.ii_termstore.specs.Written.{info_in}
use Rattle.ii_termstore.specs.ReadBack.{AreJoined, EndAt}

-- a pair of neighbours in a list with one more term
neighbours : (P : TermInfo → TermInfo → Type 0) (infos : List TermInfo) (i : TermInfo) → ((k : ℕ) → suc k < length infos → P (info_in infos k) (info_in infos (suc k)))
    → ((k : ℕ) → suc k ≡ length infos → P (info_in infos k) i) → (k : ℕ) → suc k < length (infos ++ i ∷ []) → P (info_in (infos ++ i ∷ []) k) (info_in (infos ++ i ∷ []) (suc k))
neighbours P [] i each last k h = absurd (omega arith)
neighbours P (x ∷ []) i each last zero h = last 0 (omega arith)
neighbours P (x ∷ []) i each last (suc k) h = absurd (omega arith)
neighbours P (x ∷ y ∷ ys) i each last zero h = each 0 (omega arith)
neighbours P (x ∷ y ∷ ys) i each last (suc k) h = neighbours P (y ∷ ys) i (λ j below. each (suc j) (omega arith)) (λ j end. last (suc j) (omega arith)) k (omega arith)

-- a term that begins where the last one ends
pub joined_more : (infos : List TermInfo) (i : TermInfo) → AreJoined infos → EndAt infos i.postings_range.start i.positions_range.start → AreJoined (infos ++ i ∷ [])
joined_more infos i h end = record {
  postings = neighbours (λ a b. b.postings_range.start ≡ a.postings_range.end) infos i h.postings (λ k last. sym (end.postings k last));
  positions = neighbours (λ a b. b.positions_range.start ≡ a.positions_range.end) infos i h.positions (λ k last. sym (end.positions k last));
}

last_is : (P : TermInfo → Type 0) (infos : List TermInfo) (i : TermInfo) → P i → (k : ℕ) → suc k ≡ length (infos ++ i ∷ []) → P (info_in (infos ++ i ∷ []) k)
last_is P [] i h zero end = h
last_is P [] i h (suc k) end = absurd (omega arith)
last_is P (x ∷ xs) i h zero end = absurd (none xs (omega arith))
  where
    none : (xs : List TermInfo) → length (xs ++ i ∷ []) ≡ 0 → ⊥
    none [] e = absurd (omega arith)
    none (x ∷ xs) e = absurd (omega arith)
last_is P (x ∷ xs) i h (suc k) end = last_is P xs i h k (omega arith)

pub end_at_last : (infos : List TermInfo) (i : TermInfo) → EndAt (infos ++ i ∷ []) i.postings_range.end i.positions_range.end
end_at_last infos i = record {
  postings = last_is (λ a. a.postings_range.end ≡ i.postings_range.end) infos i refl;
  positions = last_is (λ a. a.positions_range.end ≡ i.positions_range.end) infos i refl;
}
