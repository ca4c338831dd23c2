-- Faults of one term are faults of several.
use Rattle.std.proofs.Common.{◌≡◌, ◌∙◌, ℕ, ◌<◌, Bool, false, ◌&&◌, List, get_or, inl, inr, length, refl, ap, sym}
use Rattle.std.specs.List.{list_all}
use Rattle.std.proofs.Math.Bool.{and-false}
use Rattle.std.proofs.lemmas.List.Folds.{list_all_at}
use Rattle.ii_file_slice.specs.declared.faults.FileFault.{FileFault}
use Rattle.ii_warmup.specs.Faults.{IsCopyFault}

-- a fault by tests, where others fail with them
pub fault_of_more : (lie short all_lie all_short : Bool) (e : FileFault) → (lie ≡ false → all_lie ≡ false) → (short ≡ false → all_short ≡ false) → IsCopyFault lie short e → IsCopyFault all_lie all_short e
fault_of_more lie short all_lie all_short e lies shorts (inl memory) = inl memory
fault_of_more lie short all_lie all_short e lies shorts (inr (inl limit)) = inr (inl limit)
fault_of_more lie short all_lie all_short e lies shorts (inr (inr (inl range))) = inr (inr (inl (range.0, lies range.1)))
fault_of_more lie short all_lie all_short e lies shorts (inr (inr (inr long))) = inr (inr (inr (long.0, shorts long.1)))

-- a test of both fails with that of the first or the second
pub first_fails : (a b : Bool) → a ≡ false → (a && b) ≡ false
first_fails a b fails = rw fails refl

pub second_fails : (a b : Bool) → b ≡ false → (a && b) ≡ false
second_fails a b fails = rw (fails, and-false) refl

-- a test of all fails with that of one
pub one_fails : {A : Type 0} (f : A → Bool) (xs : List A) (i : ℕ) (x : A) → i < length xs → x ≡ get_or xs i x → f x ≡ false → list_all f xs ≡ false
one_fails f xs i x inside is fails = list_all_at f xs i x inside (ap f (sym is) ∙ fails)
