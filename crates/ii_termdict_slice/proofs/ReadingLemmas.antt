-- Results of reads.
use Rattle.std.proofs.Common.{◌≡◌, ◌∙◌, ℕ, List, None, Ok, Err, Option, Some, Result, ap, arith, drop, length, take}
use Rattle.std.proofs.lemmas.List.{take-take}
use Rattle.ii_io.specs.StepLemmas.{some-same}
use Rattle.ii_io.specs.Numbers.{little_endian, number_at}
use Rattle.ii_file_slice.specs.declared.faults.FileFault.{FileFault}
use Rattle.ii_termdict_slice.specs.Reading.{Reads}
use Rattle.ii_termdict_slice.proofs.MetaLemmas.{number_whole}

module _ {A : Type 0} {known : Option (List ℕ)} {sound : Type 0} {there : List ℕ → Type 0} {is : List ℕ → A → Type 0} where
  -- a value that is read
  pub reads_ok : {x : A} → ((bs : List ℕ) → known ≡ Some bs → there bs → is bs x) → Reads known sound there is (Ok x)
  reads_ok h = record { exact = h; undamaged = λ bs k t. tt; sound_only = λ bs k t s. tt }

  -- a fault that can't come where the bytes hold what is read
  pub reads_no : {result : Result A FileFault} → ((bs : List ℕ) → known ≡ Some bs → there bs → ⊥) → Reads known sound there is result
  reads_no h = record {
    exact = λ bs k t. absurd (h bs k t);
    undamaged = λ bs k t. absurd (h bs k t);
    sound_only = λ bs k t s. absurd (h bs k t);
  }

  -- the fault of a part that is read
  pub reads_err : {B : Type 0} {one : List ℕ → Type 0} {is_one : List ℕ → B → Type 0} {e : FileFault} → Reads known sound one is_one (Err e) → ((bs : List ℕ) → known ≡ Some bs → there bs → one bs) → Reads known sound there is (Err e)
  reads_err r h = record {
    exact = λ bs k t. tt;
    undamaged = λ bs k t. r.undamaged bs k (h bs k t);
    sound_only = λ bs k t s. r.sound_only bs k (h bs k t) s;
  }

  -- what another read says
  pub reads_as : {one : List ℕ → Type 0} {is_one : List ℕ → A → Type 0} (result : Result A FileFault) → Reads known sound one is_one result → ((bs : List ℕ) → known ≡ Some bs → there bs → one bs)
      → ((bs : List ℕ) (x : A) → known ≡ Some bs → there bs → is_one bs x → is bs x) → Reads known sound there is result
  reads_as (Ok x) r h g = reads_ok (λ bs k t. g bs x k t (r.exact bs k (h bs k t)))
  reads_as (Err e) r h g = reads_err r h

-- a number of eight bytes
pub number_read : (read bs : List ℕ) (n : ℕ) (rest : List ℕ) → length read ≡ 8 → read ≡ take 8 bs → Some (n, rest) ≡ number_at 8 read → n ≡ little_endian (take 8 bs)
number_read read bs n rest size is found =
    let same : (n, rest) ≡ (little_endian (take 8 read), drop 8 read) = some-same (found ∙ number_whole 8 read (omega (arith, size))) in
    ap (λ (p : ℕ × List ℕ). p.0) same ∙ ap little_endian (ap (take 8) is ∙ take-take 8 8 bs (omega arith))

pub number_there : (read : List ℕ) → length read ≡ 8 → None ≡ number_at 8 read → ⊥
number_there read size none = let found = none ∙ number_whole 8 read (omega (arith, size)) in cc
