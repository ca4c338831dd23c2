-- What is read of a file by ranges.
use Rattle.std.specs.Prelude.{◌≡◌, ℕ, List, Option, Some, IfErr, IfOk, Result}
use Rattle.ii_io.specs.declared.faults.Fault.TheVariants as faults
use Rattle.ii_io.specs.declared.faults.Part.{Part}
use Rattle.ii_file_slice.specs.declared.faults.FileFault.{FileFault}
use Rattle.ii_file_slice.specs.declared.faults.FileFault.TheVariants.{Index}

-- Where a file's bytes are known and hold what is read, the result is what they say; nothing is damaged, and only memory is wanting if they can be read.
pub record Reads {A : Type 0} (known : Option (List ℕ)) (sound : Type 0) (there : List ℕ → Type 0) (is : List ℕ → A → Type 0) (result : Result A FileFault) : Type 0 where
  pub exact : (bytes : List ℕ) → known ≡ Some bytes → there bytes → IfOk result (is bytes)
  pub undamaged : (bytes : List ℕ) → known ≡ Some bytes → there bytes → IfErr result (λ e. (part : Part) → e ≡ Index (faults.Damaged part) → ⊥)
  pub sound_only : (bytes : List ℕ) → known ≡ Some bytes → there bytes → sound → IfErr result (λ e. e ≡ Index faults.OutOfMemory)
