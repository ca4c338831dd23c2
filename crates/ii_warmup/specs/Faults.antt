-- Why what a query needs can't be read.
use Rattle.std.specs.Prelude.{◌≡◌, ◌⊎◌, Bool, false}
use Rattle.ii_io.specs.declared.faults.Fault.TheVariants as faults
use Rattle.ii_io.specs.declared.faults.LimitName.TheVariants.{Offset}
use Rattle.ii_io.specs.declared.faults.Part.TheVariants as parts
use Rattle.ii_file_slice.specs.declared.faults.FileFault.{FileFault}
use Rattle.ii_file_slice.specs.declared.faults.FileFault.TheVariants.{Index}

-- Why terms of a field can't be read of sound files: memory; their dictionary in memory would have 2^64 bytes or more; their ranges don't all lie within the bodies, or aren't all short.
abbrev pub IsCopyFault : Bool → Bool → FileFault → Type 0
IsCopyFault lie short e =
    (e ≡ Index faults.OutOfMemory) ⊎ (e ≡ Index (faults.Limit Offset)) ⊎ ((e ≡ Index (faults.Damaged parts.Range)) × (lie ≡ false)) ⊎ ((e ≡ Index (faults.Damaged parts.TermStore)) × (short ≡ false))
