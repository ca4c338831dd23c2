-- Why a part of an index can't be read from its file.
use Rattle.std.specs.Prelude.{◌≡◌, ◌⊎◌, IfErr, Result}
use Rattle.ii_io.specs.declared.faults.Fault.TheVariants as index
use Rattle.ii_io.specs.declared.faults.Part.TheVariants.{Composite}
use Rattle.ii_block_file.specs.declared.faults.ReadFault.{ReadFault}
use Rattle.ii_block_file.specs.declared.faults.ReadFault.TheVariants as reads
use Rattle.ii_file_slice.specs.declared.faults.FileFault.{FileFault}
use Rattle.ii_file_slice.specs.declared.faults.FileFault.TheVariants.{Index, Read}

-- the fault of a range that can't be read
abbrev pub file_fault : ReadFault → FileFault
file_fault reads.OutOfMemory = Index index.OutOfMemory
file_fault reads.Range = Read reads.Range
file_fault (reads.Refused kind) = Read (reads.Refused kind)
file_fault (reads.Damaged block) = Read (reads.Damaged block)

-- A call fails only with `OutOfMemory`, or because the table of a composite file is corrupt.
abbrev pub OnlyMemoryOrTable : {A : Type 0} → Result A FileFault → Type 0
OnlyMemoryOrTable result = IfErr result (λ e. (e ≡ Index index.OutOfMemory) ⊎ (e ≡ Index (index.Damaged Composite)))
