-- Faults and their numbers.
use Rattle.std.specs.Prelude.{◌≡◌, ◌⊎◌, ℕ, IfErr, Result}
use Rattle.ii_io.specs.declared.faults.Fault.{Fault}
use Rattle.ii_io.specs.declared.faults.Fault.TheVariants.{OutOfMemory, Write, SerializerClosed, IndexerFailed, UnsupportedLeaf, DecreasingPosition, Limit}
use Rattle.ii_io.specs.declared.faults.Fault as fault
use Rattle.ii_io.specs.declared.faults.LayoutFault.{LayoutFault}
use Rattle.ii_io.specs.declared.faults.LayoutFault.TheVariants as layout

-- the number of a fault
abbrev pub number_of : Fault → ℕ
number_of OutOfMemory = 1
number_of Write = 2
number_of SerializerClosed = 3
number_of IndexerFailed = 4
number_of (UnsupportedLeaf kind) = 5
number_of DecreasingPosition = 6
number_of (Limit name) = 7
number_of (fault.TheVariants.Damaged part) = 8

-- the fault of a corrupt part
abbrev pub as_fault : LayoutFault → Fault
as_fault (layout.Damaged part) = fault.TheVariants.Damaged part

-- the fault of a writer to memory, where only allocations fail
abbrev pub memory_fault : Fault → Fault
memory_fault OutOfMemory = OutOfMemory
memory_fault Write = OutOfMemory
memory_fault SerializerClosed = SerializerClosed
memory_fault IndexerFailed = IndexerFailed
memory_fault (UnsupportedLeaf kind) = UnsupportedLeaf kind
memory_fault DecreasingPosition = DecreasingPosition
memory_fault (Limit name) = Limit name
memory_fault (fault.TheVariants.Damaged part) = fault.TheVariants.Damaged part

-- A call fails only with `OutOfMemory`.
abbrev pub OnlyMemory : {A : Type 0} → Result A Fault → Type 0
OnlyMemory result = IfErr result (λ e. e ≡ OutOfMemory)

-- A call fails only with `OutOfMemory`, or with `SerializerClosed` after an earlier error.
abbrev pub OnlyMemoryOrClosed : {A : Type 0} → Result A Fault → Type 0
OnlyMemoryOrClosed result = IfErr result (λ e. (e ≡ OutOfMemory) ⊎ (e ≡ SerializerClosed))
