-- Faults that are allocation failures.
use Rattle.std.specs.Prelude.{◌≡◌}
use Rattle.ii_io.specs.declared.faults.Fault.TheVariants.{OutOfMemory}
use Rattle.ii_file_slice.specs.declared.faults.FileFault.TheVariants as file
use Rattle.nequllpa_opening.specs.Faults.{LacksMemoryToOpen}
use Rattle.nequllpa_warming.specs.declared.faults.WarmupFault.{WarmupFault}
use Rattle.nequllpa_warming.specs.declared.faults.WarmupFault.TheVariants.{File, NoTables, Open}

-- an allocation failed while what a query reads was opened
abbrev pub LacksMemoryToWarmUp : WarmupFault → Type 0
LacksMemoryToWarmUp NoTables = ⊥
LacksMemoryToWarmUp (Open fault) = LacksMemoryToOpen fault
LacksMemoryToWarmUp (File (file.Index fault)) = fault ≡ OutOfMemory
LacksMemoryToWarmUp (File (file.Read fault)) = ⊥

-- an allocation failure, as a reason why nothing is opened
abbrev pub warmup_memory : WarmupFault
warmup_memory = File (file.Index OutOfMemory)
