-- Faults that are allocation failures.
use Rattle.std.specs.Prelude.{◌≡◌}
use Rattle.ii_io.specs.declared.faults.Fault.TheVariants.{OutOfMemory}
use Rattle.ii_schema_text.specs.declared.faults.SchemaFault.TheVariants as schema
use Rattle.nequllpa_opening.specs.declared.faults.AnswerFault.{AnswerFault}
use Rattle.nequllpa_opening.specs.declared.faults.AnswerFault.TheVariants.{Document, Index, Output}
use Rattle.nequllpa_opening.specs.declared.faults.OpenFault.{OpenFault}
use Rattle.nequllpa_opening.specs.declared.faults.OpenFault.TheVariants.{Documents, Files, Schema, SchemaBytes}

-- an allocation failed while a command made its answer
abbrev pub LacksMemoryToAnswer : AnswerFault → Type 0
LacksMemoryToAnswer (Index fault) = fault ≡ OutOfMemory
LacksMemoryToAnswer (Output kind) = ⊥
LacksMemoryToAnswer (Document fault) = ⊥

-- an allocation failed while an index was opened
abbrev pub LacksMemoryToOpen : OpenFault → Type 0
LacksMemoryToOpen SchemaBytes = ⊥
LacksMemoryToOpen (Schema fault) = fault ≡ schema.OutOfMemory
LacksMemoryToOpen (Files fault) = fault ≡ OutOfMemory
LacksMemoryToOpen (Documents damage) = ⊥
