-- Faults that are damage, and refusals of a directory.
use Rattle.std.specs.Prelude.{⊤}
use Rattle.ii_block_file.specs.declared.faults.ReadFault.{ReadFault}
use Rattle.ii_block_file.specs.declared.faults.ReadFault.TheVariants as reads
use Rattle.ii_directory.specs.Directory.{IsRefusal}
use Rattle.ii_io.specs.declared.faults.Fault.{Fault}
use Rattle.ii_io.specs.declared.faults.Fault.TheVariants as faults
use Rattle.nequllpa_merging.specs.declared.faults.FilesFault.{FilesFault}
use Rattle.nequllpa_merging.specs.declared.faults.FilesFault.TheVariants as files
use Rattle.nequllpa_merging.specs.declared.faults.JoinFault.{JoinFault}
use Rattle.nequllpa_merging.specs.declared.faults.JoinFault.TheVariants as joins
use Rattle.nequllpa_merging.specs.declared.faults.MergeFault.{MergeFault}
use Rattle.nequllpa_merging.specs.declared.faults.MergeFault.TheVariants.{LongDocument, Merge, Read, Segment, Store, TooManyDocuments, TooManyFields}

-- A fault of an index is damage.
abbrev pub IsPartDamage : Fault → Type 0
IsPartDamage (faults.Damaged part) = ⊤
IsPartDamage faults.OutOfMemory = ⊥
IsPartDamage faults.Write = ⊥
IsPartDamage faults.SerializerClosed = ⊥
IsPartDamage faults.IndexerFailed = ⊥
IsPartDamage (faults.UnsupportedLeaf kind) = ⊥
IsPartDamage faults.DecreasingPosition = ⊥
IsPartDamage (faults.Limit name) = ⊥

-- A block of a file isn't as it was when the file was opened.
abbrev pub IsBlockDamage : ReadFault → Type 0
IsBlockDamage reads.OutOfMemory = ⊥
IsBlockDamage reads.Range = ⊥
IsBlockDamage (reads.Refused kind) = ⊥
IsBlockDamage (reads.Damaged block) = ⊤

-- A fault of a merge is damage: of a segment, of its stored documents or their file, or of its lists.
abbrev pub IsDamage : MergeFault → Type 0
IsDamage (Segment place part) = ⊤
IsDamage (Store place damage) = ⊤
IsDamage (Read place fault) = IsBlockDamage fault
IsDamage (LongDocument place) = ⊥
IsDamage TooManyDocuments = ⊥
IsDamage TooManyFields = ⊥
IsDamage (Merge fault) = IsPartDamage fault

-- Why files aren't merged, where the directory takes them.
abbrev pub OfFault : (Fault → Type 0) → FilesFault → Type 0
OfFault P (files.Directory fault) = ⊤
OfFault P (files.Fault fault) = P fault

-- The directory refused a file.
abbrev pub IsRefusedFiles : FilesFault → Type 0
IsRefusedFiles (files.Directory fault) = IsRefusal fault
IsRefusedFiles (files.Fault fault) = ⊥

-- Why segments aren't merged, where the directory takes the files.
abbrev pub OfMerge : (MergeFault → Type 0) → JoinFault → Type 0
OfMerge P (joins.Store fault) = ⊥
OfMerge P (joins.Merge fault) = P fault
OfMerge P (joins.Write fault) = ⊤
OfMerge P (joins.Commit fault) = ⊥
