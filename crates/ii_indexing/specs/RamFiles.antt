-- Files in memory.
use Rattle.std.specs.Prelude.{◌≡◌, ◌⊎◌, ℕ, List, [], length, Some}
use Rattle.ii_io.specs.declared.faults.Fault.{Fault}
use Rattle.ii_io.specs.declared.faults.Fault.TheVariants.{Limit}
use Rattle.ii_io.specs.declared.faults.LimitName.TheVariants as limit
use Rattle.ii_io.specs.CountingWriter.{CountingWriterState, IsFull}
use Rattle.ii_base.specs.Schema.{SchemaEntry}
use Rattle.ii_definitions.specs.Tokens.{IndexToken}
use Rattle.ii_indexing.specs.IndexFiles.{PassLimits}
use Rattle.ii_definitions.specs.Norms.{HoldNorms}
use Rattle.ii_indexing.specs.declared.index_writers.IndexWriters.{IndexWriters}

-- an empty file in memory
abbrev pub empty_file : CountingWriterState
empty_file = record { contents = Some []; written_bytes = 0; failed_calls = 0 }

-- four empty files in memory
abbrev pub empty_files : {W : Type 0} → IndexWriters W
empty_files = record { terms = empty_file; postings = empty_file; positions = empty_file; fieldnorms = empty_file }

-- Why an index can't be written to enough memory: a limit of its terms, or too long a file of norms.
abbrev pub IsRamFault : List SchemaEntry → ℕ → List IndexToken → Fault → Type 0
IsRamFault entries num_docs ts fault =
    PassLimits entries empty_file empty_file empty_file ts fault
    ⊎ ((fault ≡ Limit limit.Offset) × (bytes : List ℕ) × HoldNorms entries num_docs bytes ts × IsFull empty_file (length bytes))
