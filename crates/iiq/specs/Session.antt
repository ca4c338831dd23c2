-- What a run keeps from line to line: index calls, and later their index.
use Rattle.std.specs.Prelude.{◌≡◌, ◌⊎◌, ℕ, ◌+◌, false, true, List, [], ◌∷◌, ◌++◌, codes, if◌then◌else◌, nat_le, Option, None, Some}
use Rattle.std.specs.List.{fold}
use Rattle.ii_io.specs.declared.faults.Fault.{Fault}
use Rattle.ii_io.specs.declared.faults.Fault.TheVariants.{OutOfMemory}
use Rattle.ii_base.specs.Schema.{SchemaEntry}
use Rattle.ii_base.specs.AsciiWords.{ascii_words}
use Rattle.ii_base.specs.declared.schema.index_record_option.IndexRecordOption.TheVariants.{Basic, WithFreqsAndPositions}
use Rattle.ii_base.specs.declared.schema.value_type.ValueType.TheVariants.{Json, Str, U64}
use Rattle.ii_definitions.specs.Fields.{option_of}
use Rattle.ii_definitions.specs.Tokens.{Call, IndexToken, tokens_of}
use Rattle.ii_indexing.specs.Refusals.{calls_fault}
use Rattle.ii_indexing.specs.RamFiles.{IsRamFault}

-- the schema: texts with positions, numbers, and JSON values whose texts have positions
abbrev pub fields : List SchemaEntry
fields =
    record { name = codes "text"; value_type = Str; option = WithFreqsAndPositions; is_indexed = true; has_fieldnorms = false; expands_dots = false }
    ∷ record { name = codes "num"; value_type = U64; option = Basic; is_indexed = true; has_fieldnorms = false; expands_dots = false }
    ∷ record { name = codes "leaf"; value_type = Json; option = WithFreqsAndPositions; is_indexed = true; has_fieldnorms = false; expands_dots = false }
    ∷ []

-- Calls are gathered until the first lookup; from then on there is the index of their documents and tokens, or its fault.
pub data Session : Type 0 where
  gathering : List Call → Session
  opened : ℕ → List IndexToken → Session
  refused : Fault → Session

-- the number of documents of calls in order: one more than the last document
abbrev pub num_docs_of : List Call → ℕ
num_docs_of calls = fold (λ (n : ℕ) (c : Call). c.doc + 1) 0 calls

-- what is kept after one more call: nothing if there is an index, or if the call's document is below the last
abbrev pub kept_with : Session → Call → Option Session
kept_with (gathering calls) c = if nat_le (num_docs_of calls) (c.doc + 1) then Some (gathering (calls ++ c ∷ [])) else None
kept_with (opened num_docs ts) c = None
kept_with (refused fault) c = None

-- why calls are refused, apart from allocation failures
abbrev pub refusal_of : List Call → Option Fault
refusal_of calls = calls_fault ascii_words (option_of fields) [] calls

-- Why there is no index of calls.
abbrev pub IsIndexRefusal : List Call → Fault → Type 0
IsIndexRefusal calls fault =
    (fault ≡ OutOfMemory) ⊎ (refusal_of calls ≡ Some fault)
    ⊎ ((refusal_of calls ≡ None) × IsRamFault fields (num_docs_of calls) (tokens_of ascii_words calls) fault)

-- There is an index of these calls, or its fault.
abbrev pub IsIndexed : List Call → Session → Type 0
IsIndexed calls (gathering more) = ⊥
IsIndexed calls (opened num_docs ts) = (refusal_of calls ≡ None) × (num_docs ≡ num_docs_of calls) × (ts ≡ tokens_of ascii_words calls)
IsIndexed calls (refused fault) = IsIndexRefusal calls fault

-- A session changes to one whose calls are indexed.
abbrev pub Indexes : Session → Session → Type 0
Indexes (gathering calls) new = IsIndexed calls new
Indexes (opened num_docs ts) new = new ≡ opened num_docs ts
Indexes (refused fault) new = new ≡ refused fault
