-- The tokens of index calls, with the texts of each field split by its analyzer.
use Rattle.std.specs.Prelude.{ℕ, List, [], ◌∷◌, ◌++◌, Option, None}
use Rattle.std.specs.List.{flat_map}
use Rattle.ii_io.specs.declared.faults.Fault.{Fault}
use Rattle.ii_base.specs.declared.schema.index_record_option.IndexRecordOption.{IndexRecordOption}
use Rattle.ii_base.specs.Words.{Word}
use Rattle.ii_definitions.specs.Tokens.{Call, IndexToken, Piece, call_pieces, tokens_after}
use Rattle.ii_indexing.specs.Refusals.{call_fault}
use Rattle.ii_json.specs.LeafVisit.{first_fault}

-- the pieces of calls, one after the other
abbrev pub pieces_by : (ℕ → List ℕ → List Word) → List Call → List Piece
pieces_by analyze calls = flat_map (λ (c : Call). call_pieces (analyze c.field) c) calls

-- the tokens of a list of calls
abbrev pub tokens_by : (ℕ → List ℕ → List Word) → List Call → List IndexToken
tokens_by analyze calls = tokens_after [] (pieces_by analyze calls)

-- the first fault of calls after earlier ones, each by its field's option and analyzer
abbrev pub calls_fault_by : (ℕ → List ℕ → List Word) → (ℕ → IndexRecordOption) → List Call → List Call → Option Fault
calls_fault_by analyze option earlier [] = None
calls_fault_by analyze option earlier (c ∷ cs) = first_fault (call_fault (analyze c.field) (option c.field) (pieces_by analyze earlier) c) (calls_fault_by analyze option (earlier ++ c ∷ []) cs)
