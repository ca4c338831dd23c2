-- The leaf of a value of many levels.
use Rattle.std.proofs.Common.{◌≡◌, ◌∙◌, ◌⊎◌, ℕ, zero, suc, Bool, List, [], ◌∷◌, append-nil, Option, Some, None, Result, Ok, Err, refl, ap}
use Rattle.std.specs.Prelude.{IfErr}
use Rattle.std.specs.List.{flat_map}
use Rattle.ii_io.specs.declared.faults.Fault.{Fault}
use Rattle.ii_io.specs.declared.faults.Fault.TheVariants.{OutOfMemory}
use Rattle.ii_base.specs.Json.{Leaf, json_leaves, leaves_below}
use Rattle.ii_base.specs.Words.{Word}
use Rattle.ii_base.specs.declared.schema.index_record_option.IndexRecordOption.{IndexRecordOption}
use Rattle.ii_definitions.specs.Tokens.{Piece, leaf_pieces}
use Rattle.ii_json.specs.LeafVisit.{IsRefusedBy, first_fault, leaves_fault}
use Rattle.ii_indexing.specs.Refusals.{leaf_fault, next_leaf_fault}
use Rattle.ii_promises.specs.DeepValues.{in_arrays}

abbrev Analyze : Type 0
Analyze = List ℕ → List Word

pub leaves_in_arrays : (expand_dots : Bool) (levels : ℕ) (l : Leaf) → json_leaves expand_dots (in_arrays levels l) ≡ ([], l) ∷ []
leaves_in_arrays expand_dots zero l = refl
leaves_in_arrays expand_dots (suc levels) l = append-nil (leaves_below expand_dots [] (in_arrays levels l)) ∙ leaves_in_arrays expand_dots levels l

pub pieces_of_one : (analyze : Analyze) (doc field : ℕ) (l : Leaf) (ls : List (List ℕ × Leaf)) → ls ≡ ([], l) ∷ [] → flat_map (leaf_pieces analyze doc field) ls ≡ leaf_pieces analyze doc field ([], l)
pieces_of_one analyze doc field l ls is = ap (flat_map (leaf_pieces analyze doc field)) is ∙ append-nil (leaf_pieces analyze doc field ([], l))

first_alone : (fault : Option Fault) → first_fault fault None ≡ fault
first_alone None = refl
first_alone (Some f) = refl

pub fault_of_one : (analyze : Analyze) (option : IndexRecordOption) (ps : List Piece) (doc field : ℕ) (l : Leaf) (ls : List (List ℕ × Leaf)) → ls ≡ ([], l) ∷ []
    → leaves_fault (next_leaf_fault analyze option ps doc field) [] ls ≡ leaf_fault analyze option ps doc field ([], l)
fault_of_one analyze option ps doc field l ls is =
    ap (leaves_fault (next_leaf_fault analyze option ps doc field) []) is
    ∙ first_alone (next_leaf_fault analyze option ps doc field [] ([], l))
    ∙ ap (λ (earlier : List Piece). leaf_fault analyze option earlier doc field ([], l)) (append-nil ps)

pub refused_if : {T : Type 0} (cause : Option Fault) (result : Result T Fault) → IsRefusedBy cause result → IfErr result (λ e. (e ≡ OutOfMemory) ⊎ (cause ≡ Some e))
refused_if cause (Ok x) refused = tt
refused_if cause (Err e) refused = refused
