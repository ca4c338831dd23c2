-- Which index calls are refused, apart from allocation failures.
use Rattle.std.specs.Prelude.{ℕ, Bool, true, false, if◌then◌else◌, List, [], ◌∷◌, ◌++◌, length, nat_le, Option, None, Some}
use Rattle.std.specs.List.{filter, flat_map, fold}
use Rattle.std.specs.Option.{option_map_or}
use Rattle.ii_io.specs.declared.faults.Fault.{Fault}
use Rattle.ii_io.specs.declared.faults.Fault.TheVariants.{Limit, UnsupportedLeaf}
use Rattle.ii_io.specs.declared.faults.LimitName.TheVariants as limit
use Rattle.ii_base.specs.declared.schema.index_record_option.IndexRecordOption.{IndexRecordOption}
use Rattle.ii_base.specs.Json.{Leaf, text_leaf, unsupported, value_leaf}
use Rattle.ii_base.specs.Words.{Word}
use Rattle.ii_json.specs.LeafVisit.{first_fault, leaves_fault}
use Rattle.ii_json.specs.Paths.{path_fault, with_path}
use Rattle.ii_definitions.specs.Tokens.{Call, Content, IndexToken, Piece, begin_after, content_pieces, is_same_group, kept_words, leaf_pieces, leaves, pieces_of, text, tokens_after, value, words}
use Rattle.ii_definitions.specs.Postings.{field_count}
use Rattle.ii_postings_writer.specs.WordRefusals.{gap_fault, u64_max, words_fault}

-- the number of kept words in the earlier texts of a group
abbrev pub group_count : List Piece → Piece → ℕ
group_count earlier p = length (flat_map (λ (q : Piece). kept_words q.words) (filter (is_same_group p) earlier))

-- why a text or a value is refused after earlier pieces and tokens
abbrev pub piece_fault_from : Bool → IndexRecordOption → List Piece → List IndexToken → Piece → Option Fault
piece_fault_from true option earlier ts p =
    let begin = begin_after earlier p in
    first_fault (words_fault option p begin (group_count earlier p) ts (kept_words p.words)) (gap_fault begin p.words)
piece_fault_from false option earlier ts p = if nat_le u64_max (field_count p.field ts) then Some (Limit limit.Tokens) else None

-- the known paths after one more piece
abbrev pub with_piece : List (List ℕ) → Piece → List (List ℕ)
with_piece known p = option_map_or (with_path known) p.path known

-- the distinct paths of pieces, in the order in which they became known
abbrev pub known_paths : List Piece → List (List ℕ)
known_paths ps = fold with_piece [] ps

-- why the path of a piece can't have an id, if it has a path
abbrev pub own_path_fault : List (List ℕ) → Option (List ℕ) → Option Fault
own_path_fault known None = None
own_path_fault known (Some path) = path_fault known path

-- why a piece is refused after earlier ones: its path can't have an id, or its text or value is refused
abbrev pub piece_fault : IndexRecordOption → List Piece → Piece → Option Fault
piece_fault option earlier p = first_fault (own_path_fault (known_paths earlier) p.path) (piece_fault_from p.is_text option earlier (tokens_after [] earlier) p)

-- the first fault of pieces, in order
abbrev pub pieces_fault : IndexRecordOption → List Piece → List Piece → Option Fault
pieces_fault option earlier [] = None
pieces_fault option earlier (p ∷ ps) = first_fault (piece_fault option earlier p) (pieces_fault option (earlier ++ p ∷ []) ps)

-- why a leaf of a JSON value is refused after pieces: it can't be indexed, or its pieces are refused
abbrev pub leaf_fault : (List ℕ → List Word) → IndexRecordOption → List Piece → ℕ → ℕ → List ℕ × Leaf → Option Fault
leaf_fault analyze option earlier doc field (path, text_leaf t) = pieces_fault option earlier (leaf_pieces analyze doc field (path, text_leaf t))
leaf_fault analyze option earlier doc field (path, value_leaf t n) = pieces_fault option earlier (leaf_pieces analyze doc field (path, value_leaf t n))
leaf_fault analyze option earlier doc field (path, unsupported kind) = Some (UnsupportedLeaf kind)

-- why a leaf is refused after earlier leaves of the same value
abbrev pub next_leaf_fault : (List ℕ → List Word) → IndexRecordOption → List Piece → ℕ → ℕ → List (List ℕ × Leaf) → List ℕ × Leaf → Option Fault
next_leaf_fault analyze option earlier doc field before l = leaf_fault analyze option (earlier ++ flat_map (leaf_pieces analyze doc field) before) doc field l

-- why a call is refused after pieces: by its only text or value, or by its first refused leaf
abbrev pub content_fault : (List ℕ → List Word) → IndexRecordOption → List Piece → Call → Content → Option Fault
content_fault analyze option earlier c (text t) = pieces_fault option earlier (content_pieces analyze c (text t))
content_fault analyze option earlier c (words ws) = pieces_fault option earlier (content_pieces analyze c (words ws))
content_fault analyze option earlier c (value key) = pieces_fault option earlier (content_pieces analyze c (value key))
content_fault analyze option earlier c (leaves ls) = leaves_fault (next_leaf_fault analyze option earlier c.doc c.field) [] ls

-- why a call is refused after pieces
abbrev pub call_fault : (List ℕ → List Word) → IndexRecordOption → List Piece → Call → Option Fault
call_fault analyze option earlier c = content_fault analyze option earlier c c.content

-- the first fault of calls after earlier ones, each by its field's option
abbrev pub calls_fault : (List ℕ → List Word) → (ℕ → IndexRecordOption) → List Call → List Call → Option Fault
calls_fault analyze option earlier [] = None
calls_fault analyze option earlier (c ∷ cs) = first_fault (call_fault analyze (option c.field) (pieces_of analyze earlier) c) (calls_fault analyze option (earlier ++ c ∷ []) cs)
