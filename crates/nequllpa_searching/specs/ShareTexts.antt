-- What is printed of what a score is made of.
use Rattle.std.specs.Prelude.{ℕ, Bool, List, ◌++◌, codes, decimal, flat_map, if◌then◌else◌, map}
use Rattle.std.specs.List.{join_with_byte}
use Rattle.serde_json.specs.Data.{string}
use Rattle.serde_json.specs.Written.{compact_text}
use Rattle.ii_base.specs.Schema.{SchemaEntry}
use Rattle.ii_explanation.specs.PartTexts.{part_text}
use Rattle.ii_explanation.specs.ScoreTexts.{score_text, weight_text}
use Rattle.ii_fieldnorm.specs.Norms.{norm_of_id}
use Rattle.ii_ranking.specs.Shares.{ShareState}

-- a share as an indented line
abbrev pub share_line : List SchemaEntry → ShareState → List ℕ
share_line entries s =
    codes "    " ++ score_text s.score ++ codes "\tweight " ++ weight_text s.weight ++ codes "\tcount " ++ decimal s.count ++ codes "\tnorm " ++ decimal (norm_of_id s.norm_id)
    ++ codes "\t" ++ part_text entries s.part ++ codes "\n"

-- the weight of a share in units, its count and its norm, as members of a JSON object
unfoldable pub count_members : ShareState → List ℕ
count_members s = codes ",\"weight_units\":" ++ decimal s.weight ++ codes ",\"count\":" ++ decimal s.count ++ codes ",\"norm\":" ++ decimal (norm_of_id s.norm_id)

-- a share as a JSON object, given the text of its part as a JSON string
abbrev pub object_of : List ℕ → ShareState → List ℕ
object_of query s =
    codes "{\"query\":" ++ query ++ codes ",\"weight\":" ++ weight_text s.weight ++ count_members s ++ codes ",\"share\":" ++ score_text s.score ++ codes ",\"units\":" ++ decimal s.score ++ codes "}"

-- a share as a JSON object
abbrev pub share_object : List SchemaEntry → ShareState → List ℕ
share_object entries s = object_of (compact_text (string (part_text entries s.part))) s

-- shares as indented lines, or as a member of a JSON object
abbrev pub shares_text : Bool → List SchemaEntry → List ShareState → List ℕ
shares_text is_json entries shares =
    if is_json then codes ",\"explain\":[" ++ join_with_byte 44 (map (share_object entries) shares) ++ codes "]" else flat_map (share_line entries) shares
