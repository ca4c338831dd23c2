use Rattle.std.proofs.Common.{◌≡◌, ◌++◌, map, take}
use Rattle.serde_json.specs.View.{view}
use Rattle.ii_base.specs.Json.{json_of}
use Rattle.ii_documents.specs.Floats.{without_floats}
use Rattle.ii_documents.specs.JsonValues.{json_from}
use Rattle.ii_documents.proofs.JsonLemmas.{given_pair, made_pair}
use Rattle.ii_documents.proofs.json_values.+json.Given as goal

abbrev pub invariant-json_items-loop-item : goal.invariant-json_items-loop-item
invariant-json_items-loop-item l = map json_of l.values.items ≡ map (λ v. json_from (without_floats (view v))) (take l.item-index l.item-items)

abbrev pub invariant-json_members-loop-key : goal.invariant-json_members-loop-key
invariant-json_members-loop-key l = map made_pair l.values.items ++ map given_pair l.key-iterator ≡ map given_pair l.members.entries
