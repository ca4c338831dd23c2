use Rattle.std.proofs.Common.{map, take, ◌≡◌}
use Rattle.std.specs.Prelude.{string_bytes}
use Rattle.ii_json.specs.PathRank.{path_rank}
use Rattle.ii_json.proofs.path_to_unordered_id.PathToUnorderedId.unordered_id_to_ordered_id.Given as goal

abbrev pub invariant-loop-path : goal.invariant-loop-path
invariant-loop-path l = l.ids.items ≡ map (λ key. path_rank l.fn.self (string_bytes key)) (take l.path-index l.path-items)
