use Rattle.std.proofs.Common.{map, take, ◌≡◌}
use Rattle.std.specs.Prelude.{string_bytes}
use Rattle.ii_json.specs.Paths.{texts_of}
use Rattle.ii_json.proofs.path_to_unordered_id.PathToUnorderedId.known_paths.Given as goal

abbrev pub invariant-loop-path : goal.invariant-loop-path
invariant-loop-path l = texts_of l.paths.items ≡ map string_bytes (take l.path-index l.path-items)
