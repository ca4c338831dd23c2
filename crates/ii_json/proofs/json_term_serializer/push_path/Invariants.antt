use Rattle.std.proofs.Common.{map, take, ◌++◌, ◌≡◌}
use Rattle.ii_json.specs.JsonTerms.{written_byte}
use Rattle.ii_json.proofs.json_term_serializer.push_path.Given as goal

abbrev pub invariant-loop-byte : goal.invariant-loop-byte
invariant-loop-byte l = l.bytes.items ≡ l.initial.bytes.items ++ map written_byte (take l.byte-index l.path)
