use Rattle.std.proofs.Common.{map, string_bytes, ◌≡◌}
use lib.Utf8.{encodes}
use Rattle.ii_json.specs.DottedPaths.{dot_between}
use Rattle.ii_json.proofs.json_utils.json_path_sep_to_dot.Given as goal

abbrev pub invariant-loop-character : goal.invariant-loop-character
invariant-loop-character l = string_bytes l.dotted ≡ encodes (map dot_between l.yielded)
