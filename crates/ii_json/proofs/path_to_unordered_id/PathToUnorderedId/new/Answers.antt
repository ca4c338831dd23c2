use Rattle.std.proofs.Common.{arith}
use Rattle.std.specs.Prelude.{bytes_eq, string_bytes}
use Rattle.ii_json.proofs.KnownPaths.{distinct_mapped}
use Rattle.ii_json.proofs.path_to_unordered_id.PathToUnorderedId.new.Goals as goal

pub invariant_of-result : goal.invariant_of-result
invariant_of-result c = (omega (arith, c.new.ensures.len), distinct_mapped bytes_eq string_bytes _ c.new.ensures.unique)
