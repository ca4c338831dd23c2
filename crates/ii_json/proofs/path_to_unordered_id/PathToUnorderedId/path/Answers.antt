use Rattle.std.proofs.Common.{◌∙◌}
use Rattle.std.specs.Prelude.{string_bytes}
use Rattle.ii_json.proofs.KnownPaths.{path_at}
use Rattle.ii_json.proofs.path_to_unordered_id.PathToUnorderedId.path.Goals as goal

pub returns-in-Some : goal.returns-in-Some
returns-in-Some c = rw (← c.self.view_is) (c.as_str.ensures.value ∙ path_at string_bytes c.self.inside.paths.keys c.args.id c.in-Some.path.now c.in-Some.ensures.key)
