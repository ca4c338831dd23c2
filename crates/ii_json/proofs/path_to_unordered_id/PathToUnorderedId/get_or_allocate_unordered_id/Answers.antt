use Rattle.std.proofs.Common.{◌∙◌, sym}
use Rattle.std.specs.Prelude.{string_bytes}
use Rattle.ii_json.proofs.KnownPaths.{found_id, known_fault, known_is, not_known, same_paths}
use Rattle.ii_json.proofs.path_to_unordered_id.PathToUnorderedId.get_or_allocate_unordered_id.Goals as goal

pub returns-in-Some-clause-ok : goal.returns-in-Some-clause-ok
returns-in-Some-clause-ok c = found_id string_bytes c.args.self.now c.self.inside.paths.keys c.self.view_is c.args.path.now c.in-Some.id c.in-Some.ensures.index

pub returns-in-Some-clause-paths : goal.returns-in-Some-clause-paths
returns-in-Some-clause-paths c = same_paths _ _ (sym (known_is string_bytes c.args.self.now c.self.inside.paths.keys c.self.view_is c.args.path.now) ∙ sym c.in-Some.ensures.found)

pub returns-in-Some-clause-refused : goal.returns-in-Some-clause-refused
returns-in-Some-clause-refused c = known_fault c.args.self.now c.args.path.now (sym (known_is string_bytes c.args.self.now c.self.inside.paths.keys c.self.view_is c.args.path.now) ∙ sym c.in-Some.ensures.found)

pub insert_new_path-requires : goal.insert_new_path-requires
insert_new_path-requires c = record { unknown = sym (known_is string_bytes c.args.self.now c.self.inside.paths.keys c.self.view_is c.args.path.now) ∙ sym c.in_default.ensures.found }

pub returns-clause-known : goal.returns-clause-known
returns-clause-known c = not_known c.args.self.now c.args.path.now (sym (known_is string_bytes c.args.self.now c.self.inside.paths.keys c.self.view_is c.args.path.now) ∙ sym c.in_default.ensures.found)

pub returns-in-Some-clause-distinct : goal.returns-in-Some-clause-distinct
returns-in-Some-clause-distinct c = rw (← c.self.view_is) (c.self.invariant.1)
