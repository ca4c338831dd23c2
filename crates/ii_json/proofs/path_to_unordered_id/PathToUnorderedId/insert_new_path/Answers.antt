use Rattle.std.proofs.Common.{map, ◌∙◌, arith, ap}
use Rattle.std.specs.Prelude.{bytes_eq, string_bytes}
use Rattle.ii_json.proofs.KnownPaths.{added_paths, distinct_mapped, next_id, one_more}
use Rattle.ii_json.proofs.path_to_unordered_id.PathToUnorderedId.insert_new_path.Goals as goal

pub invariant_of-self-2 : goal.invariant_of-self-2
invariant_of-self-2 c = (one_more _ _ _ c.in_ok-insert.ensures.len (omega (arith, c.if-next_id.false, c.len-next_id.ensures.len)), distinct_mapped bytes_eq string_bytes _ c.insert.ensures.unique)

pub returns-clause-ok : goal.returns-clause-ok
returns-clause-ok c = c.len-next_id.ensures.len ∙ next_id string_bytes c.args.self.now c.self.inside.paths.keys c.self.view_is c.args.path.now c.requires.unknown

pub returns-clause-paths : goal.returns-clause-paths
returns-clause-paths c =
    ap (map string_bytes) c.in_ok-insert.ensures.keys ∙ added_paths string_bytes c.args.self.now c.self.inside.paths.keys c.self.view_is c.args.path.now c.requires.unknown c.in_ok-new_path.new_path c.in_ok-new_path.ensures.ok

pub returns-clause-distinct : goal.returns-clause-distinct
returns-clause-distinct c = distinct_mapped bytes_eq string_bytes _ c.insert.ensures.unique

pub returns-then-next_id-clause-distinct : goal.returns-then-next_id-clause-distinct
returns-then-next_id-clause-distinct c = rw (← c.self.view_is) (c.self.invariant.1)

pub returns-in_err-new_path-clause-distinct : goal.returns-in_err-new_path-clause-distinct
returns-in_err-new_path-clause-distinct c = rw (← c.self.view_is) (c.self.invariant.1)

pub returns-in_err-insert-clause-distinct : goal.returns-in_err-insert-clause-distinct
returns-in_err-insert-clause-distinct c = distinct_mapped bytes_eq string_bytes _ c.insert.ensures.unique
