use Rattle.std.proofs.Common.{sym, Some, None}
use Rattle.ii_indexing.proofs.PathPositions.{position_found}
use Rattle.ii_indexing.proofs.indexing_positions_per_path.IndexingPositionsPerPath.position.Goals as goal

pub returns-in-Some : goal.returns-in-Some
returns-in-Some c = sym (position_found c.self.inside.positions c.args.self.now c.args.path_id (Some c.in-Some.position.now) c.self.view_is c.in-Some.ensures.value)

pub returns-in-None : goal.returns-in-None
returns-in-None c = sym (position_found c.self.inside.positions c.args.self.now c.args.path_id None c.self.view_is c.in-None.ensures.value)
