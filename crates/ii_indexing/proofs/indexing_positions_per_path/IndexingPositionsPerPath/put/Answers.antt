use Rattle.ii_indexing.proofs.PathPositions.{position_put}
use Rattle.ii_indexing.proofs.indexing_positions_per_path.IndexingPositionsPerPath.put.Goals as goal

pub returns-clause-ok : goal.returns-clause-ok
returns-clause-ok c = position_put c.self.inside.positions c.insert.new.self c.args.path_id c.args.position c.args.self.now c.in_ok-insert.ensures.updates c.self.view_is
