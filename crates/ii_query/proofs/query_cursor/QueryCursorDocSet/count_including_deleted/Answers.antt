use Rattle.std.proofs.Common.{rules}
use Rattle.std.specs.List.{AllZip}
use Rattle.ii_query.proofs.WorkLemmas.{all_beside}
use Rattle.ii_query.proofs.query_cursor.QueryCursorDocSet.count_including_deleted.Goals as goal

pub returns-in-Either-clause-work : goal.returns-in-Either-clause-work
returns-in-Either-clause-work g c =
    let first : AllZip g.T.DocSet.went c.in-Either.first.value.cursors c.count_either-count.new.first.cursors = search rules in
    let other : AllZip g.T.DocSet.went c.in-Either.other.value.cursors c.count_either-count.new.other.cursors = search rules in
    rw (← c.self.view_is, c.in-Either.is)
    (all_beside g.T.DocSet.went c.in-Either.first.value.cursors c.in-Either.other.value.cursors c.count_either-count.new.first.cursors c.count_either-count.new.other.cursors first other)
