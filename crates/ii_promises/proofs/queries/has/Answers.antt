use Rattle.std.proofs.Common.{sym}
use Rattle.ii_query.proofs.MatchLaws.{has_found, has_missed}
use Rattle.ii_promises.proofs.queries.has.Goals as goal

pub returns-in-Found : goal.returns-in-Found
returns-in-Found g c = sym (has_found (g.D.DocSet.rest c.args.cursor.now) c.args.doc c.requires (rw (← c.seek_danger.ensures.rest c.requires) c.in-Found.ensures.answer.1))

pub returns-in-SeekLowerBound : goal.returns-in-SeekLowerBound
returns-in-SeekLowerBound g c =
    sym (has_missed (g.D.DocSet.rest c.args.cursor.now) c.args.doc c.doc-first.ensures.sound.ascending (rw (← c.seek_danger.ensures.rest c.requires) (c.in-SeekLowerBound.ensures.answer.0 c.requires).0))
