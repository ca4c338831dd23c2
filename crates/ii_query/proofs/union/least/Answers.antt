use Rattle.ii_query.proofs.UnionLemmas.{either_sound, first_is_least, other_is_least}
use Rattle.ii_query.proofs.union.least.Goals as goal

pub returns-then-one-two-clause-doc : goal.returns-then-one-two-clause-doc
returns-then-one-two-clause-doc g c =
    first_is_least (g.A.DocSet.rest c.args.first.now) (g.B.DocSet.rest c.args.other.now) c.doc-one.result c.doc-two.result c.doc-one.ensures.sound c.doc-two.ensures.sound c.doc-one.ensures.doc c.doc-two.ensures.doc c.if-one-two.true

pub returns-then-one-two-clause-sound : goal.returns-then-one-two-clause-sound
returns-then-one-two-clause-sound g c = either_sound (g.A.DocSet.rest c.args.first.now) (g.B.DocSet.rest c.args.other.now) c.doc-one.ensures.sound c.doc-two.ensures.sound

pub returns-else-one-two-clause-doc : goal.returns-else-one-two-clause-doc
returns-else-one-two-clause-doc g c =
    other_is_least (g.A.DocSet.rest c.args.first.now) (g.B.DocSet.rest c.args.other.now) c.doc-one.result c.doc-two.result c.doc-one.ensures.sound c.doc-two.ensures.sound c.doc-one.ensures.doc c.doc-two.ensures.doc c.if-one-two.false

pub returns-else-one-two-clause-sound : goal.returns-else-one-two-clause-sound
returns-else-one-two-clause-sound g c = either_sound (g.A.DocSet.rest c.args.first.now) (g.B.DocSet.rest c.args.other.now) c.doc-one.ensures.sound c.doc-two.ensures.sound
