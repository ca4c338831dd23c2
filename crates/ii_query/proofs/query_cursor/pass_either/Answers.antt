use Rattle.std.proofs.Common.{arith}
use Rattle.ii_query.proofs.NestedLemmas.{either_at}
use Rattle.ii_query.proofs.UnionLemmas.{either_at_most, either_next, either_sound}
use Rattle.ii_query.proofs.query_cursor.pass_either.Goals as goal

pub returns-clause-at : goal.returns-clause-at
returns-clause-at g c =
    rw (c.min.ensures) (either_at c.pass-one.new.self.rest c.pass-two.new.self.rest c.pass-one.result c.pass-two.result c.pass-one.ensures.sound c.pass-two.ensures.sound c.pass-one.ensures.doc c.pass-two.ensures.doc)

pub returns-clause-rest : goal.returns-clause-rest
returns-clause-rest g c =
    let es = c.args.first.now.rest in
    let fs = c.args.other.now.rest in
    either_next c.args.doc es fs c.pass-one.new.self.rest c.pass-two.new.self.rest (either_sound es fs c.current-one.ensures.sound c.current-two.ensures.sound) c.requires.here c.requires.low c.pass-one.ensures.rest c.pass-two.ensures.rest

pub pass-one-requires-clause-least : goal.pass-one-requires-clause-least
pass-one-requires-clause-least g c =
    let most = (either_at_most c.args.first.now.rest c.args.other.now.rest c.current-one.ensures.sound.ascending c.current-two.ensures.sound.ascending).0 in
    let here = c.requires.here in
    let first = c.current-one.ensures.doc in
    omega (arith, most, here, first)

pub pass-two-requires-clause-least : goal.pass-two-requires-clause-least
pass-two-requires-clause-least g c =
    let most = (either_at_most c.args.first.now.rest c.args.other.now.rest c.current-one.ensures.sound.ascending c.current-two.ensures.sound.ascending).1 in
    let here = c.requires.here in
    let other = c.current-two.ensures.doc in
    omega (arith, most, here, other)
