use Rattle.std.proofs.Common.{◌<◌, ◌≤◌, length, rules}
use Rattle.ii_damage.proofs.WalkedLemmas.{terms_next, terms_over}
use Rattle.ii_damage.proofs.walking.TermWalk.walk_terms.Goals as goal

pub loop-ord-preserved : goal.loop-ord-preserved
loop-ord-preserved c =
    let low : c.loop-ord._ord < length c.args.reader.now.terms = search rules in
    terms_next c.args.num_docs c.args.places.now c.args.reader.now c.loop-ord.terms c.next.new.self c.loop-ord._ord c.in-Some.key.now c.in-Some.info c.loop-ord.found.items c.push_damage.new.found.items c.in_ok-damage.damage
    c.args.self.now c.loop-ord.self c.walk_term.new.self low c.in-Some.ensures.key c.in-Some.ensures.value c.in-Some.ensures.passed c.in_ok-damage.ensures.damage c.in_ok-push_damage.ensures.found c.in_ok-damage.ensures.walked c.loop-ord.invariant

pub returns-clause-walked : goal.returns-clause-walked
returns-clause-walked c =
    let end : length c.args.reader.now.terms ≤ c.loop-ord._ord = search rules in
    (terms_over c.args.num_docs c.args.places.now c.args.reader.now c.loop-ord.terms c.loop-ord._ord c.loop-ord.found.items c.args.self.now c.loop-ord.self end c.loop-ord.invariant).walked
