use Rattle.std.proofs.Common.{◌∙◌, ◌-◌, ◌<◌, ◌++◌, ◌^◌, ap, drop, length, min, subst, sym, take}
use Rattle.ii_docset.specs.Cursor.{position_before}
use Rattle.ii_living_docs.proofs.LivingLemmas.{current_living}
use Rattle.ii_living_docs.proofs.living_docs.LivingDocsPostings.read_positions.Goals as goal

pub read_positions-requires-clause-current : goal.read_positions-requires-clause-current
read_positions-requires-clause-current g c =
    (current_living c.self.inside.base c.self.inside.alive.now (g.D.DocSet.rest c.self.inside.inner) c.self.invariant.0 c.self.invariant.1 (rw (← c.self.view_is) at c.requires.current)).current

pub read_positions-requires-clause-before : goal.read_positions-requires-clause-before
read_positions-requires-clause-before g c =
    let here = current_living c.self.inside.base c.self.inside.alive.now (g.D.DocSet.rest c.self.inside.inner) c.self.invariant.0 c.self.invariant.1 (rw (← c.self.view_is) at c.requires.current) in
    (rw (← c.self.view_is) at c.requires.before) ∙ sym (ap (position_before c.args.from) here.positions)

pub returns-clause-count : goal.returns-clause-count
returns-clause-count g c =
    let here = current_living c.self.inside.base c.self.inside.alive.now (g.D.DocSet.rest c.self.inside.inner) c.self.invariant.0 c.self.invariant.1 (rw (← c.self.view_is) at c.requires.current) in
    rw (← c.self.view_is) (c.read_positions.ensures.count ∙ ap (λ ps. min (length c.args.output.now) (length ps - c.args.from)) here.positions)

pub returns-clause-read : goal.returns-clause-read
returns-clause-read g c =
    let here = current_living c.self.inside.base c.self.inside.alive.now (g.D.DocSet.rest c.self.inside.inner) c.self.invariant.0 c.self.invariant.1 (rw (← c.self.view_is) at c.requires.current) in
    rw (← c.self.view_is) (c.read_positions.ensures.read ∙ ap (λ ps. take (length c.args.output.now) (drop c.args.from ps) ++ drop (length ps - c.args.from) c.args.output.now) here.positions)

pub returns-clause-few : goal.returns-clause-few
returns-clause-few g c =
    let here = current_living c.self.inside.base c.self.inside.alive.now (g.D.DocSet.rest c.self.inside.inner) c.self.invariant.0 c.self.invariant.1 (rw (← c.self.view_is) at c.requires.current) in
    rw (← c.self.view_is) (subst (λ ps. length ps < 2 ^ 32) here.positions c.read_positions.ensures.few)
