use Rattle.ii_promises.proofs.CheckingLaws.{kept_after, told_first, told_place, trusted_after}
use Rattle.ii_promises.proofs.opening.a_check_tells_the_first_damage.Goals as goal

pub returns-clause-told : goal.returns-clause-told
returns-clause-told c = told_place c.args.index.now.readers c.check.result c.check.ensures.found

pub returns-clause-first : goal.returns-clause-first
returns-clause-first c = told_first c.args.index.now.readers c.check.result c.check.ensures.found

pub returns-clause-trusted : goal.returns-clause-trusted
returns-clause-trusted c = trusted_after c.args.index.now c.check.new.self c.check.result c.check.ensures.after

pub returns-clause-same : goal.returns-clause-same
returns-clause-same c = kept_after c.args.index.now c.check.new.self c.check.result c.check.ensures.after
