use Rattle.ii_promises.proofs.OpeningLaws.{no_range_outside, range_outside}
use Rattle.ii_promises.proofs.opening.ranges_outside_are_refused.Goals as goal

pub read_postings_from_terminfo-requires : goal.read_postings_from_terminfo-requires
read_postings_from_terminfo-requires c = tt

pub returns-clause-outside : goal.returns-clause-outside
returns-clause-outside c = λ outside. c.read_postings_from_terminfo.ensures.range.1 (range_outside c.args.reader.now c.args.info.now outside)

pub returns-clause-within : goal.returns-clause-within
returns-clause-within c = λ refused. no_range_outside c.args.reader.now c.args.info.now (c.read_postings_from_terminfo.ensures.range.0 refused)
