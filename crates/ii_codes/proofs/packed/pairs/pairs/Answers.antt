use Rattle.ii_codes.proofs.PairLemmas.{pairs_of}
use Rattle.ii_codes.proofs.WideLaneLemmas.{four_list}
use Rattle.ii_codes.proofs.packed.pairs.pairs.Goals as goal

pub returns : goal.returns
returns c =
    rw (four_list c.args.low c.requires.low, four_list c.args.high c.requires.high)
    (pairs_of c.args.width c.args.low c.args.high c.requires.narrow c.requires.low_fits c.requires.high_fits)
