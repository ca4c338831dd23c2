use Rattle.std.proofs.Common.{◌+◌, arith}
use Rattle.ii_codes.proofs.PairLemmas.{four_fit, pairs_fit, quads_of}
use Rattle.ii_codes.proofs.packed.pairs.quads.Goals as goal

pub pairs-requires-clause-low_fits : goal.pairs-requires-clause-low_fits
pairs-requires-clause-low_fits g c =
    pairs_fit g.row.W c.four_at.result c.four_at-2.result c.pairs-low.result
    (four_fit g.row.W c.args.first c.args.entries.now c.four_at.result c.requires.fits (omega arith) c.four_at.ensures)
    (four_fit g.row.W (c.args.first + 4) c.args.entries.now c.four_at-2.result c.requires.fits (omega arith) c.four_at-2.ensures)
    c.pairs-low.ensures

pub pairs-requires-clause-high_fits : goal.pairs-requires-clause-high_fits
pairs-requires-clause-high_fits g c =
    pairs_fit g.row.W c.four_at-3.result c.four_at-4.result c.pairs-high.result
    (four_fit g.row.W (c.args.first + 8) c.args.entries.now c.four_at-3.result c.requires.fits (omega arith) c.four_at-3.ensures)
    (four_fit g.row.W (c.args.first + 12) c.args.entries.now c.four_at-4.result c.requires.fits (omega arith) c.four_at-4.ensures)
    c.pairs-high.ensures

pub returns : goal.returns
returns g c =
    rw c.pairs.ensures (quads_of g.row.W c.args.first c.args.entries.now c.four_at.result c.four_at-2.result c.four_at-3.result c.four_at-4.result c.pairs-low.result c.pairs-high.result
    c.requires.fits (omega arith) c.four_at.ensures c.four_at-2.ensures c.four_at-3.ensures c.four_at-4.ensures c.pairs-low.ensures c.pairs-high.ensures)
