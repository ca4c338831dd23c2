use Rattle.std.proofs.Common.{◌≡◌, ◌+◌, ◌*◌, arith, sym, refl}
use Rattle.ii_codes.proofs.PackedLemmas.{entries_in-zero, all_packed}
use Rattle.ii_codes.proofs.PairLemmas.{words_of, words_fit, eight_written}
use Rattle.ii_codes.proofs.packed.pairs.pack_narrow.Goals as goal

pub loop-group-init : goal.loop-group-init
loop-group-init g c =
    let none : 0 * g.row.W ≡ 0 = omega arith in
    rw none (sym (entries_in-zero g.row.W 8 c.args.entries.now))

pub put_quads-requires-clause-fits : goal.put_quads-requires-clause-fits
put_quads-requires-clause-fits g c =
    let fit = words_fit g.row.W _ _ _ _ _ c.args.entries.now c.quads.result c.quads.ensures in
    (fit.0, fit.1)

pub put_quads-requires-in-loop-group-clause-fits : goal.put_quads-requires-in-loop-group-clause-fits
put_quads-requires-in-loop-group-clause-fits g c =
    let fit = words_fit g.row.W _ _ _ _ _ c.args.entries.now c.quads.result c.quads.ensures in
    (fit.2, fit.3)

pub loop-group-preserved : goal.loop-group-preserved
loop-group-preserved g c =
    let words = words_of g.row.W c.loop-group.group c.args.entries.now c.quads.result c.quads.ensures in
    let first = eight_written g.row.W (2 * c.loop-group.group) (2 * c.loop-group.group * g.row.W) ((2 * c.loop-group.group + 1) * g.row.W) _ c.args.entries.now c.loop-group.output c.put_quads.new.output
    refl refl c.requires.narrow words.0 c.loop-group.invariant c.put_quads.ensures in
    let next : 2 * (c.loop-group.group + 1) ≡ 2 * c.loop-group.group + 1 + 1 = omega arith in
    rw next (eight_written g.row.W (2 * c.loop-group.group + 1) ((2 * c.loop-group.group + 1) * g.row.W) ((2 * c.loop-group.group + 1 + 1) * g.row.W) _ c.args.entries.now c.put_quads.new.output c.put_quads-in-loop-group.new.output
    refl refl c.requires.narrow words.1 first c.put_quads-in-loop-group.ensures)

pub returns : goal.returns
returns g c =
    let last : c.loop-group.group ≡ 8 = omega arith in
    let end : 2 * c.loop-group.group * g.row.W ≡ 16 * g.row.W = rw last (omega arith) in
    all_packed g.row.W (2 * c.loop-group.group * g.row.W) c.args.entries.now c.loop-group.output c.loop-group.invariant end
