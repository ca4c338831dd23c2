use Rattle.std.proofs.Common.{◌≡◌, ◌+◌, refl, ◌∙◌, arith}
use Rattle.ii_check.proofs.PositionLemmas.{sum_more, part_read, part_size, fits_not, fits_all}
use Rattle.ii_check.proofs.SpentLemmas.{spends_read}
use Rattle.ii_check.proofs.positions.position_fits.Goals as goal

pub returns-then-position-from-clause-fits : goal.returns-then-position-from-clause-fits
returns-then-position-from-clause-fits c =
    let l = c.loop-done in
    let less = c.loop-done-test.true in
    let few = c.min-count.ensures in
    let read = part_read c.args.reader.now.deltas l.reader.deltas c.read.new.output l.buffer c.args.start c.from.result l.done c.min-count.result l.invariant.same l.invariant.size (omega arith) c.from.ensures c.read.ensures.read in
    let more = sum_more c.args.reader.now.deltas c.read.new.output c.args.start l.done c.min-count.result read in
    let total = l.invariant.total in
    let chunk = c.sum_of-position.ensures.sum in
    let high = c.if-position-from.true in
    let most = c.from-in-loop-done.ensures in
    fits_not c.args.reader.now.deltas c.args.start c.args.freq (l.done + c.min-count.result) (omega arith) (omega arith)

pub loop-done-preserved : goal.loop-done-preserved
loop-done-preserved c =
    let l = c.loop-done in
    let less = c.loop-done-test.true in
    let few = c.min-count.ensures in
    let inside = c.requires.inside in
    let read = part_read c.args.reader.now.deltas l.reader.deltas c.read.new.output l.buffer c.args.start c.from.result l.done c.min-count.result l.invariant.same l.invariant.size (omega arith) c.from.ensures c.read.ensures.read in
    let more = sum_more c.args.reader.now.deltas c.read.new.output c.args.start l.done c.min-count.result read in
    let total = l.invariant.total in
    let chunk = c.sum_of-position.ensures.sum in
    let low = c.if-position-from.false in
    let most = c.from-in-loop-done.ensures in
    record {
      within = omega arith;
      same = c.read.ensures.deltas ∙ l.invariant.same;
      total = omega arith;
      low = omega arith;
      size = part_size c.args.reader.now.deltas c.read.new.output l.buffer (c.args.start + l.done) c.min-count.result read (omega arith) l.invariant.size (omega arith);
      decodes = λ before some. spends_read before c.args.start l.done c.min-count.result c.from.result (c.args.start + (l.done + c.min-count.result)) l.buffer l.reader c.read.new.self (l.invariant.decodes before some) (omega arith) l.invariant.size (omega arith) c.from.ensures c.read.ensures.once c.read.ensures.block refl;
    }

pub returns-clause-fits : goal.returns-clause-fits
returns-clause-fits c =
    let l = c.loop-done in
    let over = c.loop-done-test.false in
    let within = l.invariant.within in
    let end : l.done ≡ c.args.freq = omega arith in
    let total = l.invariant.total in
    let low = l.invariant.low in
    fits_all c.args.reader.now.deltas c.args.start c.args.freq (rw (← end, ← total) low)

pub returns-clause-decodes : goal.returns-clause-decodes
returns-clause-decodes c = λ fits before some.
    let l = c.loop-done in
    let over = c.loop-done-test.false in
    let within = l.invariant.within in
    let end : l.done ≡ c.args.freq = omega arith in
    rw (← end) (l.invariant.decodes before some)
