use Rattle.std.proofs.Common.{◌+◌, ◌*◌, ap, length, arith}
use Rattle.ii_reader.proofs.BoundLemmas.{placed_behind, placed_here, unwanted_first, unwanted_next}
use Rattle.ii_reader.proofs.block_segment_postings.BlockSegmentPostings.place_with_freq.Goals as goal

pub loop-idx-init : goal.loop-idx-init
loop-idx-init c = unwanted_first c.args.self.now.freqs c.args.target c.args.least (128 * c.args.self.now.block + c.args.from) c.args.self.now.docs

pub loop-idx-preserved : goal.loop-idx-preserved
loop-idx-preserved c =
    let s = c.args.self.now in
    unwanted_next s.freqs c.args.target c.args.least s.block c.loop-idx.idx (128 * s.block + c.args.from) s.docs c.is_wanted.result c.loop-idx.invariant c.if-is_wanted.false c.is_wanted.ensures

pub returns-then-is_wanted-clause-found : goal.returns-then-is_wanted-clause-found
returns-then-is_wanted-clause-found c =
    let s = c.args.self.now in
    let docs = ap length c.docs-len.ensures.docs in
    let low = c.loop-idx-test.true in
    let from = c.loop-idx.auto.idx in
    placed_here s.freqs c.args.target c.args.least s.block c.loop-idx.idx (128 * s.block + c.args.from) s.docs c.is_wanted.result c.loop-idx.invariant c.if-is_wanted.true c.is_wanted.ensures (omega arith) (omega arith)

pub returns-clause-found : goal.returns-clause-found
returns-clause-found c =
    let s = c.args.self.now in
    let docs = ap length c.docs-len.ensures.docs in
    let over = c.loop-idx-test.false in
    placed_behind s.freqs c.args.target c.args.least s.block c.args.from c.loop-idx.idx c.max.result s.docs c.loop-idx.invariant c.requires.from (omega arith) (omega arith)
