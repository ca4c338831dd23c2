use Rattle.std.proofs.Common.{◌*◌, drop, arith, length-take}
use Rattle.ii_reader.proofs.BoundLemmas.{wanted_by, wanted_no}
use Rattle.ii_reader.proofs.block_segment_postings.BlockSegmentPostings.is_wanted.Goals as goal

pub doc-requires : goal.doc-requires
doc-requires c =
    let size = length-take 128 (drop (128 * c.args.self.now.block) c.args.self.now.docs) in
    let inside = c.requires.inside in
    omega arith

pub returns-then-doc-target : goal.returns-then-doc-target
returns-then-doc-target c =
    let s = c.args.self.now in
    wanted_no s.freqs c.args.target c.args.least s.block c.args.idx c.doc.result s.docs c.doc.ensures.doc c.if-doc-target.true c.requires.inside

pub returns : goal.returns
returns c =
    let s = c.args.self.now in
    let over = c.if-doc-target.false in
    wanted_by s.freqs c.args.target c.args.least s.block c.args.idx c.doc.result c.freq.result s.docs c.doc.ensures.doc (omega arith) c.freq.ensures c.requires.inside
