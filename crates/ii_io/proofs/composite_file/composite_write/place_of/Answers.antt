use Rattle.std.proofs.Common.{arith, add-one}
use Rattle.ii_io.proofs.CompositeWriteLemmas.{place_next, place_last}
use Rattle.ii_io.proofs.composite_file.composite_write.place_of.Goals as goal

pub returns-then-i-starts : goal.returns-then-i-starts
returns-then-i-starts c =
    place_next c.args.starts.now c.args.i c.args.end c.index-starts-i.result c.index-starts-i-then-i-starts.result (omega arith) c.index-starts-i.is (rw add-one at c.index-starts-i-then-i-starts.is)

pub returns : goal.returns
returns c =
    let last = c.if-i-starts.false in
    place_last c.args.starts.now c.args.i c.args.end c.index-starts-i.result (omega arith) c.index-starts-i.is
