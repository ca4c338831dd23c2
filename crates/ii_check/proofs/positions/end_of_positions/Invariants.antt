use Rattle.std.proofs.Common.{ℕ, ◌≡◌, ◌+◌, true, length, take, drop}
use Rattle.std.specs.List.{sum}
use Rattle.ii_check.specs.CheckedPositions.{SpendsTo}
use Rattle.ii_check.specs.Positions.{suffice}
use Rattle.ii_check.proofs.positions.end_of_positions.Given as goal

abbrev pub invariant-loop-freq : goal.invariant-loop-freq
invariant-loop-freq l = record {
  same : l.reader.deltas ≡ l.fn.reader.deltas;
  len_is : l.len ≡ length l.fn.reader.deltas;
  end_is : l.end ≡ l.start + sum (take l.freq-index l.freqs);
  enough : suffice (take l.freq-index l.freqs) (drop l.start l.fn.reader.deltas) ≡ true;
  decodes : (before : ℕ) → SpendsTo before l.start l.fn.reader → SpendsTo before l.end l.reader;
}
