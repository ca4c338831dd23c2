use Rattle.std.proofs.Common.{◌≡◌}
use Rattle.ii_warmup.proofs.CopyingLemmas.{IsCopying}
use Rattle.ii_warmup.proofs.copying.copy_terms.Given as goal

abbrev pub invariant-loop-term : goal.invariant-loop-term
invariant-loop-term g l = record {
  postings : l.postings ≡ l.initial.postings;
  positions : l.positions ≡ l.initial.positions;
  copying : IsCopying l.option (g.P.FileHandle.bytes l.initial.postings) (g.Q.FileHandle.bytes l.initial.positions) l.wanted l.count l.term-index l.copied;
}
