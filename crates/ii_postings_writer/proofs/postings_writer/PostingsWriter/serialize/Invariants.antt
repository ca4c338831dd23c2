use Rattle.std.proofs.Common.{◌≡◌}
use Rattle.ii_postings_writer.proofs.TermsLemmas.{IsSerializing}
use Rattle.ii_postings_writer.proofs.postings_writer.PostingsWriter.serialize.Given as goal

abbrev pub invariant-loop-place : goal.invariant-loop-place
invariant-loop-place g l =
    IsSerializing l.fn.terms l.place l.fn.serializer.index.now l.serializer.index.now × (l.serializer.index.ghost_name ≡ l.fn.serializer.index.ghost_name)
