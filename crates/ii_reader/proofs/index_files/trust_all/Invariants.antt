use Rattle.std.proofs.Common.{◌≡◌}
use Rattle.ii_reader.proofs.KnownLemmas.{trusted_to}
use Rattle.ii_reader.proofs.index_files.trust_all.Given as goal

abbrev pub invariant-loop-reader : goal.invariant-loop-reader
invariant-loop-reader l = l.reader-items ≡ trusted_to l.reader-index l.fn.readers
