use Rattle.ii_reader.proofs.DamageLemmas.{IsChecking}
use Rattle.ii_reader.proofs.inverted_index_reader.InvertedIndexReader.first_damaged_term.Given as goal

abbrev pub invariant-loop-ord : goal.invariant-loop-ord
invariant-loop-ord l = IsChecking l.self l.terms l.ord
