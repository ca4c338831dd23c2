use Rattle.std.proofs.Common.{subst, sym}
use Rattle.ii_reader.specs.InvertedIndexReader.{AllOpen, InvertedIndexReaderState}
use Rattle.ii_reader.proofs.inverted_index_reader.InvertedIndexReader.trust.Goals as goal

pub invariant_of-self : goal.invariant_of-self
invariant_of-self c = λ set. λ key requested. (subst (λ (r : InvertedIndexReaderState). AllOpen r) (sym c.self.view_is) c.requires) key requested
