use Rattle.std.proofs.Common.{subst}
use Rattle.ii_reader.specs.InvertedIndexReader.{AllOpen, InvertedIndexReaderState}
use Rattle.ii_reader.proofs.KnownLemmas.{key_docs_known}
use Rattle.ii_reader.proofs.inverted_index_reader.InvertedIndexReader.read_block_postings.Goals as goal

pub open_block_postings-requires : goal.open_block_postings-requires
open_block_postings-requires c = λ skipped.
    let all = subst (λ (r : InvertedIndexReaderState). AllOpen r) c.self.view_is (c.self.invariant skipped) in
    key_docs_known c.args.self.now c.args.term.now.value c.args.option c.in-Some.term_info all c.in-Some.ensures.value
