use Rattle.std.proofs.Common.{subst}
use Rattle.ii_reader.specs.InvertedIndexReader.{AllOpen, InvertedIndexReaderState}
use Rattle.ii_reader.proofs.KnownLemmas.{key_known}
use Rattle.ii_reader.proofs.inverted_index_reader.InvertedIndexReader.read_postings.Goals as goal

pub open_postings-requires : goal.open_postings-requires
open_postings-requires c = λ skipped.
    let all = subst (λ (r : InvertedIndexReaderState). AllOpen r) c.self.view_is (c.self.invariant skipped) in
    key_known c.args.self.now c.args.term.now.value c.args.option c.in-Some.term_info all c.in-Some.ensures.value

pub returns-in-Err-clause-holds : goal.returns-in-Err-clause-holds
returns-in-Err-clause-holds c = λ field tokens held.
    c.in-Err.ensures.holds field c.args.term.now.value tokens (c.in-Some.ensures.holds field tokens held)
