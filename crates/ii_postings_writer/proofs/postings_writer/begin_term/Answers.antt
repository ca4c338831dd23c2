use Rattle.ii_postings_writer.specs.SortedTerms.{state_of}
use Rattle.ii_postings_writer.proofs.TermSteps.{begins}
use Rattle.ii_postings_writer.proofs.postings_writer.begin_term.Goals as goal

pub returns-clause-begun : goal.returns-clause-begun
returns-clause-begun g c =
    let e = c.new_term.ensures in
    begins c.args.serializer.now.index.now c.new_term.new.self.index.now (state_of c.args.term) c.key_of-key.result.now c.has_term_freq.result c.new_term.result c.key_of-key.ensures c.has_term_freq.ensures e.writing e.term e.inside e.ends
