use Rattle.ii_reader.proofs.BlockLemmas.{doc_held}
use Rattle.ii_reader.proofs.block_segment_postings.BlockSegmentPostings.doc.Goals as goal

pub returns-clause-doc : goal.returns-clause-doc
returns-clause-doc c =
    let s = c.self.inside in
    rw (← c.self.view_is) (doc_held s.checked.postings.docs s.skip.block c.args.idx c.output.result s.doc_decoder c.self.invariant.docs_held c.requires c.output.ensures)
