use Rattle.std.proofs.Common.{ap, arith}
use Rattle.ii_base.specs.declared.doc_id.TheConstants.{TERMINATED}
use Rattle.ii_check.specs.CheckedPostings.{CheckedPostingsState}
use Rattle.ii_check.proofs.DecodedBlocksLaws.{logs, logs_first}
use Rattle.ii_check.proofs.checked_postings.CheckedPostings.first_block.Goals as goal

pub returns-then-self-clause-logs : goal.returns-then-self-clause-logs
returns-then-self-clause-logs c =
    let p = c.args.self.now in
    let freq = ap (λ (s : CheckedPostingsState). s.doc_freq) c.self.view_is in
    let few = c.if-self.true in
    let loads = c.requires (omega arith) in
    let docs = rw c.skip_reader-skip.ensures.first at c.with_block-decoded_blocks.ensures in
    let freqs = rw c.skip_reader-skip.ensures.first at c.with_block-decoded_blocks-then-self.ensures in
    record {
      docs_are = logs p.postings.docs 0 TERMINATED c.args.doc_decoder.now _ _ loads.docs_are.holds docs;
      freqs_are = logs_first p.postings.freqs _ _ c.args.freq_decoder.now loads.freqs_are freqs;
    }

pub returns-clause-loads : goal.returns-clause-loads
returns-clause-loads c = rw (c.skip_reader-skip.ensures.first, c.with_val.ensures, c.with_val-2.ensures) at c.load_block.ensures.loads

pub returns-clause-logs : goal.returns-clause-logs
returns-clause-logs c = rw c.skip_reader-skip.ensures.first at c.load_block.ensures.logs
