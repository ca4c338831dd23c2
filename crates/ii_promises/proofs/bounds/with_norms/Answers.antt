use Rattle.std.proofs.Common.{Ok, Some, Option, Result, sym, ap, ◌∙◌, refl}
use Rattle.ii_base.specs.declared.schema.index_record_option.IndexRecordOption.TheVariants.{WithFreqs}
use Rattle.ii_io.specs.declared.faults.Fault.{Fault}
use Rattle.ii_termdict.specs.Dictionary.{info_under}
use Rattle.ii_termstore.specs.declared.term_info.TermInfo.{TermInfo}
use Rattle.ii_reader.specs.BlockSegmentPostings.{BlockSegmentPostingsState}
use Rattle.ii_reader.specs.InvertedIndexReader.{OpensBlocks}
use Rattle.ii_promises.proofs.NormBoundLaws.{norms_reach_bounds, opened_blocks}
use Rattle.ii_promises.proofs.bounds.with_norms.Goals as goal

pub returns : goal.returns
returns c = λ freqs i k bound read bounded full within.
    let reader = c.reader-reader.result.now in
    let found = info_under c.args.term.now.value reader.terms in
    let answer = c.read_block_postings.result in
    let as_ok : Option BlockSegmentPostingsState → Result (Option BlockSegmentPostingsState) Fault = λ o. Ok o in
    norms_reach_bounds c.args.index.now c.field-field.result reader c.args.term.now.value c.in-Some-2.blocks c.in-Some.norms c.requires.bounds c.reader-reader.ensures (sym c.in-Some.is ∙ c.in_ok-norms.ensures.found) found refl
    (opened_blocks (λ (info : TermInfo) (cursor : BlockSegmentPostingsState). OpensBlocks reader.validation reader.postings reader.option WithFreqs info cursor) found answer c.in-Some-2.blocks (c.in_ok-blocks.was ∙ ap as_ok c.in-Some-2.is) c.read_block_postings.ensures.none c.read_block_postings.ensures.ok)
    freqs i k bound read bounded full within
