use Rattle.ii_definitions.specs.Files.{bytes_in}
use Rattle.ii_check.specs.declared.validation.Validation.TheVariants.{Complete, Skipped}
use Rattle.ii_reader.specs.InvertedIndexReader.{given_if, reads_positions}
use Rattle.ii_reader.specs.SegmentPostings.{SegmentPostingsState}
use Rattle.ii_reader.proofs.KnownLemmas.{list_known}
use Rattle.ii_reader.proofs.ReaderLemmas.{file_list, list_is, list_no_range, memory_alone, no_range, opens_term, refused_by}
use Rattle.ii_reader.proofs.inverted_index_reader.InvertedIndexReader.open_postings.Goals as goal

pub open_known-requires : goal.open_known-requires
open_known-requires c =
    rw (c.in-Ok.ensures.postings, c.in-Ok.ensures.positions, c.record_option-record_option.ensures) (list_known c.args.self.now c.args.option c.args.term_info.now (c.requires c.in-Skipped.is))

pub returns-in-Skipped-clause-ok : goal.returns-in-Skipped-clause-ok
returns-in-Skipped-clause-ok c =
    rw c.in-Skipped.is (opens_term Skipped c.args.self.now c.args.option c.args.term_info.now c.open_known.result c.in-Ok.ensures.lie (rw (c.in-Ok.ensures.postings, c.in-Ok.ensures.positions, c.record_option-record_option.ensures) at c.open_known.ensures))

pub returns-in-Skipped-clause-holds : goal.returns-in-Skipped-clause-holds
returns-in-Skipped-clause-holds c = λ field key tokens held.
    list_is c.args.self.now field key c.args.option tokens c.args.term_info.now c.open_known.result.rest held (returns-in-Skipped-clause-ok c).list

pub returns-in-Ok-open-clause-ok : goal.returns-in-Ok-open-clause-ok
returns-in-Ok-open-clause-ok c =
    rw c.in-Complete.is (opens_term Complete c.args.self.now c.args.option c.args.term_info.now c.in-Ok-open.cursor c.in-Ok.ensures.lie (rw (c.in-Ok.ensures.postings, c.in-Ok.ensures.positions, c.record_option-record_option.ensures) at c.in-Ok-open.ensures.opened))

pub returns-in-Ok-open-clause-holds : goal.returns-in-Ok-open-clause-holds
returns-in-Ok-open-clause-holds c = λ field key tokens held.
    list_is c.args.self.now field key c.args.option tokens c.args.term_info.now c.in-Ok-open.cursor.rest held (returns-in-Ok-open-clause-ok c).list

pub returns-in-Err-open-clause-err : goal.returns-in-Err-open-clause-err
returns-in-Err-open-clause-err c =
    let refused = rw (c.in-Ok.ensures.postings, c.in-Ok.ensures.positions, c.record_option-record_option.ensures) at c.in-Err-open.ensures.err in
    rw c.from.ensures (refused_by _ c.in-Err-open.fault (file_list c.args.self.now c.args.option c.args.term_info.now _ c.in-Ok.ensures.lie refused))

pub returns-in-Err-open-clause-range : goal.returns-in-Err-open-clause-range
returns-in-Err-open-clause-range c =
    let reader = c.args.self.now in
    let info = c.args.term_info.now in
    let refused = rw (c.in-Ok.ensures.postings, c.in-Ok.ensures.positions, c.record_option-record_option.ensures) at c.in-Err-open.ensures.err in
    rw c.from.ensures (no_range {T = SegmentPostingsState} _ _ c.in-Err-open.fault c.in-Ok.ensures.lie refused
    (list_no_range reader.option c.args.option info.doc_freq (bytes_in reader.postings info.postings_range) (given_if (reads_positions reader c.args.option) (bytes_in reader.positions info.positions_range))))

pub returns-in-Err-open-clause-holds : goal.returns-in-Err-open-clause-holds
returns-in-Err-open-clause-holds c = λ field key tokens held.
    memory_alone c.args.self.now field key c.args.option tokens c.args.term_info.now c.from.result held (returns-in-Err-open-clause-err c)
