use Rattle.std.specs.Prelude.{⊤}
use Rattle.ii_definitions.specs.Files.{bytes_in}
use Rattle.ii_check.specs.declared.validation.Validation.TheVariants.{Complete}
use Rattle.ii_reader.specs.InvertedIndexReader.{given_if, reads_positions}
use Rattle.ii_reader.proofs.ReaderLemmas.{file_list, list_is, list_no_range, memory_alone, no_range, opens_term, refused_by}
use Rattle.ii_reader.proofs.inverted_index_reader.InvertedIndexReader.reset_postings_from_terminfo.Goals as goal

pub returns-in-Ok-reset-clause-ok : goal.returns-in-Ok-reset-clause-ok
returns-in-Ok-reset-clause-ok c =
    opens_term Complete c.args.self.now c.args.option c.args.term_info.now c.reset.new.self c.in-Ok.ensures.lie (rw (c.in-Ok.ensures.postings, c.in-Ok.ensures.positions, c.record_option-record_option.ensures) at c.in-Ok-reset.ensures.opened)

pub returns-in-Ok-reset-clause-holds : goal.returns-in-Ok-reset-clause-holds
returns-in-Ok-reset-clause-holds c = λ field key tokens held.
    list_is c.args.self.now field key c.args.option tokens c.args.term_info.now c.reset.new.self.rest held (returns-in-Ok-reset-clause-ok c).list

pub returns-in-Err-reset-clause-err : goal.returns-in-Err-reset-clause-err
returns-in-Err-reset-clause-err c =
    let refused = rw (c.in-Ok.ensures.postings, c.in-Ok.ensures.positions, c.record_option-record_option.ensures) at c.in-Err-reset.ensures.err in
    rw c.from.ensures (refused_by _ c.in-Err-reset.fault (file_list c.args.self.now c.args.option c.args.term_info.now _ c.in-Ok.ensures.lie refused))

pub returns-in-Err-reset-clause-range : goal.returns-in-Err-reset-clause-range
returns-in-Err-reset-clause-range c =
    let reader = c.args.self.now in
    let info = c.args.term_info.now in
    let refused = rw (c.in-Ok.ensures.postings, c.in-Ok.ensures.positions, c.record_option-record_option.ensures) at c.in-Err-reset.ensures.err in
    rw c.from.ensures (no_range {T = ⊤} _ _ c.in-Err-reset.fault c.in-Ok.ensures.lie refused
    (list_no_range reader.option c.args.option info.doc_freq (bytes_in reader.postings info.postings_range) (given_if (reads_positions reader c.args.option) (bytes_in reader.positions info.positions_range))))

pub returns-in-Err-reset-clause-holds : goal.returns-in-Err-reset-clause-holds
returns-in-Err-reset-clause-holds c = λ field key tokens held.
    memory_alone c.args.self.now field key c.args.option tokens c.args.term_info.now c.from.result held (returns-in-Err-reset-clause-err c)
