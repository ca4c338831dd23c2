use Rattle.ii_io.specs.NumberLemmas.{reads_what_is_written, has_one_spelling}
use Rattle.ii_io.proofs.serialize.reads_numbers_back.Goals as goal

pub returns-clause-reads : goal.returns-clause-reads
returns-clause-reads c = reads_what_is_written

pub returns-clause-one : goal.returns-clause-one
returns-clause-one c = has_one_spelling
