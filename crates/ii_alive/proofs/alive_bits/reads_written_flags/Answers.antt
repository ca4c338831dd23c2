use Rattle.ii_alive.proofs.FlagLemmas.{has_one_encoding, reads_written_flags as law}
use Rattle.ii_alive.proofs.alive_bits.reads_written_flags.Goals as goal

pub returns-clause-reads : goal.returns-clause-reads
returns-clause-reads c = law

pub returns-clause-one : goal.returns-clause-one
returns-clause-one c = has_one_encoding
