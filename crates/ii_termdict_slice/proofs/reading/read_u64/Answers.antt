use Rattle.std.proofs.Common.{◌∙◌, ap, drop}
use Rattle.ii_io.specs.Numbers.{number_at}
use Rattle.ii_termdict_slice.proofs.ReadingLemmas.{number_read, number_there, reads_no, reads_ok}
use Rattle.ii_termdict_slice.proofs.reading.read_u64.Goals as goal

pub returns-in-Some-clause-reads : goal.returns-in-Some-clause-reads
returns-in-Some-clause-reads g c =
    reads_ok
    (λ bs known there.
    number_read c.in-Ok.bytes (drop c.args.from bs) c.in-Some.number c.deserialize.new.reader.now c.in-Ok.ensures.long (c.in-Ok.ensures.reads.exact bs known there) (c.in-Some.ensures.value ∙ ap (number_at 8) c.as_slice-rest.ensures))

pub returns-clause-reads : goal.returns-clause-reads
returns-clause-reads g c = reads_no (λ bs known there. number_there c.in-Ok.bytes c.in-Ok.ensures.long (c.in-None.ensures.value ∙ ap (number_at 8) c.as_slice-rest.ensures))
