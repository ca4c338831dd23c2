use Rattle.std.proofs.Common.{◌∙◌, ap, arith, drop}
use Rattle.std.proofs.lemmas.List.{length-drop}
use Rattle.ii_termstore.specs.TermStore.{meta_at}
use Rattle.ii_termdict_slice.proofs.MetaLemmas.{meta_missing, meta_read}
use Rattle.ii_termdict_slice.proofs.ReadingLemmas.{reads_no, reads_ok}
use Rattle.ii_termdict_slice.proofs.store_slice.read_meta.Goals as goal

pub returns-in-Some-clause-reads : goal.returns-in-Some-clause-reads
returns-in-Some-clause-reads g c =
    reads_ok
    (λ bs known there.
    meta_read c.in-Ok.bytes (drop c.args.from bs) c.deserialize.new.reader.now c.in-Some.meta (omega (arith, there.room, length-drop c.args.from bs)) (c.in-Ok.ensures.reads.exact bs known there.room)
    (c.in-Some.ensures.value ∙ ap meta_at c.as_slice-rest.ensures))

pub returns-clause-reads : goal.returns-clause-reads
returns-clause-reads g c =
    reads_no
    (λ bs known there.
    meta_missing c.in-Ok.bytes (drop c.args.from bs) (omega (arith, there.room, length-drop c.args.from bs)) (c.in-Ok.ensures.reads.exact bs known there.room) (c.in-None.ensures.value ∙ ap meta_at c.as_slice-rest.ensures) there.meta)
