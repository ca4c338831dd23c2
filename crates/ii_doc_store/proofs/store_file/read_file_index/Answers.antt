use Rattle.std.proofs.Common.{arith}
use Rattle.ii_doc_store.specs.declared.faults.StoreDamage.TheVariants.{Footer}
use Rattle.ii_doc_store.proofs.IndexLaws.{damaged_file, memory_file, named_file, no_footer, range_index, range_no_footer, range_no_index, short_footer}
use Rattle.ii_doc_store.proofs.store_file.read_file_index.Goals as goal

pub returns-then-len-clause-damaged : goal.returns-then-len-clause-damaged
returns-then-len-clause-damaged g c = λ bytes damage known is. named_file Footer damage bytes (no_footer bytes (short_footer bytes (omega (arith, c.len-len.ensures bytes known, c.if-len.true)))) is

pub returns-in-Err-clause-sound : goal.returns-in-Err-clause-sound
returns-in-Err-clause-sound g c = λ bytes fault known sound is. memory_file _ fault (c.in-Err.ensures.sound bytes known sound (omega (arith, c.len-len.ensures bytes known, c.if-len.false))) is

pub returns-in_default-clause-damaged : goal.returns-in_default-clause-damaged
returns-in_default-clause-damaged g c = λ bytes damage known is.
    named_file Footer damage bytes (range_no_footer bytes _ (c.len-len.ensures bytes known) (omega (arith, c.if-len.false)) _ (c.in-Ok.ensures.exact bytes known) (rw c.as_slice.ensures at c.in_default.ensures)) is

pub returns-in-Err-read_bytes-clause-sound : goal.returns-in-Err-read_bytes-clause-sound
returns-in-Err-read_bytes-clause-sound g c = λ bytes fault known sound is. memory_file _ fault (c.in-Err-read_bytes.ensures.sound bytes known sound (omega (arith, c.len-len.ensures bytes known, c.if-len.false, c.in-Some.ensures.2))) is

pub returns-in-Ok-read_parts-clause-index : goal.returns-in-Ok-read_parts-clause-index
returns-in-Ok-read_parts-clause-index g c = λ bytes known.
    let is = rw c.as_slice.ensures at c.in-Some.ensures in
    let read = rw c.as_slice-3.ensures at c.in-Ok-read_parts.ensures.checkpoints in
    let sound = rw (c.as_slice-2.ensures, c.as_slice-3.ensures) at c.in-Ok-read_parts.ensures.sound in
    rw read
    (range_index bytes _ (c.len-len.ensures bytes known) (omega (arith, c.if-len.false)) c.in-Some.count c.in-Ok.footer c.in-Ok-read_bytes.index (c.in-Ok.ensures.exact bytes known) is.1 is.2 is.0 (c.in-Ok-read_bytes.ensures.exact bytes known) sound)

pub returns-clause-damaged : goal.returns-clause-damaged
returns-clause-damaged g c = λ bytes damage known is.
    let there = rw c.as_slice.ensures at c.in-Some.ensures in
    let h = damaged_file c.in-Err-read_parts.fault c.in_file.result damage c.in_file.ensures is (λ d cause. rw (c.as_slice-2.ensures, c.as_slice-3.ensures) at (c.in-Err-read_parts.ensures.damaged d cause)) in
    rw h.0
    (range_no_index bytes _ (c.len-len.ensures bytes known) (omega (arith, c.if-len.false)) c.in-Some.count c.in-Ok.footer c.in-Ok-read_bytes.index (c.in-Ok.ensures.exact bytes known) there.1 there.2 there.0 (c.in-Ok-read_bytes.ensures.exact bytes known) h.1)
