use Rattle.std.proofs.Common.{◌%◌, ◌<◌, arith, drop}
use Rattle.std.proofs.lemmas.List.{length-drop}
use Rattle.ii_termdict_slice.proofs.ReadingLemmas.{reads_err, reads_no, reads_ok}
use Rattle.ii_termdict_slice.proofs.StoreSliceLemmas.{first_there, has_bits, has_blocks, has_meta, later_missing, later_there}
use Rattle.ii_termdict_slice.proofs.store_slice.read_term_info.Goals as goal

pub returns-then-metas_len-room-clause-reads : goal.returns-then-metas_len-room-clause-reads
returns-then-metas_len-room-clause-reads g c =
    reads_no
    (λ bs known held.
    let blocks = has_blocks c.args.num_terms (drop c.args.store bs) held in
    omega (arith, blocks.room, c.if-metas_len-room.true, c.saturating_sub-room.ensures, c.len.ensures bs known, c.count_blocks.ensures, length-drop c.args.store bs))

pub returns-in-Err-clause-reads : goal.returns-in-Err-clause-reads
returns-in-Err-clause-reads g c = reads_err c.in-Err.ensures.reads (λ bs known held. has_meta c.args.num_terms c.args.ord c.args.store bs held c.requires)

pub returns-then-k-eq0-clause-reads : goal.returns-then-k-eq0-clause-reads
returns-then-k-eq0-clause-reads g c =
    let n = c.args.num_terms in
    let ord = c.args.ord in
    let store = c.args.store in
    reads_ok (λ bs known held. first_there n ord store bs c.in-Ok.meta held c.requires (c.in-Ok.ensures.reads.exact bs known (has_meta n ord store bs held c.requires)) c.if-k-eq0.true)

pub returns-in-Err-read_bits-clause-reads : goal.returns-in-Err-read_bits-clause-reads
returns-in-Err-read_bits-clause-reads g c =
    let n = c.args.num_terms in
    let ord = c.args.ord in
    let store = c.args.store in
    reads_err (rw (c.read_meta.ensures.file, c.count_blocks.ensures, c.count_terms-terms.ensures.value) at c.in-Err-read_bits.ensures.reads)
    (λ bs known held. (has_bits n ord store bs c.in-Ok.meta held c.requires (c.in-Ok.ensures.reads.exact bs known (has_meta n ord store bs held c.requires)) (omega (arith, c.if-k-eq0.false))).1)

pub returns-in-Some-clause-reads : goal.returns-in-Some-clause-reads
returns-in-Some-clause-reads g c =
    let n = c.args.num_terms in
    let ord = c.args.ord in
    let store = c.args.store in
    let m = c.in-Ok.meta in
    let reads = rw (c.read_meta.ensures.file, c.count_blocks.ensures, c.count_terms-terms.ensures.value) at c.in-Ok-read_bits.ensures.reads in
    reads_ok
    (λ bs known held.
    let found = c.in-Ok.ensures.reads.exact bs known (has_meta n ord store bs held c.requires) in
    let later : 0 < ord % 256 = omega (arith, c.if-k-eq0.false) in
    let read = reads.exact bs known (has_bits n ord store bs m held c.requires found later).1 in
    later_there n ord store bs c.in-Ok-read_bits.bits m c.in-Some.info held c.requires found later read (rw (← c.as_slice.ensures, ← c.count_terms-terms.ensures.value) c.in-Some.ensures))

pub returns-clause-reads : goal.returns-clause-reads
returns-clause-reads g c =
    let n = c.args.num_terms in
    let ord = c.args.ord in
    let store = c.args.store in
    let m = c.in-Ok.meta in
    let reads = rw (c.read_meta.ensures.file, c.count_blocks.ensures, c.count_terms-terms.ensures.value) at c.in-Ok-read_bits.ensures.reads in
    reads_no
    (λ bs known held.
    let found = c.in-Ok.ensures.reads.exact bs known (has_meta n ord store bs held c.requires) in
    let later : 0 < ord % 256 = omega (arith, c.if-k-eq0.false) in
    let read = reads.exact bs known (has_bits n ord store bs m held c.requires found later).1 in
    later_missing n ord store bs c.in-Ok-read_bits.bits m held c.requires found later read (rw (← c.as_slice.ensures, ← c.count_terms-terms.ensures.value) c.in-None.ensures))
