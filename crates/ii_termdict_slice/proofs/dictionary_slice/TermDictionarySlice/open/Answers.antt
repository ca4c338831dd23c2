use Rattle.std.proofs.Common.{◌∙◌, ap, arith, sym}
use Rattle.ii_termdict_slice.proofs.DictionarySliceLemmas.{has_parts, no_number, no_room}
use Rattle.ii_termdict_slice.proofs.ReadingLemmas.{reads_err, reads_no}
use Rattle.ii_termdict_slice.proofs.dictionary_slice.TermDictionarySlice.open.Goals as goal

pub returns-then-len-lt-END_SIZE-clause-reads : goal.returns-then-len-lt-END_SIZE-clause-reads
returns-then-len-lt-END_SIZE-clause-reads g c = reads_no (λ bs known there. no_number bs (omega (arith, c.if-len-lt-END_SIZE.true, c.len-len.ensures bs known)) there)

pub returns-in-Err-clause-reads : goal.returns-in-Err-clause-reads
returns-in-Err-clause-reads g c = reads_err c.in-Err.ensures.reads (λ bs known there. omega (arith, c.if-len-lt-END_SIZE.false, c.len-len.ensures bs known))

pub returns-then-num_terms-len-clause-reads : goal.returns-then-num_terms-len-clause-reads
returns-then-num_terms-len-clause-reads g c =
    reads_no
    (λ bs known there.
    let all = c.len-len.ensures bs known in
    let n = c.in-Ok.ensures.reads.exact bs known (omega (arith, c.if-len-lt-END_SIZE.false, all)) in
    no_room c.in-Ok.num_terms bs n (omega (arith, c.if-len-lt-END_SIZE.false, all)) (omega (arith, c.if-num_terms-len.true, c.if-len-lt-END_SIZE.false, all)) there)

pub invariant_of-result : goal.invariant_of-result
invariant_of-result g c = (
  λ bs known there.
      let before = ap g.H.FileHandle.bytes (sym c.read_u64.ensures.file) ∙ known in
      let all = c.len-len.ensures bs before in
      let n = c.in-Ok.ensures.reads.exact bs before (omega (arith, c.if-len-lt-END_SIZE.false, all)) in
      has_parts c.in-Ok.num_terms bs n (omega (arith, c.if-num_terms-len.false, c.if-len-lt-END_SIZE.false, all)) there,
  omega (arith, c.if-num_terms-len.false, c.if-len-lt-END_SIZE.false),
)
