use Rattle.std.proofs.Common.{◌∙◌, ap, arith}
use Rattle.ii_termdict_slice.proofs.DictionarySliceLemmas.{key_is, key_within}
use Rattle.ii_termdict_slice.proofs.ReadingLemmas.{reads_as, reads_no}
use Rattle.ii_termdict_slice.proofs.dictionary_slice.read_key.Goals as goal

pub returns-then-start-end-clause-reads : goal.returns-then-start-end-clause-reads
returns-then-start-end-clause-reads g c =
    reads_no
    (λ bs known parts.
    let start = c.in-Ok.ensures.reads.exact bs known (omega (arith, parts.room, c.requires.within)) in
    let end = c.in-Ok-read_end.ensures.reads.exact bs (ap g.H.FileHandle.bytes c.read_start.ensures.file ∙ known) (omega (arith, parts.room, c.requires.within)) in
    let lies = key_within c.args.num_terms c.args.i bs parts c.requires.within in
    omega (arith, start, end, lies.0, c.if-start-end.true))

pub returns-then-end-room-clause-reads : goal.returns-then-end-room-clause-reads
returns-then-end-room-clause-reads g c =
    reads_no
    (λ bs known parts.
    let here = ap g.H.FileHandle.bytes c.read_start.ensures.file ∙ known in
    let end = c.in-Ok-read_end.ensures.reads.exact bs here (omega (arith, parts.room, c.requires.within)) in
    let all = c.len.ensures bs (ap g.H.FileHandle.bytes c.read_end.ensures.file ∙ here) in
    let lies = key_within c.args.num_terms c.args.i bs parts c.requires.within in
    omega (arith, end, all, lies.1, c.if-end-room.true, c.saturating_sub-room.ensures))

pub returns-clause-reads : goal.returns-clause-reads
returns-clause-reads g c =
    reads_as c.read_bytes.result (rw (c.read_end.ensures.file, c.read_start.ensures.file) at c.read_bytes.ensures.reads)
    (λ bs known parts.
    let start = c.in-Ok.ensures.reads.exact bs known (omega (arith, parts.room, c.requires.within)) in
    let end = c.in-Ok-read_end.ensures.reads.exact bs (ap g.H.FileHandle.bytes c.read_start.ensures.file ∙ known) (omega (arith, parts.room, c.requires.within)) in
    let lies = key_within c.args.num_terms c.args.i bs parts c.requires.within in
    omega (arith, start, end, lies.0, lies.1))
    (λ bs key known parts is.
    let start = c.in-Ok.ensures.reads.exact bs known (omega (arith, parts.room, c.requires.within)) in
    let end = c.in-Ok-read_end.ensures.reads.exact bs (ap g.H.FileHandle.bytes c.read_start.ensures.file ∙ known) (omega (arith, parts.room, c.requires.within)) in
    key_is c.args.num_terms c.args.i c.in-Ok.start c.in-Ok-read_end.end bs key start end is)
