use Rattle.std.proofs.Common.{◌∙◌, ap}
use Rattle.ii_termdict.proofs.SearchLemmas.{info_hit, info_miss}
use Rattle.ii_termdict_slice.specs.Slices.{ends_in, from_keys}
use Rattle.ii_termdict_slice.proofs.ReadingLemmas.{reads_err, reads_ok}
use Rattle.ii_termdict_slice.proofs.dictionary_slice.TermDictionarySlice.get_near.Goals as goal

pub returns-in-Err-clause-reads : goal.returns-in-Err-clause-reads
returns-in-Err-clause-reads g c = rw (← c.self.view_is) (reads_err c.in-Err.ensures.reads (λ bs known there. c.self.invariant.0 bs known there))

pub returns-in-None-clause-reads : goal.returns-in-None-clause-reads
returns-in-None-clause-reads g c =
    let n = c.self.inside.num_terms in
    rw (← c.self.view_is)
    (reads_ok
    (λ bs known there.
    let parts = c.self.invariant.0 bs known there in
    let place = c.in-Ok.ensures.reads.exact bs known parts in
    let missing = rw c.in-None.is at place in
    rw parts.entries (info_miss n (ends_in bs) (from_keys n bs) c.args.key.now missing)))

pub returns-in-Err-read_info-clause-reads : goal.returns-in-Err-read_info-clause-reads
returns-in-Err-read_info-clause-reads g c = rw (← c.self.view_is) (reads_err (rw c.find.ensures.file at c.in-Err-read_info.ensures.reads) (λ bs known there. c.self.invariant.0 bs known there))

pub returns-clause-reads : goal.returns-clause-reads
returns-clause-reads g c =
    let n = c.self.inside.num_terms in
    let ord = c.in-Some.ord in
    rw (← c.self.view_is)
    (reads_ok
    (λ bs known there.
    let parts = c.self.invariant.0 bs known there in
    let place = c.in-Ok.ensures.reads.exact bs known parts in
    let here = rw c.in-Some.is at place in
    let info = c.in-Ok-read_info.ensures.reads.exact bs (ap g.H.FileHandle.bytes c.find.ensures.file ∙ known) parts in
    rw parts.entries (info_hit n (ends_in bs) (from_keys n bs) c.args.key.now ord c.in-Ok-read_info.info parts.opened here.0 here.1 info)))
