use Rattle.std.proofs.Common.{◌≡◌, ◌∙◌, ◌≤◌, Bool, Some, ap, arith, inl, length, subst, sym}
use Rattle.std.specs.Prelude.{IfErr}
use Rattle.std.specs.List.{list_all}
use Rattle.ii_io.specs.Numbers.{little_endian}
use Rattle.ii_file_slice.specs.FileSlice.{slice_if}
use Rattle.ii_file_slice.specs.Faults.{file_fault}
use Rattle.ii_warmup.specs.Faults.{IsCopyFault}
use Rattle.ii_warmup.specs.Warmup.{all_sound, do_ranges_lie, wanted_view}
use Rattle.ii_warmup.specs.declared.wanted_terms.WantedTerm.{WantedTerm}
use Rattle.ii_warmup.proofs.KnownLemmas.{known_parts, lie_moved, slice_body, sound_moved}
use Rattle.ii_warmup.proofs.warm_field.warm_up_field.Goals as goal

pub returns-then-len-lt-COUNT_SIZE-clause-sound : goal.returns-then-len-lt-COUNT_SIZE-clause-sound
returns-then-len-lt-COUNT_SIZE-clause-sound g c = λ requested whole is wanted p_sound q_sound.
    let files = c.args.files.now in
    let k = known_parts whole.terms (g.P.FileHandle.bytes files.postings.now) (g.Q.FileHandle.bytes files.positions.now) files.option whole is in
    absurd (omega (arith, c.if-len-lt-COUNT_SIZE.true, c.len-len.ensures k.p k.postings_are, k.long))

pub returns-in-Err-clause-sound : goal.returns-in-Err-clause-sound
returns-in-Err-clause-sound g c = λ requested whole is wanted p_sound q_sound.
    let files = c.args.files.now in
    let k = known_parts whole.terms (g.P.FileHandle.bytes files.postings.now) (g.Q.FileHandle.bytes files.positions.now) files.option whole is in
    let long : 8 ≤ length k.p = k.long in
    let memory = c.in-Err.ensures.sound k.p k.postings_are p_sound (omega (arith, long)) in
    inl (c.from.ensures ∙ ap file_fault memory)

pub returns-clause-warms : goal.returns-clause-warms
returns-clause-warms g c = λ requested whole is wanted.
    let files = c.args.files.now in
    let s = c.new-body.result in
    let k = known_parts whole.terms (g.P.FileHandle.bytes files.postings.now) (g.Q.FileHandle.bytes files.positions.now) files.option whole is in
    let body : slice_if s.start s.len (g.P.FileHandle.bytes s.file.now) ≡ Some whole.postings =
    slice_body s.start s.len c.len-len.result (g.P.FileHandle.bytes s.file.now) k.p whole.postings c.new-body.ensures.start c.new-body.ensures.len (c.len-len.ensures k.p k.postings_are) k.long (rw c.new-body.ensures.file k.postings_are) k.body in
    let counted : whole.num_tokens ≡ little_endian c.as_slice.result.now = k.counted ∙ ap little_endian (sym (c.as_slice.ensures ∙ c.in-Ok.ensures.exact k.p k.postings_are)) in
    record {
      part = (rw (c.in-Ok-new_cache.ensures.same, c.in-Ok-new_cache-2.ensures.same) at c.copy_terms.ensures.part) requested whole body k.positions_are k.option_is counted wanted;
      range = λ damaged. sym (lie_moved requested whole files.option files.wanted.now k.option_is wanted) ∙ (rw (c.in-Ok-new_cache.ensures.same, c.in-Ok-new_cache-2.ensures.same) at c.copy_terms.ensures.range) whole.postings whole.positions body k.positions_are damaged;
    }

pub returns-clause-sound : goal.returns-clause-sound
returns-clause-sound g c = λ requested whole is wanted p_sound q_sound.
    let files = c.args.files.now in
    let s = c.new-body.result in
    let k = known_parts whole.terms (g.P.FileHandle.bytes files.postings.now) (g.Q.FileHandle.bytes files.positions.now) files.option whole is in
    let body : slice_if s.start s.len (g.P.FileHandle.bytes s.file.now) ≡ Some whole.postings =
    slice_body s.start s.len c.len-len.result (g.P.FileHandle.bytes s.file.now) k.p whole.postings c.new-body.ensures.start c.new-body.ensures.len (c.len-len.ensures k.p k.postings_are) k.long (rw c.new-body.ensures.file k.postings_are) k.body in
    subst (λ (lie : Bool). IfErr c.copy_terms.result (IsCopyFault lie (all_sound requested whole.terms))) (lie_moved requested whole files.option files.wanted.now k.option_is wanted)
    (subst (λ (short : Bool). IfErr c.copy_terms.result (IsCopyFault (list_all (λ (t : WantedTerm). do_ranges_lie files.option whole.postings whole.positions (wanted_view t)) files.wanted.now) short)) (sound_moved requested whole.terms files.wanted.now wanted)
    ((rw (c.in-Ok-new_cache.ensures.same, c.in-Ok-new_cache-2.ensures.same) at c.copy_terms.ensures.sound) whole.postings whole.positions body k.positions_are (rw c.new-body.ensures.file p_sound) q_sound))
