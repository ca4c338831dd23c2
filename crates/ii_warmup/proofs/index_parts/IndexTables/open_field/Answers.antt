use Rattle.std.proofs.Common.{◌≡◌, ◌∙◌, Some, inl, map, refl, sym}
use Rattle.ii_io.specs.Composite.{body_of}
use Rattle.ii_io.specs.declared.faults.Fault.TheVariants as faults
use Rattle.ii_io.specs.declared.faults.Part.TheVariants as parts
use Rattle.ii_file_slice.specs.FileSlice.{slice_if}
use Rattle.ii_file_slice.specs.declared.faults.FileFault.TheVariants.{Index}
use Rattle.ii_warmup.specs.QueryTerms.{requests_of}
use Rattle.ii_warmup.specs.Warmup.{known_reader, wanted_entries, wanted_view}
use Rattle.ii_warmup.proofs.KnownLemmas.{sound_moved}
use Rattle.ii_warmup.proofs.FieldPartLemmas.{body_of_slice, field_slices, lacks_positions, lacks_postings, no_body_of_slice, none_there, part_of_none}
use Rattle.ii_warmup.proofs.index_parts.IndexTables.open_field.Goals as goal

pub returns-in_default-clause-warms : goal.returns-in_default-clause-warms
returns-in_default-clause-warms g c = λ bodies whole k is.
    let none = no_body_of_slice (body_of c.args.field bodies.terms) (c.in_default.ensures.body k.terms_are.bytes bodies.terms k.terms_are.known_is k.terms_are.bodies_are) in
    let whole_is = none_there bodies c.args.field c.args.option whole is none in
    record {
      part = rw c.empty.ensures (part_of_none (requests_of c.args.terms.now c.args.ranges.now c.args.field) c.args.option whole whole_is);
      range = λ damaged. absurd (cc);
    }

pub returns-in_default-open_read-clause-sound : goal.returns-in_default-open_read-clause-sound
returns-in_default-open_read-clause-sound g c = λ bodies whole k is t_sound p_sound q_sound.
    let t = c.in-Some.dictionary in
    let body = body_of_slice t.start t.len (g.H.FileHandle.bytes c.args.self.now.terms.file) k.terms_are.bytes (body_of c.args.field bodies.terms) k.terms_are.known_is (c.in-Some.ensures.body k.terms_are.bytes bodies.terms k.terms_are.known_is k.terms_are.bodies_are) in
    absurd (lacks_postings bodies c.args.field c.args.option whole is body.bytes body.there (no_body_of_slice (body_of c.args.field bodies.postings) (c.in_default-open_read.ensures.body k.postings_are.bytes bodies.postings k.postings_are.known_is k.postings_are.bodies_are)))

pub returns-in_default-open_read-2-clause-sound : goal.returns-in_default-open_read-2-clause-sound
returns-in_default-open_read-2-clause-sound g c = λ bodies whole k is t_sound p_sound q_sound.
    let t = c.in-Some.dictionary in
    let p = c.in-Some-open_read.postings in
    let body = body_of_slice t.start t.len (g.H.FileHandle.bytes c.args.self.now.terms.file) k.terms_are.bytes (body_of c.args.field bodies.terms) k.terms_are.known_is (c.in-Some.ensures.body k.terms_are.bytes bodies.terms k.terms_are.known_is k.terms_are.bodies_are) in
    let other = body_of_slice p.start p.len (g.H.FileHandle.bytes c.args.self.now.postings.file) k.postings_are.bytes (body_of c.args.field bodies.postings) k.postings_are.known_is (c.in-Some-open_read.ensures.body k.postings_are.bytes bodies.postings k.postings_are.known_is k.postings_are.bodies_are) in
    absurd (lacks_positions bodies c.args.field c.args.option whole is body.bytes other.bytes body.there other.there (no_body_of_slice (body_of c.args.field bodies.positions) (c.in_default-open_read-2.ensures.body k.positions_are.bytes bodies.positions k.positions_are.known_is k.positions_are.bodies_are)))

pub returns-in-Err-clause-warms : goal.returns-in-Err-clause-warms
returns-in-Err-clause-warms g c = λ bodies whole k is.
    let t = c.in-Some.dictionary in
    let p = c.in-Some-open_read.postings in
    let q = c.in-Some-open_read-2.positions in
    let h = c.args.self.now in
    let r = field_slices bodies c.args.field c.args.option whole t.start t.len p.start p.len q.start q.len (g.H.FileHandle.bytes h.terms.file) (g.H.FileHandle.bytes h.postings.file) (g.H.FileHandle.bytes h.positions.file) k is
    (c.in-Some.ensures.body k.terms_are.bytes bodies.terms k.terms_are.known_is k.terms_are.bodies_are) (c.in-Some-open_read.ensures.body k.postings_are.bytes bodies.postings k.postings_are.known_is k.postings_are.bodies_are) (c.in-Some-open_read-2.ensures.body k.positions_are.bytes bodies.positions k.positions_are.known_is k.positions_are.bodies_are) in
    let t_here : slice_if t.start t.len (g.H.FileHandle.bytes t.file.now) ≡ Some r.t = rw c.in-Some.ensures.file r.t_is in
    record {
      part = tt;
      range = λ damaged. let here : c.in-Err.fault ≡ Index (faults.Damaged parts.Range) = cc in absurd (c.in-Err.ensures.reads.undamaged r.t t_here (rw r.reads.entries refl) parts.Range here);
    }

pub returns-in-Err-clause-long : goal.returns-in-Err-clause-long
returns-in-Err-clause-long g c = λ bodies whole k is damaged.
    let t = c.in-Some.dictionary in
    let p = c.in-Some-open_read.postings in
    let q = c.in-Some-open_read-2.positions in
    let h = c.args.self.now in
    let r = field_slices bodies c.args.field c.args.option whole t.start t.len p.start p.len q.start q.len (g.H.FileHandle.bytes h.terms.file) (g.H.FileHandle.bytes h.postings.file) (g.H.FileHandle.bytes h.positions.file) k is
    (c.in-Some.ensures.body k.terms_are.bytes bodies.terms k.terms_are.known_is k.terms_are.bodies_are) (c.in-Some-open_read.ensures.body k.postings_are.bytes bodies.postings k.postings_are.known_is k.postings_are.bodies_are) (c.in-Some-open_read-2.ensures.body k.positions_are.bytes bodies.positions k.positions_are.known_is k.positions_are.bodies_are) in
    let t_here : slice_if t.start t.len (g.H.FileHandle.bytes t.file.now) ≡ Some r.t = rw c.in-Some.ensures.file r.t_is in
    let here : c.in-Err.fault ≡ Index (faults.Damaged parts.TermStore) = cc in
    absurd (c.in-Err.ensures.reads.undamaged r.t t_here (rw r.reads.entries refl) parts.TermStore here)

pub returns-in-Err-clause-sound : goal.returns-in-Err-clause-sound
returns-in-Err-clause-sound g c = λ bodies whole k is t_sound p_sound q_sound.
    let t = c.in-Some.dictionary in
    let p = c.in-Some-open_read.postings in
    let q = c.in-Some-open_read-2.positions in
    let h = c.args.self.now in
    let r = field_slices bodies c.args.field c.args.option whole t.start t.len p.start p.len q.start q.len (g.H.FileHandle.bytes h.terms.file) (g.H.FileHandle.bytes h.postings.file) (g.H.FileHandle.bytes h.positions.file) k is
    (c.in-Some.ensures.body k.terms_are.bytes bodies.terms k.terms_are.known_is k.terms_are.bodies_are) (c.in-Some-open_read.ensures.body k.postings_are.bytes bodies.postings k.postings_are.known_is k.postings_are.bodies_are) (c.in-Some-open_read-2.ensures.body k.positions_are.bytes bodies.positions k.positions_are.known_is k.positions_are.bodies_are) in
    let t_here : slice_if t.start t.len (g.H.FileHandle.bytes t.file.now) ≡ Some r.t = rw c.in-Some.ensures.file r.t_is in
    inl (c.in-Err.ensures.reads.sound_only r.t t_here (rw r.reads.entries refl) (rw c.in-Some.ensures.file t_sound))

pub returns-clause-warms : goal.returns-clause-warms
returns-clause-warms g c = λ bodies whole k is.
    let t = c.in-Some.dictionary in
    let p = c.in-Some-open_read.postings in
    let q = c.in-Some-open_read-2.positions in
    let h = c.args.self.now in
    let r = field_slices bodies c.args.field c.args.option whole t.start t.len p.start p.len q.start q.len (g.H.FileHandle.bytes h.terms.file) (g.H.FileHandle.bytes h.postings.file) (g.H.FileHandle.bytes h.positions.file) k is
    (c.in-Some.ensures.body k.terms_are.bytes bodies.terms k.terms_are.known_is k.terms_are.bodies_are) (c.in-Some-open_read.ensures.body k.postings_are.bytes bodies.postings k.postings_are.known_is k.postings_are.bodies_are) (c.in-Some-open_read-2.ensures.body k.positions_are.bytes bodies.positions k.positions_are.known_is k.positions_are.bodies_are) in
    let t_here : slice_if t.start t.len (g.H.FileHandle.bytes t.file.now) ≡ Some r.t = rw c.in-Some.ensures.file r.t_is in
    let p_here : slice_if p.start p.len (g.H.FileHandle.bytes p.file.now) ≡ Some r.p = rw c.in-Some-open_read.ensures.file r.p_is in
    let q_here : slice_if q.start q.len (g.H.FileHandle.bytes q.file.now) ≡ Some r.q = rw c.in-Some-open_read-2.ensures.file r.q_is in
    let requested = requests_of c.args.terms.now c.args.ranges.now c.args.field in
    let known : known_reader whole.terms (slice_if p.start p.len (g.H.FileHandle.bytes p.file.now)) (slice_if q.start q.len (g.H.FileHandle.bytes q.file.now)) c.args.option ≡ Some whole = rw (p_here, q_here) r.reads.known in
    let read : map wanted_view c.deref.result.now ≡ wanted_entries requested whole.terms = rw c.deref.ensures.value (rw r.reads.entries at (c.in-Ok.ensures.reads.exact r.t t_here (rw r.reads.entries refl))) in
    c.warm_up_field.ensures.warms requested whole known read

pub returns-clause-long : goal.returns-clause-long
returns-clause-long g c = λ bodies whole k is damaged.
    let t = c.in-Some.dictionary in
    let p = c.in-Some-open_read.postings in
    let q = c.in-Some-open_read-2.positions in
    let h = c.args.self.now in
    let r = field_slices bodies c.args.field c.args.option whole t.start t.len p.start p.len q.start q.len (g.H.FileHandle.bytes h.terms.file) (g.H.FileHandle.bytes h.postings.file) (g.H.FileHandle.bytes h.positions.file) k is
    (c.in-Some.ensures.body k.terms_are.bytes bodies.terms k.terms_are.known_is k.terms_are.bodies_are) (c.in-Some-open_read.ensures.body k.postings_are.bytes bodies.postings k.postings_are.known_is k.postings_are.bodies_are) (c.in-Some-open_read-2.ensures.body k.positions_are.bytes bodies.positions k.positions_are.known_is k.positions_are.bodies_are) in
    let t_here : slice_if t.start t.len (g.H.FileHandle.bytes t.file.now) ≡ Some r.t = rw c.in-Some.ensures.file r.t_is in
    let requested = requests_of c.args.terms.now c.args.ranges.now c.args.field in
    let read : map wanted_view c.deref.result.now ≡ wanted_entries requested whole.terms = rw c.deref.ensures.value (rw r.reads.entries at (c.in-Ok.ensures.reads.exact r.t t_here (rw r.reads.entries refl))) in
    sym (sound_moved requested whole.terms c.deref.result.now read) ∙ c.warm_up_field.ensures.long damaged

pub returns-clause-sound : goal.returns-clause-sound
returns-clause-sound g c = λ bodies whole k is t_sound p_sound q_sound.
    let t = c.in-Some.dictionary in
    let p = c.in-Some-open_read.postings in
    let q = c.in-Some-open_read-2.positions in
    let h = c.args.self.now in
    let r = field_slices bodies c.args.field c.args.option whole t.start t.len p.start p.len q.start q.len (g.H.FileHandle.bytes h.terms.file) (g.H.FileHandle.bytes h.postings.file) (g.H.FileHandle.bytes h.positions.file) k is
    (c.in-Some.ensures.body k.terms_are.bytes bodies.terms k.terms_are.known_is k.terms_are.bodies_are) (c.in-Some-open_read.ensures.body k.postings_are.bytes bodies.postings k.postings_are.known_is k.postings_are.bodies_are) (c.in-Some-open_read-2.ensures.body k.positions_are.bytes bodies.positions k.positions_are.known_is k.positions_are.bodies_are) in
    let t_here : slice_if t.start t.len (g.H.FileHandle.bytes t.file.now) ≡ Some r.t = rw c.in-Some.ensures.file r.t_is in
    let p_here : slice_if p.start p.len (g.H.FileHandle.bytes p.file.now) ≡ Some r.p = rw c.in-Some-open_read.ensures.file r.p_is in
    let q_here : slice_if q.start q.len (g.H.FileHandle.bytes q.file.now) ≡ Some r.q = rw c.in-Some-open_read-2.ensures.file r.q_is in
    let requested = requests_of c.args.terms.now c.args.ranges.now c.args.field in
    let known : known_reader whole.terms (slice_if p.start p.len (g.H.FileHandle.bytes p.file.now)) (slice_if q.start q.len (g.H.FileHandle.bytes q.file.now)) c.args.option ≡ Some whole = rw (p_here, q_here) r.reads.known in
    let read : map wanted_view c.deref.result.now ≡ wanted_entries requested whole.terms = rw c.deref.ensures.value (rw r.reads.entries at (c.in-Ok.ensures.reads.exact r.t t_here (rw r.reads.entries refl))) in
    c.warm_up_field.ensures.sound requested whole known read (rw c.in-Some-open_read.ensures.file p_sound) (rw c.in-Some-open_read-2.ensures.file q_sound)
