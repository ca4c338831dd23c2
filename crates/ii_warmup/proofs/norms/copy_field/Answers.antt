use Rattle.std.proofs.Common.{◌≡◌, ◌∙◌, Some, ap, arith, inl, refl, sym}
use Rattle.ii_io.specs.Composite.{body_of}
use Rattle.ii_file_slice.specs.Faults.{file_fault}
use Rattle.ii_file_slice.specs.FileSlice.{slice_if}
use Rattle.ii_warmup.proofs.FieldPartLemmas.{body_of_slice, no_body_of_slice}
use Rattle.ii_warmup.proofs.NormLemmas.{copies_none, read_all}
use Rattle.ii_warmup.proofs.norms.copy_field.Goals as goal

pub returns-in_default-clause-copies : goal.returns-in_default-clause-copies
returns-in_default-clause-copies g c =
    copies_none c.args.wanted (g.H.FileHandle.bytes c.args.slices.now.file) c.args.field c.args.serializer.now
    (λ bodies k. rw c.if-not-wanted.false (sym (no_body_of_slice (body_of c.args.field bodies) (c.in_default.ensures.body k.bytes bodies k.known_is k.bodies_are))))

pub returns-in-Err-clause-sound : goal.returns-in-Err-clause-sound
returns-in-Err-clause-sound g c = λ bodies k sound.
    let s = c.in-Some.body in
    let file = c.in-Some.ensures.file in
    let b = body_of_slice s.start s.len (g.H.FileHandle.bytes c.args.slices.now.file) k.bytes (body_of c.args.field bodies) k.known_is (c.in-Some.ensures.body k.bytes bodies k.known_is k.bodies_are) in
    let slice : slice_if s.start s.len (g.H.FileHandle.bytes s.file.now) ≡ Some b.bytes = rw file b.slice in
    inl (c.from.ensures ∙ ap file_fault (c.in-Err.ensures.sound b.bytes slice (rw file sound) (omega (arith, c.len.ensures b.bytes slice))))

pub returns-in-Ok-serialize_field-clause-copies : goal.returns-in-Ok-serialize_field-clause-copies
returns-in-Ok-serialize_field-clause-copies g c =
    let s = c.in-Some.body in
    let file = c.in-Some.ensures.file in
    let ids = c.as_slice.result.now in
    record {
      found = Some ids;
      adds = c.in-Ok-serialize_field.ensures.adds;
      found_is = λ bodies k.
          let b = body_of_slice s.start s.len (g.H.FileHandle.bytes c.args.slices.now.file) k.bytes (body_of c.args.field bodies) k.known_is (c.in-Some.ensures.body k.bytes bodies k.known_is k.bodies_are) in
          let slice : slice_if s.start s.len (g.H.FileHandle.bytes s.file.now) ≡ Some b.bytes = rw file b.slice in
          let same : ids ≡ b.bytes = read_all b.bytes ids c.len.result (c.len.ensures b.bytes slice) (c.as_slice.ensures ∙ c.in-Ok.ensures.exact b.bytes slice) in
          rw (c.if-not-wanted.false, b.there, same) refl;
    }
