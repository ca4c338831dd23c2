use Rattle.std.proofs.Common.{◌≡◌, ◌∙◌, Err, List, Some, [], ap, subst, sym, ℕ}
use Rattle.ii_io.specs.Composite.{body_of}
use Rattle.ii_io.specs.CountingWriter.{CountingWriterState}
use Rattle.ii_io.specs.declared.faults.Fault.TheVariants as faults
use Rattle.ii_file_slice.specs.declared.faults.FileFault.TheVariants.{Index}
use Rattle.ii_warmup.specs.IndexParts.{KnownBodies}
use Rattle.ii_warmup.proofs.FieldPartLemmas.{table_there}
use Rattle.ii_warmup.proofs.NormLemmas.{begun, index_faults, undamaged}
use Rattle.ii_warmup.proofs.norms.copy_norms.Goals as goal

pub returns-in-Err-clause-damaged : goal.returns-in-Err-clause-damaged
returns-in-Err-clause-damaged g c = λ bodies part k is.
    let here : c.in-Err.fault ≡ Index (faults.Damaged part) = cc in
    table_there (g.H.FileHandle.bytes c.args.file.now) bodies c.in-Err.fault k c.in-Err.ensures.part (λ damaged. c.in-Err.ensures.damaged k.bytes k.known_is (ap Err damaged)) part here

pub returns-in-Err-copy_fields-clause-damaged : goal.returns-in-Err-copy_fields-clause-damaged
returns-in-Err-copy_fields-clause-damaged g c = λ bodies part k is.
    let here : c.in-Err-copy_fields.fault ≡ Index (faults.Damaged part) = cc in
    c.in-Err-copy_fields.ensures.damaged bodies part (subst (λ f. KnownBodies (g.H.FileHandle.bytes f) bodies) (sym c.in-Ok.ensures.file) k) (ap Err here)

pub returns-in-Err-copy_fields-clause-sound : goal.returns-in-Err-copy_fields-clause-sound
returns-in-Err-copy_fields-clause-sound g c = λ bodies k sound.
    c.in-Err-copy_fields.ensures.sound bodies (subst (λ f. KnownBodies (g.H.FileHandle.bytes f) bodies) (sym c.in-Ok.ensures.file) k) (subst (λ f. g.H.FileHandle.is_sound f) (sym c.in-Ok.ensures.file) sound)

pub returns-in-Ok-open_written-clause-norms : goal.returns-in-Ok-open_written-clause-norms
returns-in-Ok-open_written-clause-norms g c = λ bodies k field low.
    let w = c.wrap-writer.result in
    let empty : w.contents ≡ Some [] = ap (λ (s : CountingWriterState). s.contents) c.wrap-writer.ensures ∙ ap (λ (xs : List ℕ). Some xs) c.new.ensures.items in
    let copied = c.in_default.ensures.copies w (begun w c.from_write-serializer.result c.from_write-serializer.ensures) in
    ap (body_of field) (c.in-Ok-open_written.ensures.norms w copied.done empty copied.has copied.fit)
    ∙ copied.norms bodies (subst (λ f. KnownBodies (g.H.FileHandle.bytes f) bodies) (sym c.in-Ok.ensures.file) k) field low

pub returns-clause-damaged : goal.returns-clause-damaged
returns-clause-damaged g c = λ bodies part k is.
    let w = c.wrap-writer.result in
    let here : c.in-Err-open_written.fault ≡ faults.Damaged part = cc in
    let empty : w.contents ≡ Some [] = ap (λ (s : CountingWriterState). s.contents) c.wrap-writer.ensures ∙ ap (λ (xs : List ℕ). Some xs) c.new.ensures.items in
    let copied = c.in_default.ensures.copies w (begun w c.from_write-serializer.result c.from_write-serializer.ensures) in
    undamaged c.in-Err-open_written.fault part (c.in-Err-open_written.ensures.only w copied.done empty copied.has copied.fit) here

pub returns-clause-sound : goal.returns-clause-sound
returns-clause-sound g c = λ bodies k sound.
    let w = c.wrap-writer.result in
    let empty : w.contents ≡ Some [] = ap (λ (s : CountingWriterState). s.contents) c.wrap-writer.ensures ∙ ap (λ (xs : List ℕ). Some xs) c.new.ensures.items in
    let copied = c.in_default.ensures.copies w (begun w c.from_write-serializer.result c.from_write-serializer.ensures) in
    index_faults c.in-Err-open_written.fault (c.in-Err-open_written.ensures.only w copied.done empty copied.has copied.fit)
