use Rattle.std.proofs.Common.{◌≡◌, ◌∙◌, ℕ, ◌+◌, ◌-◌, ◌*◌, Err, ap, arith, drop, inl, length, refl, subst, sym}
use Rattle.ii_io.specs.declared.faults.Fault.TheVariants as faults
use Rattle.ii_io.specs.declared.faults.Part.TheVariants.{Composite}
use Rattle.ii_file_slice.specs.Faults.{file_fault}
use Rattle.ii_file_slice.proofs.CompositeLemmas.{footer_is, table_is}
use Rattle.ii_file_slice.proofs.composite_slices.read_table_by.Goals as goal

pub returns-in-Err-clause-sound : goal.returns-in-Err-clause-sound
returns-in-Err-clause-sound g c = λ bytes known sound.
    inl (c.from.ensures ∙ ap file_fault (c.in-Err.ensures.sound bytes known sound (omega (arith, c.saturating_sub-footer_start.ensures, c.len-len.ensures bytes known))))

pub returns-in-Err-read_bytes-clause-sound : goal.returns-in-Err-read_bytes-clause-sound
returns-in-Err-read_bytes-clause-sound g c = λ bytes known sound.
    let same = c.read_bytes.ensures.file in
    inl (c.from-in-Err-read_bytes.ensures ∙ ap file_fault (c.in-Err-read_bytes.ensures.sound bytes (ap g.H.FileHandle.bytes same ∙ known) (subst g.H.FileHandle.is_sound (sym same) sound) (omega (arith, c.if-len-size.false, c.len-len.ensures bytes known))))

pub returns-in-Ok-read_places-clause-read : goal.returns-in-Ok-read_places-clause-read
returns-in-Ok-read_places-clause-read g c = λ bytes known.
    let len = c.len-len.ensures bytes known in
    let footer : c.as_slice-rest.result.now ≡ drop (length bytes - 4) bytes =
    footer_is bytes c.as_slice-rest.result.now c.len-len.result c.saturating_sub-footer_start.result (c.len-len.result - c.saturating_sub-footer_start.result) len c.saturating_sub-footer_start.ensures refl (c.as_slice-rest.ensures ∙ c.in-Ok.ensures.exact bytes known) in
    table_is bytes c.as_slice-rest.result.now c.deserialize.new.reader.now c.as_slice.result.now c.len-len.result c.in-Some.count (20 * c.from-2.result + 4) len footer c.in-Some.ensures.value
    (ap (λ (n : ℕ). 20 * n + 4) c.from-2.ensures) c.if-len-size.false (c.as_slice.ensures ∙ c.in-Ok-read_bytes.ensures.exact bytes (ap g.H.FileHandle.bytes c.read_bytes.ensures.file ∙ known))
    ∙ c.in-Ok-read_places.ensures.read

pub returns-clause-damaged : goal.returns-clause-damaged
returns-clause-damaged g c = λ bytes known damaged.
    let len = c.len-len.ensures bytes known in
    let footer : c.as_slice-rest.result.now ≡ drop (length bytes - 4) bytes =
    footer_is bytes c.as_slice-rest.result.now c.len-len.result c.saturating_sub-footer_start.result (c.len-len.result - c.saturating_sub-footer_start.result) len c.saturating_sub-footer_start.ensures refl (c.as_slice-rest.ensures ∙ c.in-Ok.ensures.exact bytes known) in
    let here : c.in-Err-read_places.fault ≡ faults.Damaged Composite = cc in
    table_is bytes c.as_slice-rest.result.now c.deserialize.new.reader.now c.as_slice.result.now c.len-len.result c.in-Some.count (20 * c.from-2.result + 4) len footer c.in-Some.ensures.value
    (ap (λ (n : ℕ). 20 * n + 4) c.from-2.ensures) c.if-len-size.false (c.as_slice.ensures ∙ c.in-Ok-read_bytes.ensures.exact bytes (ap g.H.FileHandle.bytes c.read_bytes.ensures.file ∙ known))
    ∙ c.in-Err-read_places.ensures.damaged (ap Err here)
