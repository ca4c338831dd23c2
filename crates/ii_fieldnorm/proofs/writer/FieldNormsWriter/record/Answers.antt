use Rattle.std.proofs.Common.{◌≡◌, ℕ, zero, suc, ◌<◌, [], ◌∷◌, get_or, length, None, refl, sym, ◌∙◌, rules}
use Rattle.std.proofs.lemmas.List.{get_or_read}
use Rattle.ii_fieldnorm.specs.Buffers.{Buffers, buffer_of}
use Rattle.ii_fieldnorm.proofs.writer.FieldNormsWriter.record.Goals as goal

held_at : (buffers : Buffers) (place : ℕ) → buffer_of place buffers ≡ get_or buffers place None
held_at [] place = refl
held_at (b ∷ bs) zero = refl
held_at (b ∷ bs) (suc place) = held_at bs place

pub returns-in_ok-record-clause-ok : goal.returns-in_ok-record-clause-ok
returns-in_ok-record-clause-ok c =
    let buffers = c.self.inside.buffers.items in
    let place = c.field_id-index.result in
    let inside : place < length buffers = search rules in
    let read = get_or_read buffers place c.index_mut.result.now inside c.index_mut.ensures.value None ∙ sym (held_at buffers place) in
    rw (← c.self.view_is, ← c.field_id-index.ensures, c.in_ok-record.ensures.ok, ← read) refl
