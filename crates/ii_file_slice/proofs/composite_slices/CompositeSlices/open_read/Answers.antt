use Rattle.std.proofs.Common.{◌∙◌, ap, refl}
use Rattle.ii_file_slice.proofs.CompositeLemmas.{body_there, no_body}
use Rattle.ii_file_slice.proofs.composite_slices.CompositeSlices.open_read.Goals as goal

pub returns-in_default-clause-body : goal.returns-in_default-clause-body
returns-in_default-clause-body g c = λ bytes bodies known is.
    let table = c.self.invariant bytes (ap (λ s. g.H.FileHandle.bytes s.file) c.self.view_is ∙ known) in
    rw (no_body c.args.field bytes c.self.inside.places.items bodies table is (rw c.deref.ensures.value at c.in_default.ensures)) refl

pub returns-clause-body : goal.returns-clause-body
returns-clause-body g c = λ bytes bodies known is.
    let table = c.self.invariant bytes (ap (λ s. g.H.FileHandle.bytes s.file) c.self.view_is ∙ known) in
    body_there c.args.field c.new.result.start c.new.result.len bytes c.in-Some.place c.self.inside.places.items bodies table is (rw c.deref.ensures.value at c.in-Some.ensures) c.new.ensures.start (c.new.ensures.len ∙ c.saturating_sub-len.ensures)
