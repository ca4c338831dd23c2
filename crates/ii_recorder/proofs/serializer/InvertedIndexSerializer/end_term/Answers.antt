use Rattle.std.proofs.Common.{refl, true, false}
use Rattle.ii_recorder.specs.FieldTerms.{bytes_of, field_terms}
use Rattle.ii_recorder.specs.IndexBodies.{IndexBodiesState}
use Rattle.ii_recorder.specs.IndexSerializer.{IndexSerializerState}
use Rattle.ii_recorder.proofs.IndexLemmas.{on_ok_both, term_ended, term_wrote}
use Rattle.ii_recorder.proofs.serializer.InvertedIndexSerializer.end_term.Goals as goal

pub returns-clause-writing : goal.returns-clause-writing
returns-clause-writing g c = rw (← c.self.view_is, ← c.self-inside.view_is) (λ initial field tokens norms ts key inside h.
    let fields = c.self-inside.inside.0 in
    let files = fields.1.0 in
    let begun : IndexBodiesState = record { terms = files.terms; postings = files.postings; positions = files.positions } in
    let term = fields.1.1.0 in
    let places = fields.1.1.1.0 in
    let postings = c.write-ended.new.postings_write in
    let positions = c.write-ended.new.positions_write in
    let ended : IndexBodiesState = record begun { postings = record begun.postings { writer = postings }; positions = record begun.positions { writer = positions } } in
    let wrote = term_wrote c.write-ended.result begun postings positions (bytes_of term) refl (rw c.writer.ensures.value at c.write-ended.ensures.postings) (rw c.writer-2.ensures.value at c.write-ended.ensures.positions) in
    let old : IndexSerializerState = record { entries = fields.0; bodies = begun; field = field_terms term places true; closed = fields.1.1.1.1.1.1.0 } in
    let new : IndexSerializerState = record { entries = fields.0; bodies = ended; field = field_terms c.write-ended.new.self c.write-ended.new.places false; closed = c.is_err-self-inside-inside.result } in
    on_ok_both c.write-ended.result (λ ends more. term_ended initial old new field tokens norms ts key (rw inside at h) ends more refl) c.write-ended.ensures.ends wrote)
