use Rattle.std.proofs.Common.{sym}
use Rattle.std.proofs.lemmas.Result.{err_from_is_err_and}
use Rattle.ii_store.proofs.Steps.{stops_at_terms, stops_at_postings, stops_at_positions, stops_at_fieldnorms, reads_all}
use Rattle.ii_store.proofs.stored_index.load_by.Goals as goal

pub returns-in_err-terms-clause-answers : goal.returns-in_err-terms-clause-answers
returns-in_err-terms-clause-answers g c = λ known.
    let p = err_from_is_err_and c.from_residual-in_err-terms.result c.from_residual-in_err-terms.ensures.1 in
    rw (p.1, p.2, sym c.slot_named-slot.ensures) (stops_at_terms c.args.meta.now _ _ _ _ _ c.in_ok-num_docs.num_docs (sym c.in_ok-num_docs.ensures.number) c.in_ok-schema.schema.items (c.in_ok-schema.ensures.answers known) c.in_err-terms.field-0.0 (c.in_err-terms.ensures.answers known))

pub returns-in_err-postings-clause-answers : goal.returns-in_err-postings-clause-answers
returns-in_err-postings-clause-answers g c = λ known.
    let p = err_from_is_err_and c.from_residual-in_err-postings.result c.from_residual-in_err-postings.ensures.1 in
    rw (p.1, p.2, sym c.slot_named-slot.ensures) (stops_at_postings c.args.meta.now _ _ _ _ _ c.in_ok-num_docs.num_docs (sym c.in_ok-num_docs.ensures.number) c.in_ok-schema.schema.items (c.in_ok-schema.ensures.answers known) c.in_ok-terms.terms.items (c.in_ok-terms.ensures.answers known) c.in_err-postings.field-0.0 (c.in_err-postings.ensures.answers known))

pub returns-in_err-positions-clause-answers : goal.returns-in_err-positions-clause-answers
returns-in_err-positions-clause-answers g c = λ known.
    let p = err_from_is_err_and c.from_residual-in_err-positions.result c.from_residual-in_err-positions.ensures.1 in
    rw (p.1, p.2, sym c.slot_named-slot.ensures) (stops_at_positions c.args.meta.now _ _ _ _ _ c.in_ok-num_docs.num_docs (sym c.in_ok-num_docs.ensures.number) c.in_ok-schema.schema.items (c.in_ok-schema.ensures.answers known) c.in_ok-terms.terms.items (c.in_ok-terms.ensures.answers known) c.in_ok-postings.postings.items (c.in_ok-postings.ensures.answers known) c.in_err-positions.field-0.0 (c.in_err-positions.ensures.answers known))

pub returns-in_err-fieldnorms-clause-answers : goal.returns-in_err-fieldnorms-clause-answers
returns-in_err-fieldnorms-clause-answers g c = λ known.
    let p = err_from_is_err_and c.from_residual-in_err-fieldnorms.result c.from_residual-in_err-fieldnorms.ensures.1 in
    rw (p.1, p.2, sym c.slot_named-slot.ensures) (stops_at_fieldnorms c.args.meta.now _ _ _ _ _ c.in_ok-num_docs.num_docs (sym c.in_ok-num_docs.ensures.number) c.in_ok-schema.schema.items (c.in_ok-schema.ensures.answers known) c.in_ok-terms.terms.items (c.in_ok-terms.ensures.answers known) c.in_ok-postings.postings.items (c.in_ok-postings.ensures.answers known) c.in_ok-positions.positions.items (c.in_ok-positions.ensures.answers known) c.in_err-fieldnorms.field-0.0 (c.in_err-fieldnorms.ensures.answers known))

pub returns-clause-answers : goal.returns-clause-answers
returns-clause-answers g c = λ known. rw (sym c.slot_named-slot.ensures) (reads_all c.args.meta.now _ _ _ _ _ c.in_ok-num_docs.num_docs (sym c.in_ok-num_docs.ensures.number) c.in_ok-schema.schema.items (c.in_ok-schema.ensures.answers known) c.in_ok-terms.terms.items (c.in_ok-terms.ensures.answers known) c.in_ok-postings.postings.items (c.in_ok-postings.ensures.answers known) c.in_ok-positions.positions.items (c.in_ok-positions.ensures.answers known) c.in_ok-fieldnorms.fieldnorms.items (c.in_ok-fieldnorms.ensures.answers known))
