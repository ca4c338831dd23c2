use Rattle.std.proofs.Common.{◌∙◌, inr, refl, sym}
use Rattle.std.proofs.lemmas.Result.{IfOk-weaker}
use Rattle.ii_reader.proofs.JsonOrderLemmas.{labels_ascend, none_ascend}
use Rattle.ii_reader.proofs.JsonLemmas.{first_listed, no_terms, none_first}
use Rattle.ii_reader.proofs.inverted_index_reader.InvertedIndexReader.list_encoded_json_fields.Goals as goal

pub returns-in_default-clause-ok : goal.returns-in_default-clause-ok
returns-in_default-clause-ok c = rw c.new.ensures.items (no_terms c.args.self.now.terms (sym (rw (c.stream-terms.ensures.terms, c.terms.ensures) at c.in_default.ensures.key)))

pub returns-in_default-type_in-clause-err : goal.returns-in_default-type_in-clause-err
returns-in_default-type_in-clause-err c = inr (refl, none_first c.args.self.now.terms c.in-Some.key.now (sym (rw (c.stream-terms.ensures.terms, c.terms.ensures) at c.in-Some.ensures.key)) (sym c.in_default-type_in.ensures))

pub returns-in_default-clause-ascending : goal.returns-in_default-clause-ascending
returns-in_default-clause-ascending c = rw c.new.ensures.items none_ascend

pub returns-clause-ascending : goal.returns-clause-ascending
returns-clause-ascending c =
    let terms = c.args.self.now.terms in
    let first = first_listed terms c.in-Some.key.now c.in-Some.term_info c.in-Some-type_in.field_type (sym (rw (c.stream-terms.ensures.terms, c.terms.ensures) at c.in-Some.ensures.key)) (sym (rw (c.stream-terms.ensures.terms, c.terms.ensures) at c.in-Some.ensures.value)) (sym c.in-Some-type_in.ensures) in
    IfOk-weaker c.list_further.result _ _ (λ fields is. labels_ascend terms fields.items (first ∙ (rw (c.in_ok-first.ensures.ok, c.next.ensures.passed, c.stream-terms.ensures.terms, c.terms.ensures) at is)) (rw c.terms.ensures at c.stream-terms.ensures.ascending)) c.list_further.ensures.ok
