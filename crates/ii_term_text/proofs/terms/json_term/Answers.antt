use Rattle.std.proofs.Common.{◌∙◌, ◌∷◌, ◌++◌, Some, ap, sym}
use Rattle.ii_base.specs.Paths.{path_bytes, segments_of}
use Rattle.ii_base.specs.Terms.{TermState}
use Rattle.ii_base.specs.ValueTypes.{code_of}
use Rattle.ii_term_text.specs.KeyTexts.{scalar_in, scalar_key, scalar_type, term_with}
use Rattle.ii_term_text.proofs.KeyLemmas.{appended_scalar, key_again, spelled_by}
use Rattle.ii_term_text.proofs.terms.json_term.Goals as goal

pub returns-then-branch-clause-ok : goal.returns-then-branch-clause-ok
returns-then-branch-clause-ok c =
    let letter = c.in-Some.letter.now in
    let value = c.in-Some.value.now in
    let a = appended_scalar (scalar_in letter value) c.in_ok-term.term c.append_scalar.new.term c.in_ok-append_scalar.field-0 c.in_ok-append_scalar.ensures.ok c.if-branch.true in
    let key = code_of (scalar_type a.0) ∷ scalar_key a.0 in
    let path = path_bytes c.args.expands_dots (segments_of c.in-Some.path.now) in
    let old = c.in_ok-term.ensures.ok in
    let all = ap (λ (t : TermState). t.value ++ key) old ∙ key_again path key in
    let field = ap (λ (t : TermState). t.field) old in
    let spelled = spelled_by c.args.expands_dots c.args.text.now c.in-Some.path.now letter value a.0 c.in-Some.ensures (sym c.has_zero.ensures ∙ c.if-has_zero.false) a.1 in
    ap Some (a.2 ∙ (λ i. record { field = field i; value = all i })) ∙ sym (ap (term_with c.args.field) spelled)
