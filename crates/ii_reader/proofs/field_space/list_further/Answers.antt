use Rattle.std.proofs.Common.{◌≡◌, ◌<◌, ◌≤◌, Some, true, List, [], ◌∷◌, ◌++◌, length, nat_lt, inr, refl, sym, ap, ◌∙◌, arith}
use Rattle.std.proofs.lemmas.Bool.{lt-ltb}
use Rattle.ii_termdict.specs.Dictionary.{TermEntry}
use Rattle.ii_termdict.specs.TermStreamer.{TermStreamerState}
use Rattle.ii_reader.specs.JsonFields.{FieldSpaceState}
use Rattle.ii_reader.proofs.JsonLemmas.{entry_at, listed_all, listed_more, listed_next, listed_none, none_past}
use Rattle.ii_reader.proofs.field_space.list_further.Goals as goal

pub returns-in_default-type_in-clause-err : goal.returns-in_default-type_in-clause-err
returns-in_default-type_in-clause-err c =
    let l = c.loop-term in
    let here = entry_at c.args.terms.entries l._term c.in-Some.key.now c.in-Some.term_info (sym (rw (l.invariant.passed, l.invariant.entries) at c.in-Some.ensures.key)) (sym (rw (l.invariant.passed, l.invariant.entries) at c.in-Some.ensures.value)) in
    inr (refl, listed_none c.args.terms.entries c.args.first l._term l.fields.items l.current l.invariant.listing c.in-Some.key.now c.in-Some.term_info here (sym c.in_default-type_in.ensures))

pub loop-term-preserved-then-record : goal.loop-term-preserved-then-record
loop-term-preserved-then-record c =
    let l = c.loop-term in
    let here = entry_at c.args.terms.entries l._term c.in-Some.key.now c.in-Some.term_info (sym (rw (l.invariant.passed, l.invariant.entries) at c.in-Some.ensures.key)) (sym (rw (l.invariant.passed, l.invariant.entries) at c.in-Some.ensures.value)) in
    let found : nat_lt l.terms.passed (length l.terms.entries) ≡ true = lt-ltb _ _ (let at = l.invariant.passed in let same = ap (λ (es : List TermEntry). length es) l.invariant.entries in let many = c.requires.many in let low = c.loop-term-test.true in omega arith) in
    record {
      passed = ap (λ (t : TermStreamerState). t.passed) c.next.ensures.passed ∙ rw (found, l.invariant.passed) refl;
      entries = ap (λ (t : TermStreamerState). t.entries) c.next.ensures.passed ∙ l.invariant.entries;
      listing = listed_more c.args.terms.entries c.args.first l._term l.fields.items l.current l.invariant.listing c.in-Some.key.now c.in-Some.term_info here c.in-Some-type_in.field_type (sym c.in-Some-type_in.ensures) (sym c.if-record.ensures.same) c.record.new.self c.if-record.ensures.added (c.record.ensures.within l._term l.invariant.listing.within);
    }

pub loop-term-preserved : goal.loop-term-preserved
loop-term-preserved c =
    let l = c.loop-term in
    let here = entry_at c.args.terms.entries l._term c.in-Some.key.now c.in-Some.term_info (sym (rw (l.invariant.passed, l.invariant.entries) at c.in-Some.ensures.key)) (sym (rw (l.invariant.passed, l.invariant.entries) at c.in-Some.ensures.value)) in
    let found : nat_lt l.terms.passed (length l.terms.entries) ≡ true = lt-ltb _ _ (let at = l.invariant.passed in let same = ap (λ (es : List TermEntry). length es) l.invariant.entries in let many = c.requires.many in let low = c.loop-term-test.true in omega arith) in
    record {
      passed = ap (λ (t : TermStreamerState). t.passed) c.next.ensures.passed ∙ rw (found, l.invariant.passed) refl;
      entries = ap (λ (t : TermStreamerState). t.entries) c.next.ensures.passed ∙ l.invariant.entries;
      listing = listed_next c.args.terms.entries c.args.first l._term l.fields.items l.current l.invariant.listing c.in-Some.key.now c.in-Some.term_info here c.in-Some-type_in.field_type (sym c.in-Some-type_in.ensures) (sym c.if-record.ensures.same) c.push.new.self.items (c.in_ok-push.ensures.items ∙ ap (λ (s : FieldSpaceState). l.fields.items ++ s ∷ []) c.if-record.ensures.added) c.in_ok-current.current c.in_ok-current.ensures.ok c.in_ok-current.ensures.within;
    }

pub returns-in_default-clause-ok : goal.returns-in_default-clause-ok
returns-in_default-clause-ok c =
    let l = c.loop-term in
    let low : l._term < length c.args.terms.entries = (let many = c.requires.many in let test = c.loop-term-test.true in omega arith) in
    absurd (none_past c.args.terms.entries l._term low (sym (rw (l.invariant.passed, l.invariant.entries) at c.in_default.ensures.key)))

pub returns-clause-ok : goal.returns-clause-ok
returns-clause-ok c =
    let l = c.loop-term in
    let past : length c.args.terms.entries ≤ l._term = (let many = c.requires.many in let test = c.loop-term-test.false in omega arith) in
    listed_all c.args.terms.entries c.args.first l._term l.fields.items l.current l.invariant.listing past ∙ sym (ap Some c.in_ok-push-2.ensures.items)
