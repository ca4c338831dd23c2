use Rattle.std.proofs.Common.{◌≤◌, ◌++◌, ◌∙◌, subst, refl, rules, Err, Ok, length, List, [], map}
use Rattle.std.proofs.lemmas.List.{take_all}
use Rattle.std.proofs.lemmas.Result.{err_from_is_err_and}
use Rattle.std.specs.List.{AllByRecursion}
use Rattle.ii_definitions.specs.Fields.{option_of}
use Rattle.ii_recorder.proofs.GrowthLemmas.{AllGrow-trans}
use Rattle.ii_recorder.specs.IndexSerializer.{IsWriting}
use Rattle.ii_postings_writer.specs.declared.sorted_terms.TermOfField.{TermOfField}
use Rattle.ii_postings_writer.specs.SortedTerms.{IsTold, state_of}
use Rattle.ii_postings_writer.proofs.SerializeLemmas.{all_written}
use Rattle.ii_postings_writer.proofs.TermSteps.{WritesTerm, ended, may_push_all, not_begun, not_pushed}
use Rattle.ii_postings_writer.proofs.TermsLemmas.{ends_then, goes_on, key_above, may_write, now_unclosed, starts, term_fault}
use Rattle.ii_postings_writer.proofs.postings_writer.PostingsWriter.serialize.Given as given
use Rattle.ii_postings_writer.proofs.postings_writer.PostingsWriter.serialize.Goals as goal

pub loop-place-init : goal.loop-place-init
loop-place-init g c = (starts c.args.terms.now c.args.serializer.now.index.now c.requires.open c.requires.between, refl)

pub begin_term-requires-clause-open : goal.begin_term-requires-clause-open
begin_term-requires-clause-open g c =
    now_unclosed c.args.terms.now c.loop-place.place c.args.serializer.now.index.now c.loop-place.serializer.index.now c.requires.open c.loop-place.invariant.0

pub begin_term-requires-clause-between : goal.begin_term-requires-clause-between
begin_term-requires-clause-between g c = c.loop-place.invariant.0.between

pub begin_term-requires-clause-ascending : goal.begin_term-requires-clause-ascending
begin_term-requires-clause-ascending g c =
    key_above c.args.terms.now c.loop-place.place c.args.serializer.now.index.now c.loop-place.serializer.index.now c.requires.open c.loop-place.invariant.0 c.requires.field
    c.index-terms-place.result (search rules) c.index-terms-place.is c.requires.ascending

pub serialize-requires : goal.serialize-requires
serialize-requires g c =
    let now = c.loop-place.serializer.index.now in
    let unclosed = now_unclosed c.args.terms.now c.loop-place.place c.args.serializer.now.index.now now c.requires.open c.loop-place.invariant.0 in
    let writable = may_write c.args.terms.now c.loop-place.place c.args.serializer.now.index.now now c.requires.open c.loop-place.invariant.0 c.requires.field
    c.index-terms-place.result (search rules) c.index-terms-place.is c.requires.writable in
    may_push_all now c.begin_term.new.serializer.index.now (state_of c.index-terms-place.result) unclosed c.in_ok-begin_term.ensures.begun writable

refused_begin_term : (g : given.Over) (c : goal.After-from_residual g) → WritesTerm c.loop-place.serializer.index.now c.begin_term.new.serializer.index.now (state_of c.index-terms-place.result) (Err c.in_err-begin_term.field-0.0)
refused_begin_term g c =
    let now = c.loop-place.serializer.index.now in
    let unclosed = now_unclosed c.args.terms.now c.loop-place.place c.args.serializer.now.index.now now c.requires.open c.loop-place.invariant.0 in
    let e = c.in_err-begin_term.field-0.0 in
    not_begun now c.begin_term.new.serializer.index.now (state_of c.index-terms-place.result) unclosed e c.in_err-begin_term.ensures.ends c.in_err-begin_term.ensures.only

pub returns-in_err-begin_term-clause-grow : goal.returns-in_err-begin_term-clause-grow
returns-in_err-begin_term-clause-grow g c =
    AllGrow-trans c.args.serializer.now.index.now.bodies c.loop-place.serializer.index.now.bodies c.begin_term.new.serializer.index.now.bodies c.loop-place.invariant.0.grow (refused_begin_term g c).grow

pub returns-in_err-begin_term-clause-ends : goal.returns-in_err-begin_term-clause-ends
returns-in_err-begin_term-clause-ends g c =
    let p = err_from_is_err_and c.from_residual.result c.from_residual.ensures.1 in
    rw (p.1, p.2) (ends_then c.args.serializer.now.index.now c.loop-place.serializer.index.now c.begin_term.new.serializer.index.now (Err c.in_err-begin_term.field-0.0) c.requires.open c.loop-place.invariant.0.ends (refused_begin_term g c).ends)

pub returns-in_err-begin_term-clause-fault : goal.returns-in_err-begin_term-clause-fault
returns-in_err-begin_term-clause-fault g c initial field tokens norms ts writing =
    let p = err_from_is_err_and c.from_residual.result c.from_residual.ensures.1 in
    rw (p.1, p.2) (term_fault c.args.terms.now c.loop-place.place c.args.serializer.now.index.now c.loop-place.serializer.index.now c.requires.open c.loop-place.invariant.0 c.requires.field
    c.index-terms-place.result (search rules) c.index-terms-place.is initial field tokens norms ts c.in_err-begin_term.field-0.0 writing (refused_begin_term g c).fault)

refused_serialize : (g : given.Over) (c : goal.After-from_residual-in_err-serialize g) → WritesTerm c.loop-place.serializer.index.now c.serialize.new.serializer.index.now (state_of c.index-terms-place.result) (Err c.in_err-serialize.field-0.0)
refused_serialize g c =
    let now = c.loop-place.serializer.index.now in
    let unclosed = now_unclosed c.args.terms.now c.loop-place.place c.args.serializer.now.index.now now c.requires.open c.loop-place.invariant.0 in
    not_pushed now c.begin_term.new.serializer.index.now (state_of c.index-terms-place.result) unclosed c.in_ok-begin_term.ensures.begun c.serialize.new.serializer.index.now c.in_err-serialize.field-0.0 c.in_err-serialize.ensures.pushes

pub returns-in_err-serialize-clause-grow : goal.returns-in_err-serialize-clause-grow
returns-in_err-serialize-clause-grow g c =
    AllGrow-trans c.args.serializer.now.index.now.bodies c.loop-place.serializer.index.now.bodies c.serialize.new.serializer.index.now.bodies c.loop-place.invariant.0.grow (refused_serialize g c).grow

pub returns-in_err-serialize-clause-ends : goal.returns-in_err-serialize-clause-ends
returns-in_err-serialize-clause-ends g c =
    let p = err_from_is_err_and c.from_residual-in_err-serialize.result c.from_residual-in_err-serialize.ensures.1 in
    rw (p.1, p.2) (ends_then c.args.serializer.now.index.now c.loop-place.serializer.index.now c.serialize.new.serializer.index.now (Err c.in_err-serialize.field-0.0) c.requires.open c.loop-place.invariant.0.ends (refused_serialize g c).ends)

pub returns-in_err-serialize-clause-fault : goal.returns-in_err-serialize-clause-fault
returns-in_err-serialize-clause-fault g c initial field tokens norms ts writing =
    let p = err_from_is_err_and c.from_residual-in_err-serialize.result c.from_residual-in_err-serialize.ensures.1 in
    rw (p.1, p.2) (term_fault c.args.terms.now c.loop-place.place c.args.serializer.now.index.now c.loop-place.serializer.index.now c.requires.open c.loop-place.invariant.0 c.requires.field
    c.index-terms-place.result (search rules) c.index-terms-place.is initial field tokens norms ts c.in_err-serialize.field-0.0 writing (refused_serialize g c).fault)

refused_close_term : (g : given.Over) (c : goal.After-from_residual-in_err-close_term g) → WritesTerm c.loop-place.serializer.index.now c.close_term.new.self.index.now (state_of c.index-terms-place.result) (Err c.in_err-close_term.field-0.0)
refused_close_term g c =
    let now = c.loop-place.serializer.index.now in
    let unclosed = now_unclosed c.args.terms.now c.loop-place.place c.args.serializer.now.index.now now c.requires.open c.loop-place.invariant.0 in
    ended now c.begin_term.new.serializer.index.now (state_of c.index-terms-place.result) unclosed c.in_ok-begin_term.ensures.begun c.serialize.new.serializer.index.now c.in_ok-serialize.ensures.pushes c.in_ok-serialize.ensures.located
    c.close_term.new.self.index.now (Err c.in_err-close_term.field-0.0) c.in_err-close_term.ensures.writing c.in_err-close_term.ensures.between c.in_err-close_term.ensures.ends c.close_term.ensures.grow c.in_err-close_term.ensures.fault

pub returns-in_err-close_term-clause-grow : goal.returns-in_err-close_term-clause-grow
returns-in_err-close_term-clause-grow g c =
    AllGrow-trans c.args.serializer.now.index.now.bodies c.loop-place.serializer.index.now.bodies c.close_term.new.self.index.now.bodies c.loop-place.invariant.0.grow (refused_close_term g c).grow

pub returns-in_err-close_term-clause-ends : goal.returns-in_err-close_term-clause-ends
returns-in_err-close_term-clause-ends g c =
    let p = err_from_is_err_and c.from_residual-in_err-close_term.result c.from_residual-in_err-close_term.ensures.1 in
    rw (p.1, p.2) (ends_then c.args.serializer.now.index.now c.loop-place.serializer.index.now c.close_term.new.self.index.now (Err c.in_err-close_term.field-0.0) c.requires.open c.loop-place.invariant.0.ends (refused_close_term g c).ends)

pub returns-in_err-close_term-clause-fault : goal.returns-in_err-close_term-clause-fault
returns-in_err-close_term-clause-fault g c initial field tokens norms ts writing =
    let p = err_from_is_err_and c.from_residual-in_err-close_term.result c.from_residual-in_err-close_term.ensures.1 in
    rw (p.1, p.2) (term_fault c.args.terms.now c.loop-place.place c.args.serializer.now.index.now c.loop-place.serializer.index.now c.requires.open c.loop-place.invariant.0 c.requires.field
    c.index-terms-place.result (search rules) c.index-terms-place.is initial field tokens norms ts c.in_err-close_term.field-0.0 writing (refused_close_term g c).fault)

pub loop-place-preserved : goal.loop-place-preserved
loop-place-preserved g c =
    let now = c.loop-place.serializer.index.now in
    let unclosed = now_unclosed c.args.terms.now c.loop-place.place c.args.serializer.now.index.now now c.requires.open c.loop-place.invariant.0 in
    let one = ended now c.begin_term.new.serializer.index.now (state_of c.index-terms-place.result) unclosed c.in_ok-begin_term.ensures.begun c.serialize.new.serializer.index.now c.in_ok-serialize.ensures.pushes c.in_ok-serialize.ensures.located
    c.close_term.new.self.index.now (Ok tt) c.in_ok-close_term.ensures.writing c.in_ok-close_term.ensures.between c.in_ok-close_term.ensures.ends c.close_term.ensures.grow c.in_ok-close_term.ensures.fault in (
      goes_on c.args.terms.now c.loop-place.place c.args.serializer.now.index.now now c.requires.open c.loop-place.invariant.0 c.requires.field
          c.index-terms-place.result (search rules) c.index-terms-place.is c.close_term.new.self.index.now
          one.writing one.told one.between one.ends one.grow,
      c.close_term.ensures.same_reference ∙ c.serialize.ensures.same_reference ∙ c.begin_term.ensures.same_reference ∙ c.loop-place.invariant.1,
    )

pub returns-clause-writing : goal.returns-clause-writing
returns-clause-writing g c initial field tokens norms ts writing =
    let old = c.args.serializer.now.index.now in
    let terms = c.args.terms.now in
    let many : length terms ≤ c.loop-place.place = search rules in
    subst (λ (us : List TermOfField). IsWriting initial c.loop-place.serializer.index.now field tokens norms (ts ++ all_written norms (option_of old.entries field) us) []) (take_all c.loop-place.place terms many) (c.loop-place.invariant.0.writing initial field tokens norms ts writing)

pub returns-clause-told : goal.returns-clause-told
returns-clause-told g c =
    let many : length c.args.terms.now ≤ c.loop-place.place = search rules in
    subst (λ (us : List TermOfField). AllByRecursion (IsTold c.args.serializer.now.index.now.field.term.mode) (map state_of us)) (take_all c.loop-place.place c.args.terms.now many) c.loop-place.invariant.0.told
