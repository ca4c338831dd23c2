use Rattle.std.proofs.Common.{◌∙◌, refl, ap, sym, arith}
use Rattle.std.specs.Prelude.{slice_get}
use Rattle.std.proofs.lemmas.Option.{slice_get_within}
use Rattle.ii_docset.specs.Cursor.{positions_at}
use Rattle.ii_docset.proofs.CursorLemmas.{positions_in_order}
use Rattle.ii_query.specs.Phrase.{PhrasePartState, PhraseTermState, ReadsOnce, parts_in}
use Rattle.ii_query.specs.WorkLaws.{all_went_on, none_went, reads_in_turn, reads_nothing}
use Rattle.ii_query.proofs.StartLemmas.{all_tried, none_tried, one_tried, start_found}
use Rattle.ii_query.proofs.phrase.is_phrase.Goals as goal

pub loop-start-init : goal.loop-start-init
loop-start-init g c =
    let still = λ (t : PhraseTermState _). reads_nothing g.P.Postings.spent t (g.met.P.Postings.spent_moving t.cursor t.cursor (g.met.P.DocSet.went_nowhere t.cursor)) in
    record {
      first_same = refl;
      others_same = refl;
      tried = none_tried (positions_at c.args.first.now.part.rest) c.args.first.now.passed c.args.others.now.items (ap (λ (t : PhraseTermState _). t.passed) c.requires.first_unread) c.requires.others_unread;
      first_work = still c.args.first.now;
      other_work = none_went (ReadsOnce g.P.Postings.spent) still c.args.others.now.items;
    }

pub returns-then-stand_from-clause-phrase : goal.returns-then-stand_from-clause-phrase
returns-then-stand_from-clause-phrase g c =
    let l = c.loop-start in
    let is = c.in-Some.ensures.position ∙ ap (λ (p : PhrasePartState). slice_get (positions_at p.rest) l.first.passed) l.invariant.first_same in
    start_found (positions_at c.args.first.now.part.rest) (parts_in c.args.others.now.items) l.first.passed c.in-Some.start l.others.items l.invariant.tried (positions_in_order c.args.first.now.part.rest c.doc-doc.ensures.sound) is
    (sym c.stand_from.ensures.stand ∙ c.if-stand_from.true)

pub returns-then-stand_from-clause-first_work : goal.returns-then-stand_from-clause-first_work
returns-then-stand_from-clause-first_work g c = reads_in_turn g.P.Postings.spent g.met.P.Postings.spent_on c.args.first.now c.loop-start.first c.next_position.new.self c.loop-start.invariant.first_work c.next_position.ensures.work

pub returns-then-stand_from-clause-other_work : goal.returns-then-stand_from-clause-other_work
returns-then-stand_from-clause-other_work g c = all_went_on (ReadsOnce g.P.Postings.spent) (reads_in_turn g.P.Postings.spent g.met.P.Postings.spent_on) c.args.others.now.items c.loop-start.others.items c.stand_from.new.others.items c.loop-start.invariant.other_work c.stand_from.ensures.work

pub loop-start-smaller : goal.loop-start-smaller
loop-start-smaller g c =
    let l = c.loop-start in
    let is = c.in-Some.ensures.position ∙ ap (λ (p : PhrasePartState). slice_get (positions_at p.rest) l.first.passed) l.invariant.first_same in
    let inside = slice_get_within (positions_at c.args.first.now.part.rest) l.first.passed c.in-Some.start (sym is) in
    let next = c.in-Some.ensures.passed refl in
    omega (arith, inside, next)

pub loop-start-preserved : goal.loop-start-preserved
loop-start-preserved g c =
    let l = c.loop-start in
    let is = c.in-Some.ensures.position ∙ ap (λ (p : PhrasePartState). slice_get (positions_at p.rest) l.first.passed) l.invariant.first_same in
    record {
      first_same = c.next_position.ensures.same ∙ l.invariant.first_same;
      others_same = c.stand_from.ensures.same ∙ l.invariant.others_same;
      tried = one_tried (positions_at c.args.first.now.part.rest) (parts_in c.args.others.now.items) l.first.passed c.next_position.new.self.passed c.in-Some.start l.others.items c.stand_from.new.others.items l.invariant.tried
          (positions_in_order c.args.first.now.part.rest c.doc-doc.ensures.sound) is (c.in-Some.ensures.passed refl) (sym c.stand_from.ensures.stand ∙ c.if-stand_from.false) c.stand_from.ensures.later;
      first_work = reads_in_turn g.P.Postings.spent g.met.P.Postings.spent_on c.args.first.now l.first c.next_position.new.self l.invariant.first_work c.next_position.ensures.work;
      other_work = all_went_on (ReadsOnce g.P.Postings.spent) (reads_in_turn g.P.Postings.spent g.met.P.Postings.spent_on) c.args.others.now.items l.others.items c.stand_from.new.others.items l.invariant.other_work c.stand_from.ensures.work;
    }

pub returns-clause-phrase : goal.returns-clause-phrase
returns-clause-phrase g c =
    let l = c.loop-start in
    let is = sym c.in_default.is ∙ c.next_position.ensures.position ∙ ap (λ (p : PhrasePartState). slice_get (positions_at p.rest) l.first.passed) l.invariant.first_same in
    all_tried (positions_at c.args.first.now.part.rest) (parts_in c.args.others.now.items) l.first.passed l.others.items l.invariant.tried is

pub returns-clause-first_work : goal.returns-clause-first_work
returns-clause-first_work g c = reads_in_turn g.P.Postings.spent g.met.P.Postings.spent_on c.args.first.now c.loop-start.first c.next_position.new.self c.loop-start.invariant.first_work c.next_position.ensures.work
