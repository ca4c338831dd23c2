use Rattle.std.proofs.Common.{◌≡◌, ◌∙◌, ◌+◌, ◌-◌, Option, refl, sym, ap, subst, arith}
use Rattle.std.specs.Prelude.{max, slice_get}
use Rattle.std.proofs.lemmas.Option.{slice_get_within}
use Rattle.ii_docset.specs.Cursor.{positions_at}
use Rattle.ii_docset.proofs.CursorLemmas.{positions_in_order}
use Rattle.ii_query.specs.declared.phrase.TheConstants.{BEFORE_TEXT}
use Rattle.ii_query.specs.Phrase.{PhrasePartState, PhraseTermState, ReadsOnce, parts_in}
use Rattle.ii_query.specs.SloppyPhrase.{IsRaisedTo, are_in_window}
use Rattle.ii_query.specs.WorkLaws.{all_went_on, none_went, reads_in_turn, reads_nothing}
use Rattle.ii_query.proofs.CountLemmas.{all_counted, none_begins, none_counted, one_counted, one_passed_over}
use Rattle.ii_query.proofs.phrase_starts.count_here.Goals as goal

pub loop-start-init : goal.loop-start-init
loop-start-init g c =
    let still = λ (t : PhraseTermState _). reads_nothing g.P.Postings.spent t (g.met.P.Postings.spent_moving t.cursor t.cursor (g.met.P.DocSet.went_nowhere t.cursor)) in
    record {
      first_same = refl;
      others_same = refl;
      up_to = omega arith;
      counted = none_counted c.args.slop (positions_at c.args.first.now.part.rest) c.args.first.now.passed c.args.others.now.items (ap (λ (t : PhraseTermState _). t.passed) c.requires.first_unread) c.requires.others_unread;
      first_work = still c.args.first.now;
      other_work = none_went (ReadsOnce g.P.Postings.spent) still c.args.others.now.items;
    }

pub returns-in_default-raise_to-clause-count : goal.returns-in_default-raise_to-clause-count
returns-in_default-raise_to-clause-count g c =
    let l = c.loop-start in
    let starts = positions_at c.args.first.now.part.rest in
    let is = c.in-Some.ensures.position ∙ ap (λ (p : PhrasePartState). slice_get (positions_at p.rest) l.first.passed) l.invariant.first_same in
    let end = c.from-end.ensures in
    let slop = c.from.ensures in
    let least = c.max-least.ensures ∙ ap (max l.low) (let same : c.from-end.result + BEFORE_TEXT - c.from.result ≡ c.in-Some.start + BEFORE_TEXT - c.args.slop = omega (arith, end, slop) in same) in
    let small = c.ranges.slop.fits in
    none_begins c.args.slop starts (parts_in c.args.others.now.items) (omega (arith, small)) (positions_in_order c.args.first.now.part.rest c.doc-doc.ensures.sound) l.first.passed l.low l.count l.others.items c.raise_to.new.others.items l.invariant.counted
    (record {
      start = c.in-Some.start;
      least = c.max-least.result;
      last = c.from-end.result + BEFORE_TEXT;
      is = is;
      least_is = least;
      last_is = omega (arith, end);
      raised = subst (λ (found : Option _). IsRaisedTo (are_in_window c.args.slop l.others.items) c.max-least.result (c.from-end.result + BEFORE_TEXT) found) c.in_default-raise_to.is c.raise_to.ensures.raised;
      kept = tt;
    })

pub returns-in_default-raise_to-clause-first_work : goal.returns-in_default-raise_to-clause-first_work
returns-in_default-raise_to-clause-first_work g c = reads_in_turn g.P.Postings.spent g.met.P.Postings.spent_on c.args.first.now c.loop-start.first c.next_position.new.self c.loop-start.invariant.first_work c.next_position.ensures.work

pub returns-in_default-raise_to-clause-other_work : goal.returns-in_default-raise_to-clause-other_work
returns-in_default-raise_to-clause-other_work g c = all_went_on (ReadsOnce g.P.Postings.spent) (reads_in_turn g.P.Postings.spent g.met.P.Postings.spent_on) c.args.others.now.items c.loop-start.others.items c.raise_to.new.others.items c.loop-start.invariant.other_work c.raise_to.ensures.work

pub overflow_add-count : goal.overflow_add-count
overflow_add-count g c =
    let l = c.loop-start in
    let is = c.in-Some.ensures.position ∙ ap (λ (p : PhrasePartState). slice_get (positions_at p.rest) l.first.passed) l.invariant.first_same in
    let inside = slice_get_within (positions_at c.args.first.now.part.rest) l.first.passed c.in-Some.start (sym is) in
    let few = l.invariant.counted.few in
    let most = c.most_positions-most.ensures in
    let fits = c.most_positions-most.type_inv in
    omega (arith, inside, few, most, fits)

pub loop-start-smaller-then-window-end : goal.loop-start-smaller-then-window-end
loop-start-smaller-then-window-end g c =
    let l = c.loop-start in
    let is = c.in-Some.ensures.position ∙ ap (λ (p : PhrasePartState). slice_get (positions_at p.rest) l.first.passed) l.invariant.first_same in
    let inside = slice_get_within (positions_at c.args.first.now.part.rest) l.first.passed c.in-Some.start (sym is) in
    let next = c.in-Some.ensures.passed refl in
    omega (arith, inside, next)

pub loop-start-preserved-then-window-end : goal.loop-start-preserved-then-window-end
loop-start-preserved-then-window-end g c =
    let l = c.loop-start in
    let starts = positions_at c.args.first.now.part.rest in
    let is = c.in-Some.ensures.position ∙ ap (λ (p : PhrasePartState). slice_get (positions_at p.rest) l.first.passed) l.invariant.first_same in
    let end = c.from-end.ensures in
    let slop = c.from.ensures in
    let least = c.max-least.ensures ∙ ap (max l.low) (let same : c.from-end.result + BEFORE_TEXT - c.from.result ≡ c.in-Some.start + BEFORE_TEXT - c.args.slop = omega (arith, end, slop) in same) in
    let small = c.ranges.slop.fits in
    let one = one_counted c.args.slop starts (parts_in c.args.others.now.items) (omega (arith, small)) (positions_in_order c.args.first.now.part.rest c.doc-doc.ensures.sound) l.first.passed l.low l.count l.others.items c.raise_to.new.others.items l.invariant.counted c.in-Some-raise_to.window
    (record {
      start = c.in-Some.start;
      least = c.max-least.result;
      last = c.from-end.result + BEFORE_TEXT;
      is = is;
      least_is = least;
      last_is = omega (arith, end);
      raised = c.in-Some-raise_to.ensures.raised;
      kept = c.in-Some-raise_to.ensures.later;
    }) c.if-window-end.true in
    record {
      first_same = c.next_position.ensures.same ∙ l.invariant.first_same;
      others_same = c.raise_to.ensures.same ∙ l.invariant.others_same;
      up_to = c.in-Some-raise_to.ensures.up_to;
      counted = rw (c.in-Some.ensures.passed refl) one;
      first_work = reads_in_turn g.P.Postings.spent g.met.P.Postings.spent_on c.args.first.now l.first c.next_position.new.self l.invariant.first_work c.next_position.ensures.work;
      other_work = all_went_on (ReadsOnce g.P.Postings.spent) (reads_in_turn g.P.Postings.spent g.met.P.Postings.spent_on) c.args.others.now.items l.others.items c.raise_to.new.others.items l.invariant.other_work c.raise_to.ensures.work;
    }

pub loop-start-smaller : goal.loop-start-smaller
loop-start-smaller g c =
    let l = c.loop-start in
    let is = c.in-Some.ensures.position ∙ ap (λ (p : PhrasePartState). slice_get (positions_at p.rest) l.first.passed) l.invariant.first_same in
    let inside = slice_get_within (positions_at c.args.first.now.part.rest) l.first.passed c.in-Some.start (sym is) in
    let next = c.in-Some.ensures.passed refl in
    omega (arith, inside, next)

pub loop-start-preserved : goal.loop-start-preserved
loop-start-preserved g c =
    let l = c.loop-start in
    let starts = positions_at c.args.first.now.part.rest in
    let is = c.in-Some.ensures.position ∙ ap (λ (p : PhrasePartState). slice_get (positions_at p.rest) l.first.passed) l.invariant.first_same in
    let end = c.from-end.ensures in
    let slop = c.from.ensures in
    let least = c.max-least.ensures ∙ ap (max l.low) (let same : c.from-end.result + BEFORE_TEXT - c.from.result ≡ c.in-Some.start + BEFORE_TEXT - c.args.slop = omega (arith, end, slop) in same) in
    let small = c.ranges.slop.fits in
    let over = c.if-window-end.false in
    let one = one_passed_over c.args.slop starts (parts_in c.args.others.now.items) (omega (arith, small)) (positions_in_order c.args.first.now.part.rest c.doc-doc.ensures.sound) l.first.passed l.low l.count l.others.items c.raise_to.new.others.items l.invariant.counted c.in-Some-raise_to.window
    (record {
      start = c.in-Some.start;
      least = c.max-least.result;
      last = c.from-end.result + BEFORE_TEXT;
      is = is;
      least_is = least;
      last_is = omega (arith, end);
      raised = c.in-Some-raise_to.ensures.raised;
      kept = c.in-Some-raise_to.ensures.later;
    }) (omega (arith, over)) in
    record {
      first_same = c.next_position.ensures.same ∙ l.invariant.first_same;
      others_same = c.raise_to.ensures.same ∙ l.invariant.others_same;
      up_to = c.in-Some-raise_to.ensures.up_to;
      counted = rw (c.in-Some.ensures.passed refl) one;
      first_work = reads_in_turn g.P.Postings.spent g.met.P.Postings.spent_on c.args.first.now l.first c.next_position.new.self l.invariant.first_work c.next_position.ensures.work;
      other_work = all_went_on (ReadsOnce g.P.Postings.spent) (reads_in_turn g.P.Postings.spent g.met.P.Postings.spent_on) c.args.others.now.items l.others.items c.raise_to.new.others.items l.invariant.other_work c.raise_to.ensures.work;
    }

pub returns-clause-count : goal.returns-clause-count
returns-clause-count g c =
    let l = c.loop-start in
    let is = sym c.in_default.is ∙ c.next_position.ensures.position ∙ ap (λ (p : PhrasePartState). slice_get (positions_at p.rest) l.first.passed) l.invariant.first_same in
    all_counted c.args.slop (positions_at c.args.first.now.part.rest) (parts_in c.args.others.now.items) l.first.passed l.low l.count l.others.items l.invariant.counted is

pub returns-clause-first_work : goal.returns-clause-first_work
returns-clause-first_work g c = reads_in_turn g.P.Postings.spent g.met.P.Postings.spent_on c.args.first.now c.loop-start.first c.next_position.new.self c.loop-start.invariant.first_work c.next_position.ensures.work
