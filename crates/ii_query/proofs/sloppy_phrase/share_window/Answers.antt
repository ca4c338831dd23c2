use Rattle.std.proofs.Common.{◌∙◌, ◌∷◌, Option, refl, subst, sym, arith, inl, inr}
use Rattle.std.proofs.lemmas.Bool.{cases_lt}
use Rattle.ii_query.specs.Phrase.{PhraseTermState, ReadsOnce}
use Rattle.ii_query.specs.SloppyPhrase.{IsRaised, are_in_window}
use Rattle.ii_query.specs.WorkLaws.{all_went_on, none_went, reads_in_turn, reads_nothing}
use Rattle.ii_query.proofs.SloppyLemmas.{share_found, share_missed}
use Rattle.ii_query.proofs.sloppy_phrase.share_window.Goals as goal

pub loop-window-init : goal.loop-window-init
loop-window-init g c =
    let still = λ (t : PhraseTermState _). reads_nothing g.P.Postings.spent t (g.met.P.Postings.spent_moving t.cursor t.cursor (g.met.P.DocSet.went_nowhere t.cursor)) in
    record {
      first_same = refl;
      others_same = refl;
      up_to = omega arith;
      none = λ w below. absurd (omega (arith, below));
      later = λ w up. refl;
      first_work = still c.args.first.now;
      other_work = none_went (ReadsOnce g.P.Postings.spent) still c.args.others.now.items;
    }

pub returns-then-window-low-clause-phrase : goal.returns-then-window-low-clause-phrase
returns-then-window-low-clause-phrase g c =
    let l = c.loop-window in
    let has = sym (l.invariant.later l.low (omega arith)) ∙ c.in-Some.ensures.raised.1 c.if-window-low.true in
    sym (share_found c.args.slop l.low c.args.first.now c.args.others.now.items c.requires.first_unread c.requires.others_unread c.requires.leads has)

pub returns-then-window-low-clause-first_work : goal.returns-then-window-low-clause-first_work
returns-then-window-low-clause-first_work g c = reads_in_turn g.P.Postings.spent g.met.P.Postings.spent_on c.args.first.now c.loop-window.first c.raise_all.new.first c.loop-window.invariant.first_work c.raise_all.ensures.first_work

pub returns-then-window-low-clause-other_work : goal.returns-then-window-low-clause-other_work
returns-then-window-low-clause-other_work g c = all_went_on (ReadsOnce g.P.Postings.spent) (reads_in_turn g.P.Postings.spent g.met.P.Postings.spent_on) c.args.others.now.items c.loop-window.others.items c.raise_all.new.others.items c.loop-window.invariant.other_work c.raise_all.ensures.other_work

pub loop-window-preserved : goal.loop-window-preserved
loop-window-preserved g c =
    let l = c.loop-window in
    let e = c.in-Some.ensures in
    let from = e.raised.0 in
    record {
      first_same = c.raise_all.ensures.first_same ∙ l.invariant.first_same;
      others_same = c.raise_all.ensures.others_same ∙ l.invariant.others_same;
      up_to = e.up_to;
      none = λ w below. elim (cases_lt w l.low) [
        | inl lower ↦ l.invariant.none w lower
        | inr above ↦ sym (l.invariant.later w above) ∙ e.raised.2 w above below
      ];
      later = λ w up. e.later w up ∙ l.invariant.later w (omega (arith, from, up));
      first_work = reads_in_turn g.P.Postings.spent g.met.P.Postings.spent_on c.args.first.now l.first c.raise_all.new.first l.invariant.first_work c.raise_all.ensures.first_work;
      other_work = all_went_on (ReadsOnce g.P.Postings.spent) (reads_in_turn g.P.Postings.spent g.met.P.Postings.spent_on) c.args.others.now.items l.others.items c.raise_all.new.others.items l.invariant.other_work c.raise_all.ensures.other_work;
    }

pub returns-clause-phrase : goal.returns-clause-phrase
returns-clause-phrase g c =
    let l = c.loop-window in
    let none = subst (λ (found : Option _). IsRaised (are_in_window c.args.slop (l.first ∷ l.others.items)) l.low found) c.in_default.is c.raise_all.ensures.raised in
    sym
    (share_missed c.args.slop c.args.first.now c.args.others.now.items c.requires.first_unread c.requires.others_unread c.requires.leads (let small = c.ranges.slop.fits in omega (arith, small))
    (λ w. elim (cases_lt w l.low) [
      | inl lower ↦ l.invariant.none w lower
      | inr above ↦ sym (l.invariant.later w above) ∙ none w above
    ]))

pub returns-clause-first_work : goal.returns-clause-first_work
returns-clause-first_work g c = reads_in_turn g.P.Postings.spent g.met.P.Postings.spent_on c.args.first.now c.loop-window.first c.raise_all.new.first c.loop-window.invariant.first_work c.raise_all.ensures.first_work

pub returns-clause-other_work : goal.returns-clause-other_work
returns-clause-other_work g c = all_went_on (ReadsOnce g.P.Postings.spent) (reads_in_turn g.P.Postings.spent g.met.P.Postings.spent_on) c.args.others.now.items c.loop-window.others.items c.raise_all.new.others.items c.loop-window.invariant.other_work c.raise_all.ensures.other_work
