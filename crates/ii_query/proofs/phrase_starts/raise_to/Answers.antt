use Rattle.std.proofs.Common.{◌∙◌, refl, sym, arith, inl, inr}
use Rattle.std.proofs.lemmas.Bool.{cases_lt}
use Rattle.ii_query.specs.Phrase.{ReadsOnce}
use Rattle.ii_query.specs.WorkLaws.{all_went_on, none_went, reads_in_turn, reads_nothing}
use Rattle.ii_query.proofs.phrase_starts.raise_to.Goals as goal

pub loop-window-init : goal.loop-window-init
loop-window-init g c = record {
  same = refl;
  from = omega arith;
  up_to = c.requires.low_up_to;
  none = λ w from below. absurd (omega (arith, from, below));
  later = λ w up. refl;
  work = none_went (ReadsOnce g.P.Postings.spent) (λ t. reads_nothing g.P.Postings.spent t (g.met.P.Postings.spent_moving t.cursor t.cursor (g.met.P.DocSet.went_nowhere t.cursor))) c.args.others.now.items;
}

pub returns-in_default-clause-work : goal.returns-in_default-clause-work
returns-in_default-clause-work g c = all_went_on (ReadsOnce g.P.Postings.spent) (reads_in_turn g.P.Postings.spent g.met.P.Postings.spent_on) c.args.others.now.items c.loop-window.others.items c.raise_window.new.terms.items c.loop-window.invariant.work c.raise_window.ensures.work

pub returns-then-next-window-clause-work : goal.returns-then-next-window-clause-work
returns-then-next-window-clause-work g c = all_went_on (ReadsOnce g.P.Postings.spent) (reads_in_turn g.P.Postings.spent g.met.P.Postings.spent_on) c.args.others.now.items c.loop-window.others.items c.raise_window.new.terms.items c.loop-window.invariant.work c.raise_window.ensures.work

pub loop-window-preserved : goal.loop-window-preserved
loop-window-preserved g c =
    let l = c.loop-window in
    let e = c.in-Some.ensures in
    let from = e.raised.0 in
    let low = l.invariant.from in
    record {
      same = c.raise_window.ensures.same ∙ l.invariant.same;
      from = omega (arith, low, from);
      up_to = e.up_to;
      none = λ w above below. elim (cases_lt w l.window) [
        | inl lower ↦ l.invariant.none w above lower
        | inr higher ↦ sym (l.invariant.later w higher) ∙ e.raised.2 w higher below
      ];
      later = λ w up. e.later w up ∙ l.invariant.later w (omega (arith, from, up));
      work = all_went_on (ReadsOnce g.P.Postings.spent) (reads_in_turn g.P.Postings.spent g.met.P.Postings.spent_on) c.args.others.now.items l.others.items c.raise_window.new.terms.items l.invariant.work c.raise_window.ensures.work;
    }
