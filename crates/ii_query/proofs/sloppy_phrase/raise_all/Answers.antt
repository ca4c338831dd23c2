use Rattle.ii_query.specs.Phrase.{ReadsOnce}
use Rattle.ii_query.specs.SloppyPhrase.{are_in_window, is_in_window}
use Rattle.ii_query.specs.WorkLaws.{none_went, reads_nothing}
use Rattle.ii_query.proofs.WindowLemmas.{raised_both, raised_keeps, raised_left}
use Rattle.ii_query.proofs.sloppy_phrase.raise_all.Goals as goal

pub returns-in-None-clause-raised : goal.returns-in-None-clause-raised
returns-in-None-clause-raised g c = raised_left (λ w. is_in_window c.args.slop w c.args.first.now) (are_in_window c.args.slop c.args.others.now.items) c.args.low c.in-None.ensures.raised

pub returns-in-None-clause-other_work : goal.returns-in-None-clause-other_work
returns-in-None-clause-other_work g c = none_went (ReadsOnce g.P.Postings.spent) (λ t. reads_nothing g.P.Postings.spent t (g.met.P.Postings.spent_moving t.cursor t.cursor (g.met.P.DocSet.went_nowhere t.cursor))) c.args.others.now.items

pub returns-in-Some-clause-raised : goal.returns-in-Some-clause-raised
returns-in-Some-clause-raised g c =
    raised_both (λ w. is_in_window c.args.slop w c.args.first.now) (are_in_window c.args.slop c.args.others.now.items) c.args.low c.in-Some.window c.raise_window.result c.in-Some.ensures.raised c.raise_window.ensures.raised

pub returns-in-Some-clause-later : goal.returns-in-Some-clause-later
returns-in-Some-clause-later g c =
    raised_keeps (are_in_window c.args.slop c.args.others.now.items) (λ w. is_in_window c.args.slop w c.next_window.new.self) (are_in_window c.args.slop c.raise_window.new.terms.items) (λ w. is_in_window c.args.slop w c.args.first.now) (are_in_window c.args.slop c.args.others.now.items) c.args.low c.in-Some.window c.raise_window.result
    c.in-Some.ensures.raised.0 c.raise_window.ensures.raised c.next_window.ensures.later c.raise_window.ensures.later
