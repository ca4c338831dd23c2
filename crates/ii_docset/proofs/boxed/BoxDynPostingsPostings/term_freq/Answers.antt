use Rattle.std.proofs.Common.{ap, subst, sym, refl, ◌∙◌, ◌⊎◌, ◌≤◌, length, IsTrue}
use Rattle.ii_docset.specs.Cursor.{IsCurrent, positions_at, term_freq_at}
use Rattle.ii_docset.proofs.BoxLemmas.{held}
use Rattle.ii_docset.proofs.boxed.BoxDynPostingsPostings.term_freq.Goals as goal

pub term_freq-requires : goal.term_freq-requires
term_freq-requires g c = λ κs. (refl, (λ within. (tt, (held within, subst (λ x. IsTrue ((g.dyn-1.0.entry x.0).1.DocSet.always_one x.1) ⊎ IsCurrent ((g.dyn-1.0.entry x.0).1.DocSet.rest x.1)) (sym c.deref_box-1.ensures.1) c.requires))))

pub returns-clause-freq : goal.returns-clause-freq
returns-clause-freq g c = c.term_freq.ensures.0 ∙ ap (λ x. term_freq_at ((g.dyn-1.0.entry x.0).1.DocSet.always_one x.1) ((g.dyn-1.0.entry x.0).1.DocSet.rest x.1)) c.deref_box-1.ensures.1

pub returns-clause-positions : goal.returns-clause-positions
returns-clause-positions g c = subst (λ x. length (positions_at ((g.dyn-1.0.entry x.0).1.DocSet.rest x.1)) ≤ c.term_freq.result) c.deref_box-1.ensures.1 c.term_freq.ensures.1
