use Rattle.std.proofs.Common.{subst, sym, refl, ap, ◌∙◌, ◌≡◌, ◌++◌, ◌-◌, ◌<◌, ◌^◌, drop, length, take}
use Rattle.std.specs.Prelude.{min}
use Rattle.ii_docset.specs.Cursor.{IsCurrent, position_before, positions_at}
use Rattle.ii_docset.proofs.BoxLemmas.{held}
use Rattle.ii_docset.proofs.boxed.BoxDynPostingsPostings.read_positions.Goals as goal

pub read_positions-requires : goal.read_positions-requires
read_positions-requires g c = λ κs. (refl, (λ within. (tt, (held within, (subst (λ x. IsCurrent ((g.dyn-1.0.entry x.0).1.DocSet.rest x.1)) (sym c.deref_box_mut-1.ensures.value.1) c.requires.current, subst (λ x. c.args.before ≡ position_before c.args.from (positions_at ((g.dyn-1.0.entry x.0).1.DocSet.rest x.1))) (sym c.deref_box_mut-1.ensures.value.1) c.requires.before)))))

pub returns-clause-count : goal.returns-clause-count
returns-clause-count g c = subst (λ x. c.read_positions.result ≡ min (length c.args.output.now) (length (positions_at ((g.dyn-1.0.entry x.0).1.DocSet.rest x.1)) - c.args.from)) c.deref_box_mut-1.ensures.value.1 c.read_positions.ensures.0

pub returns-clause-read : goal.returns-clause-read
returns-clause-read g c = subst (λ x. c.read_positions.new.output ≡ take (length c.args.output.now) (drop c.args.from (positions_at ((g.dyn-1.0.entry x.0).1.DocSet.rest x.1))) ++ drop (length (positions_at ((g.dyn-1.0.entry x.0).1.DocSet.rest x.1)) - c.args.from) c.args.output.now) c.deref_box_mut-1.ensures.value.1 c.read_positions.ensures.1.0

pub returns-clause-rest : goal.returns-clause-rest
returns-clause-rest g c = c.read_positions.ensures.1.1.1.0 ∙ ap (λ x. (g.dyn-1.0.entry x.0).1.DocSet.rest x.1) c.deref_box_mut-1.ensures.value.1

pub returns-clause-kind : goal.returns-clause-kind
returns-clause-kind g c = c.read_positions.ensures.1.1.1.1.0 ∙ ap (λ x. (g.dyn-1.0.entry x.0).1.DocSet.always_one x.1) c.deref_box_mut-1.ensures.value.1

pub returns-clause-few : goal.returns-clause-few
returns-clause-few g c = subst (λ x. length (positions_at ((g.dyn-1.0.entry x.0).1.DocSet.rest x.1)) < 2 ^ 32) c.deref_box_mut-1.ensures.value.1 c.read_positions.ensures.1.1.0
