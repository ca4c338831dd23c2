use Rattle.std.proofs.Common.{subst, sym, refl, ap, ◌∙◌, ◌≡◌, OnOk, map, ◌+◌, ◌<◌, ◌^◌, ◌++◌}
use Rattle.std.specs.List.{All}
use Rattle.ii_docset.specs.Cursor.{IsCurrent, positions_at}
use Rattle.ii_docset.proofs.BoxLemmas.{held}
use Rattle.ii_docset.proofs.boxed.BoxDynPostingsPostings.append_positions_with_offset.Goals as goal

pub append_positions_with_offset-requires : goal.append_positions_with_offset-requires
append_positions_with_offset-requires g c = λ κs. (refl, (λ within. (tt, (held within, (subst (λ x. IsCurrent ((g.dyn-1.0.entry x.0).1.DocSet.rest x.1)) (sym c.deref_box_mut-1.ensures.value.1) c.requires.current, subst (λ x. All (λ p. p + c.args.offset < 2 ^ 32) (positions_at ((g.dyn-1.0.entry x.0).1.DocSet.rest x.1))) (sym c.deref_box_mut-1.ensures.value.1) c.requires.fits)))))

pub returns-clause-ok : goal.returns-clause-ok
returns-clause-ok g c = subst (λ x. OnOk c.append_positions_with_offset.result (c.append_positions_with_offset.new.output.items ≡ c.args.output.now.items ++ map (λ p. p + c.args.offset) (positions_at ((g.dyn-1.0.entry x.0).1.DocSet.rest x.1)))) c.deref_box_mut-1.ensures.value.1 c.append_positions_with_offset.ensures.0

pub returns-clause-rest : goal.returns-clause-rest
returns-clause-rest g c = c.append_positions_with_offset.ensures.1.1.1.0 ∙ ap (λ x. (g.dyn-1.0.entry x.0).1.DocSet.rest x.1) c.deref_box_mut-1.ensures.value.1

pub returns-clause-kind : goal.returns-clause-kind
returns-clause-kind g c = c.append_positions_with_offset.ensures.1.1.1.1.0 ∙ ap (λ x. (g.dyn-1.0.entry x.0).1.DocSet.always_one x.1) c.deref_box_mut-1.ensures.value.1
