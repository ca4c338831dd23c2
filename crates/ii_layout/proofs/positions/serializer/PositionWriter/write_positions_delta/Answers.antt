use Rattle.std.proofs.Common.{ℕ, List, ◌++◌, take_all, sym, ap, ◌∙◌}
use Rattle.std.proofs.lemmas.List.{append-nil}
use Rattle.std.proofs.lemmas.Result.{err_from_is_err_and}
use Rattle.ii_layout.proofs.PositionPacking.{filled_more}
use Rattle.ii_layout.proofs.positions.serializer.PositionWriter.write_positions_delta.Goals as goal

pub loop-done-init : goal.loop-done-init
loop-done-init c = (c.self.invariant, c.self.view_is ∙ sym (append-nil c.args.self.now))

pub loop-done-preserved : goal.loop-done-preserved
loop-done-preserved c = (
  c.push_full.ensures.few,
  filled_more c.loop-done.self-inside.packed c.loop-done.self-inside.block c.args.positions_delta.now c.push_full.new.self c.push_full.new.block c.fill-done.new.self c.args.self.now c.loop-done.done c.fill-done.result
      c.loop-done.invariant.1 c.fill-done.ensures.filled c.in_ok-push_full.ensures.ok,
)

pub returns-clause-ok : goal.returns-clause-ok
returns-clause-ok c = c.loop-done.invariant.1 ∙ ap (λ (ds : List ℕ). c.args.self.now ++ ds) (take_all c.loop-done.done c.args.positions_delta.now c.loop-done-test.false)

pub returns-in_err-push_full-clause-err : goal.returns-in_err-push_full-clause-err
returns-in_err-push_full-clause-err c =
    let p = err_from_is_err_and c.from_residual.result c.from_residual.ensures.1 in
    rw (p.1) c.in_err-push_full.ensures.err
