use Rattle.std.proofs.Common.{ℕ, List, ◌++◌, sym, ap, ◌∙◌}
use Rattle.ii_io.specs.Vints.{vint_u32}
use Rattle.ii_io.proofs.VintLemmas.{fewest_groups-last}
use Rattle.ii_io.proofs.vint.write_u32_vint.Goals as goal

pub returns-then-value-lt128-clause-ok : goal.returns-then-value-lt128-clause-ok
unfolding vint_u32
returns-then-value-lt128-clause-ok c = c.in_ok-push.ensures.items ∙ ap (λ (bytes : List ℕ). c.args.output.now.items ++ bytes) (sym (fewest_groups-last 4 c.args.value c.if-value-lt128.true))
