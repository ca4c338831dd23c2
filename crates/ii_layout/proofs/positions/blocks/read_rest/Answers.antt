use Rattle.std.proofs.Common.{length, nat_lt, refl, sym, ap}
use Rattle.ii_layout.proofs.PositionLemmas.{rest_cases}
use Rattle.ii_layout.proofs.positions.blocks.read_rest.Goals as goal

pub returns-in-Ok-clause-rest : goal.returns-in-Ok-clause-rest
returns-in-Ok-clause-rest c =
    let row = c.output_array.ensures.values in
    rest_cases c.args.bytes.now _ (length c.output_array.result.now) (nat_lt (length c.output_array.result.now) 128) c.in-Ok.ensures.read (sym (ap length row)) refl
