use Rattle.std.proofs.Common.{ap}
use Rattle.std.specs.Prelude.{codes}
use Rattle.ii_foundation_tests.proofs.value_tests.converted.Goals as goal

pub convert_to_fast_value_and_append_to_json_term-requires : goal.convert_to_fast_value_and_append_to_json_term-requires
convert_to_fast_value_and_append_to_json_term-requires c = record { path = codes "color"; is = ap (λ t. t.value) c.in_ok-term.ensures.ok }
