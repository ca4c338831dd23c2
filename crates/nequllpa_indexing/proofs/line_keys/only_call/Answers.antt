use Rattle.std.proofs.Common.{◌==◌, rules}
use Rattle.std.specs.Option.{option_copied}
use Rattle.ii_definitions.specs.IndexCalls.{field_of}
use Rattle.ii_definitions.specs.declared.index_call.IndexCall.{IndexCall}
use Rattle.nequllpa_indexing.proofs.KeyLemmas.{two_found}
use Rattle.nequllpa_indexing.proofs.line_keys.only_call.Goals as goal

pub returns-then-is_some : goal.returns-then-is_some
returns-then-is_some c =
    two_found (λ (i : IndexCall). field_of i == c.args.field) c.args.calls.now c.loop-call.call-index c.call-item.result c.call-item.result (option_copied c.loop-call.found) (search rules) (search rules) (search rules) (search rules) c.loop-call.invariant
