use Rattle.std.proofs.Common.{◌≡◌, ◌==◌, filter, take}
use Rattle.std.specs.Option.{option_copied, option_to_list}
use Rattle.ii_definitions.specs.IndexCalls.{field_of}
use Rattle.ii_definitions.specs.declared.index_call.IndexCall.{IndexCall}
use Rattle.nequllpa_indexing.proofs.line_keys.only_call.Given as goal

-- of the calls so far, the found one is the only one in the field
abbrev pub invariant-loop-call : goal.invariant-loop-call
invariant-loop-call l = filter (λ (c : IndexCall). field_of c == l.field) (take l.call-index l.calls) ≡ option_to_list (option_copied l.found)
