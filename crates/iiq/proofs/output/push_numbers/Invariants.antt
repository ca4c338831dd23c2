use Rattle.std.proofs.Common.{◌≡◌, ◌++◌, drop}
use Rattle.std.specs.String.{string_bytes}
use Rattle.iiq.specs.Output.{positions_text}
use Rattle.iiq.proofs.OutputLemmas.{more_numbers}
use Rattle.iiq.proofs.output.push_numbers.Given as goal

abbrev pub invariant-loop-number : goal.invariant-loop-number
invariant-loop-number l = record {
  written : string_bytes l.text ++ more_numbers (drop l.number-index l.others) ≡ string_bytes l.fn.text ++ positions_text l.numbers;
}
