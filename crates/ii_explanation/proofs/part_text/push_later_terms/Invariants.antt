use Rattle.std.proofs.Common.{◌≡◌, ◌++◌, drop}
use Rattle.std.specs.String.{string_bytes}
use Rattle.ii_explanation.specs.PartTexts.{last_distance, later_terms}
use Rattle.ii_explanation.proofs.part_text.push_later_terms.Given as goal

abbrev pub invariant-loop-other : goal.invariant-loop-other
invariant-loop-other l = record {
  pushed : string_bytes l.text ++ later_terms l.value_type l.last (drop l.other-index l.others) ≡ string_bytes l.fn.text ++ later_terms l.value_type 0 l.others;
  last : last_distance l.last (drop l.other-index l.others) ≡ last_distance 0 l.others;
}
