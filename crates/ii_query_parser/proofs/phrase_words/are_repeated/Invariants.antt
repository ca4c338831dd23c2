use Rattle.std.proofs.Common.{◌≡◌, length}
use Rattle.ii_query_parser.specs.QueryTexts.{are_repeated}
use Rattle.ii_query_parser.proofs.phrase_words.are_repeated.Given as goal

-- no term before the rest is one of those after it
abbrev pub invariant-loop-other : goal.invariant-loop-other
invariant-loop-other l = are_repeated l.others ≡ are_repeated l.rest

abbrev pub decreases-loop-other : goal.decreases-loop-other
decreases-loop-other l = length l.rest
