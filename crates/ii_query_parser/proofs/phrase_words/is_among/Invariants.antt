use Rattle.std.proofs.Common.{◌≡◌, drop}
use Rattle.ii_query_parser.specs.QueryTexts.{is_among}
use Rattle.ii_query_parser.proofs.phrase_words.is_among.Given as goal

-- the term is none of those before the index
abbrev pub invariant-loop-other : goal.invariant-loop-other
invariant-loop-other l = is_among l.term l.others ≡ is_among l.term (drop l.other-index l.others)
