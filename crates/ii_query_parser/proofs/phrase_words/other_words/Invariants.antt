use Rattle.std.proofs.Common.{length}
use Rattle.ii_query_parser.proofs.WordsLemmas.{IsTaking}
use Rattle.ii_query_parser.proofs.phrase_words.other_words.Given as goal

abbrev pub invariant-loop-alloc : goal.invariant-loop-alloc
invariant-loop-alloc g l = IsTaking l.prefix l.first (g.S.TokenStream.to_come l.fn.tokens) (g.S.TokenStream.to_come l.tokens) l.others.items

abbrev pub decreases-loop-alloc : goal.decreases-loop-alloc
decreases-loop-alloc g l = length (g.S.TokenStream.to_come l.tokens)
