use Rattle.std.proofs.Common.{◌≡◌, ◌++◌, length}
use Rattle.ii_base.specs.Words.{words_of}
use Rattle.ii_base.proofs.tokenizer.token_list.TokenList.from_stream.Given as goal

abbrev pub invariant-loop-alloc : goal.invariant-loop-alloc
invariant-loop-alloc g l = words_of l.tokens.items ++ g.S.TokenStream.to_come l.stream ≡ g.S.TokenStream.to_come l.fn.stream

abbrev pub decreases-loop-alloc : goal.decreases-loop-alloc
decreases-loop-alloc g l = length (g.S.TokenStream.to_come l.stream)
