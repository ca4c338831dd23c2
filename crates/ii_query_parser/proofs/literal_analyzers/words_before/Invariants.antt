use Rattle.std.proofs.Common.{◌≡◌, ◌++◌, filter, length, nat_lt}
use Rattle.ii_base.specs.TextTokens.{to_come_of}
use Rattle.ii_base.specs.Words.{Word}
use Rattle.ii_query_parser.proofs.literal_analyzers.words_before.Given as goal

-- the tokens before the position come before those that are left
abbrev pub invariant-loop-stream : goal.invariant-loop-stream
invariant-loop-stream g l = l.tokens ++ filter (λ (w : Word). nat_lt w.position l.position) (to_come_of l.stream) ≡ filter (λ (w : Word). nat_lt w.position l.position) (g.A.TextAnalyzer.words l.analyzer l.text)

abbrev pub decreases-loop-stream : goal.decreases-loop-stream
decreases-loop-stream g l = length (to_come_of l.stream)
