use Rattle.std.proofs.Common.{◌≡◌, ◌++◌, length}
use Rattle.ii_base.specs.TextTokens.{to_come_of}
use Rattle.ii_query_parser.proofs.literal_analyzers.all_words.Given as goal

-- the tokens so far come before those that are left
abbrev pub invariant-loop-tokens : goal.invariant-loop-tokens
invariant-loop-tokens g l = l.tokens ++ to_come_of l.stream ≡ g.A.TextAnalyzer.words l.analyzer l.text

abbrev pub decreases-loop-tokens : goal.decreases-loop-tokens
decreases-loop-tokens g l = length (to_come_of l.stream)
