use Rattle.std.proofs.Common.{◌≡◌, ◌++◌, length}
use Rattle.ii_base.specs.TextTokens.{to_come_of}
use Rattle.ii_tokenizers.specs.Analyzers.{english_words, remove_stop, stem}
use Rattle.ii_tokenizers.proofs.analyzer.english_words.Given as goal

abbrev pub invariant-loop-alloc : goal.invariant-loop-alloc
invariant-loop-alloc l = l.stems ++ stem (remove_stop l.fn.stop_words (to_come_of l.words)) ≡ english_words l.fn.stop_words l.fn.text

abbrev pub decreases-loop-alloc : goal.decreases-loop-alloc
decreases-loop-alloc l = length (to_come_of l.words)
