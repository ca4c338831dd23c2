use Rattle.std.proofs.Common.{◌≡◌, take}
use Rattle.ii_tokenizers.specs.Analyzers.{fold_case}
use Rattle.ii_tokenizers.proofs.filters.fold_case.Given as goal

abbrev pub invariant-loop-index : goal.invariant-loop-index
invariant-loop-index l = l.folded ≡ fold_case (take l.index l.fn.tokens)
