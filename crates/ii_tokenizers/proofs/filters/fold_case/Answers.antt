use Rattle.std.proofs.Common.{◌∙◌, ap, take_all, arith}
use Rattle.ii_tokenizers.specs.Analyzers.{fold_case, folded}
use Rattle.ii_tokenizers.proofs.FilterLemmas.{changed_next, lowercase_folds}
use Rattle.ii_tokenizers.proofs.filters.fold_case.Goals as goal

pub returns-then-is_ascii-clause-ok : goal.returns-then-is_ascii-clause-ok
returns-then-is_ascii-clause-ok c = c.make_ascii_lowercase.ensures ∙ lowercase_folds c.args.tokens.now (c.is_ascii.ensures c.if-is_ascii.true)

pub loop-index-preserved : goal.loop-index-preserved
loop-index-preserved c = changed_next c.args.tokens.now c.loop-index.index _ c.get.ensures folded c.loop-index.folded c.push_folded.new.tokens c.loop-index.invariant c.in_ok-push_folded.ensures.ok

pub returns-clause-ok : goal.returns-clause-ok
returns-clause-ok c = c.loop-index.invariant ∙ ap fold_case (take_all c.loop-index.index c.args.tokens.now (omega (arith, c.loop-index-test.false, c.len-index-end.ensures)))
