use Rattle.std.proofs.Common.{rules}
use Rattle.std.proofs.lemmas.List.Sorted.{IsPermutation-cons, IsPermutation-trans}
use Rattle.std.proofs.lemmas.Option.{MatchOption-at_some}
use Rattle.ii_scorer.proofs.top_n_computer.replace_worst.Goals as goal

pub returns-clause-items : goal.returns-clause-items
returns-clause-items c =
    let worst = c.unwrap-worst.result in
    let rest = MatchOption-at_some _ _ worst c.unwrap-worst.ensures c.peek_mut.ensures.rest in
    let replaced = IsPermutation-trans _ _ _ (IsPermutation-cons c.args.document _ _ rest) (c.drop-worst.ensures.permutation (search rules)) in
    search rules
