use Rattle.std.proofs.Common.{rules}
use Rattle.std.specs.List.{AllByRecursion}
use Rattle.ii_search.specs.Decodes.{EachDecodesFew}
use Rattle.ii_search.proofs.DecodesLemmas.{few_beside}
use Rattle.ii_search.proofs.searching.without_of.Goals as goal

pub returns-clause-lazy : goal.returns-clause-lazy
returns-clause-lazy c = λ first other.
    let few : AllByRecursion EachDecodesFew c.into_inner.result.cursors = search (rules, first) in
    let also : AllByRecursion EachDecodesFew c.into_inner-2.result.cursors = search (rules, other) in
    few_beside c.into_inner.result.cursors c.into_inner-2.result.cursors c.without.result few also c.without.ensures.work
