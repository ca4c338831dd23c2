-- A query of which no part says more of all documents than an index has.
use Rattle.std.specs.Prelude.{ℕ, min}
use Rattle.ii_query_parser.specs.Queries.{QueryTree, QueryTrees, all_below, any_of, each_of, no_tree, nothing, one_phrase, one_phrase_prefix, one_range, one_term, tree, without}

-- A query whose parts for all documents below a number are for those below n at most.
abbrev mutual
  pub bounded : ℕ → QueryTree → QueryTree
  bounded n nothing = nothing
  bounded n (all_below m) = all_below (min m n)
  bounded n (one_term term) = one_term term
  bounded n (one_phrase first others slop) = one_phrase first others slop
  bounded n (one_phrase_prefix phrase) = one_phrase_prefix phrase
  bounded n (one_range range) = one_range range
  bounded n (each_of qs) = each_of (each_bounded n qs)
  bounded n (any_of qs) = any_of (each_bounded n qs)
  bounded n (without first other) = without (bounded n first) (bounded n other)

  pub each_bounded : ℕ → QueryTrees → QueryTrees
  each_bounded n no_tree = no_tree
  each_bounded n (tree q qs) = tree (bounded n q) (each_bounded n qs)
