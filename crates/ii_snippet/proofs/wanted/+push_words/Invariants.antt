use Rattle.std.proofs.Common.{◌≡◌, ◌++◌, drop, flat_map, map}
use Rattle.ii_snippet.specs.Wanted.{query_wants, wanted_of}
use Rattle.ii_snippet.proofs.wanted.+push_words.Given as goal

abbrev pub invariant-push_all_words-loop-query : goal.invariant-push_all_words-loop-query
invariant-push_all_words-loop-query l = map wanted_of l.initial.words.items ++ flat_map query_wants l.queries.items ≡ map wanted_of l.words.items ++ flat_map query_wants (drop l.query-index l.queries.items)
