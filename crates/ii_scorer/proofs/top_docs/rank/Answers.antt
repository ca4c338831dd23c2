use Rattle.std.proofs.Common.{arith, get_or, rules}
use Rattle.std.proofs.lemmas.List.Elements.{All-get_or}
use Rattle.std.proofs.lemmas.List.Sorted.{All-permutation, IsNonDecreasingBy-from_sort_by_key}
use Rattle.ii_scorer.specs.TopDocs.{Fits, rank_key}
use Rattle.ii_scorer.proofs.TopLemmas.{ranks}
use Rattle.ii_scorer.proofs.top_docs.rank.Goals as goal

pub returns : goal.returns
returns c =
    let ranked = c.sort_unstable_by_key.new.self.items in
    let up = IsNonDecreasingBy-from_sort_by_key rank_key _ c.sort_unstable_by_key.ensures.sorted (λ a r q k. search rules) in
    let all = All-permutation Fits _ ranked c.sort_unstable_by_key.ensures.permutation c.requires in
    record {
      same = c.sort_unstable_by_key.ensures.permutation;
      order = λ i j below inside.
          let first = All-get_or Fits ranked i (0, 0) (omega arith) all in
          let other = All-get_or Fits ranked j (0, 0) inside all in
          ranks (get_or ranked i (0, 0)) (get_or ranked j (0, 0)) first.score other.score first.doc other.doc (up i j (0, 0) below inside);
    }
