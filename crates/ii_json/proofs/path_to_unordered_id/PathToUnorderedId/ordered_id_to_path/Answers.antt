use Rattle.std.proofs.Common.{Bor, List, ℕ}
use Rattle.ii_json.proofs.RankLemmas.{sorted_ascends, sorted_permutes, stand_at_ranks}
use Rattle.ii_json.proofs.path_to_unordered_id.PathToUnorderedId.ordered_id_to_path.Goals as goal

pub returns-clause-ascending : goal.returns-clause-ascending
returns-clause-ascending c =
    sorted_ascends (λ (text : Bor (List ℕ)). text.now) c.args.self.now c.in_ok-paths.paths.items c.sort_unstable.new.self.items c.in_ok-paths.ensures.ok c.known_paths.ensures.distinct c.sort_unstable.ensures.permutation c.sort_unstable.ensures.sorted

pub returns-clause-permutation : goal.returns-clause-permutation
returns-clause-permutation c = sorted_permutes (λ (text : Bor (List ℕ)). text.now) c.args.self.now c.in_ok-paths.paths.items c.sort_unstable.new.self.items c.in_ok-paths.ensures.ok c.sort_unstable.ensures.permutation

pub returns-clause-places : goal.returns-clause-places
returns-clause-places c = stand_at_ranks _ _ (returns-clause-permutation c) (returns-clause-ascending c)
