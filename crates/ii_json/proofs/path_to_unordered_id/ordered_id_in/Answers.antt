use Rattle.std.proofs.Common.{Bor, List, ℕ, arith, length, rules, ◌≤◌, ◌∙◌}
use Rattle.std.proofs.lemmas.List.{length-map}
use Rattle.std.proofs.lemmas.List.Sorted.{IsPartitionPoint-from_clause}
use Rattle.ii_json.specs.PathRank.{is_smaller}
use Rattle.ii_json.specs.Paths.{texts_of}
use Rattle.ii_json.proofs.RankLemmas.{parted_by, rank_at_point, rank_fits}
use Rattle.ii_json.proofs.path_to_unordered_id.ordered_id_in.Goals as goal

pub overflow_cast-place : goal.overflow_cast-place
overflow_cast-place c =
    let parted = IsPartitionPoint-from_clause (λ (text : Bor (List ℕ)). is_smaller text.now c.args.path.now) c.args.sorted.now c.partition_point-place.result c.partition_point-place.ensures.partitioned
    (parted_by (λ (text : Bor (List ℕ)). text.now) c.args.path.now c.args.sorted.now c.requires.ascending) (λ a r f k. search rules) in
    let is = rank_at_point (λ (text : Bor (List ℕ)). text.now) c.args.path.now c.args.sorted.now c.partition_point-place.result c.partition_point-place.ensures.bound parted in
    let few : length (texts_of c.args.sorted.now) ≤ 4294967296 = omega (arith, length-map c.args.sorted.now (λ (text : Bor (List ℕ)). text.now), c.requires.few) in
    let small = rank_fits (texts_of c.args.sorted.now) c.args.path.now c.partition_point-place.result c.requires.ascending c.requires.known few is in
    omega (arith, small)

pub returns : goal.returns
returns c =
    let parted = IsPartitionPoint-from_clause (λ (text : Bor (List ℕ)). is_smaller text.now c.args.path.now) c.args.sorted.now c.partition_point-place.result c.partition_point-place.ensures.partitioned
    (parted_by (λ (text : Bor (List ℕ)). text.now) c.args.path.now c.args.sorted.now c.requires.ascending) (λ a r f k. search rules) in
    c.from_ordered_id.ensures ∙ rank_at_point (λ (text : Bor (List ℕ)). text.now) c.args.path.now c.args.sorted.now c.partition_point-place.result c.partition_point-place.ensures.bound parted
