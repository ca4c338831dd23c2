use Rattle.std.proofs.Common.{◌∙◌, ap, map, arith, subst, sym}
use Rattle.std.specs.List.{range_with_len}
use Rattle.std.specs.List.Sorted.{IsPermutation}
use Rattle.std.specs.Prelude.{length, string_bytes}
use Rattle.std.proofs.lemmas.List.{length-map}
use Rattle.ii_json.specs.Paths.{texts_of}
use Rattle.ii_json.proofs.RankLemmas.{among_sorted, few_sorted, ranks_all, ranks_more, ranks_permute}
use Rattle.ii_json.proofs.path_to_unordered_id.PathToUnorderedId.unordered_id_to_ordered_id.Goals as goal

pub ordered_id_in-requires-clause-known : goal.ordered_id_in-requires-clause-known
ordered_id_in-requires-clause-known c =
    rw (c.deref.ensures.value, c.as_str.ensures.value)
    (among_sorted string_bytes c.as_slice-path-items.result.now c.args.self.now (texts_of c.in_ok-sorted.sorted.items) c.loop-path.path-index c.path-item.result (ap (map string_bytes) c.as_slice-path-items.ensures.keys ∙ c.self.view_is)
    c.in_ok-sorted.ensures.permutation c.loop-path-test.true c.path-item.is)

pub ordered_id_in-requires-clause-few : goal.ordered_id_in-requires-clause-few
ordered_id_in-requires-clause-few c =
    let few = few_sorted string_bytes c.self.inside.paths.keys c.args.self.now (texts_of c.in_ok-sorted.sorted.items) c.self.view_is c.in_ok-sorted.ensures.permutation c.self.invariant.0 in
    omega (arith, few, ap length c.deref.ensures.value, length-map c.in_ok-sorted.sorted.items (λ text. text.now))

pub loop-path-preserved : goal.loop-path-preserved
loop-path-preserved c =
    c.in_ok-push.ensures.items
    ∙ ranks_more string_bytes c.as_slice-path-items.result.now c.args.self.now (texts_of c.in_ok-sorted.sorted.items) c.in_ok-sorted.ensures.permutation c.loop-path.ids.items c.loop-path.path-index c.ordered_id_in.result c.path-item.result
    c.loop-path.invariant c.loop-path-test.true c.path-item.is (rw (← c.deref.ensures.value, ← c.as_str.ensures.value) c.ordered_id_in.ensures)

pub returns-clause-ranks : goal.returns-clause-ranks
returns-clause-ranks c =
    ranks_all string_bytes c.as_slice-path-items.result.now c.args.self.now c.loop-path.ids.items c.loop-path.path-index (ap (map string_bytes) c.as_slice-path-items.ensures.keys ∙ c.self.view_is) c.loop-path-test.false c.loop-path.invariant

pub returns-clause-permutation : goal.returns-clause-permutation
returns-clause-permutation c =
    subst (IsPermutation (range_with_len 0 (length c.args.self.now))) (sym (returns-clause-ranks c)) (ranks_permute c.args.self.now (texts_of c.in_ok-sorted.sorted.items) c.in_ok-sorted.ensures.permutation c.in_ok-sorted.ensures.ascending)
