use Rattle.std.proofs.Common.{◌∙◌, map, ap, subst, rules}
use Rattle.std.specs.Prelude.{bytes_eq}
use Rattle.std.specs.List.{AllByRecursion, IsDistinct}
use Rattle.std.specs.List.Sorted.{IsPermutation}
use Rattle.std.specs.Map.{keys_of}
use Rattle.std.specs.Ordering.{is_lt}
use Rattle.std.proofs.lemmas.Fn.{always_returns_same}
use Rattle.std.proofs.lemmas.List.Sorted.{IsPermutation-map}
use Rattle.ii_recorder.specs.AnyRecorder.{any_state}
use Rattle.ii_postings_writer.specs.IndexingContext.{TermIndex}
use Rattle.ii_postings_writer.specs.IndexingTerm.{AreTermBytes}
use Rattle.ii_postings_writer.specs.ResolvedTerms.{held_cmp}
use Rattle.ii_postings_writer.specs.SortedTerms.{kept_state}
use Rattle.ii_json.proofs.KeyOrder.{sorted_alike}
use Rattle.ii_postings_writer.specs.declared.sorted_terms.KeptTerm.{KeptTerm}
use Rattle.ii_postings_writer.specs.SortKeys.{IsKept, kept_cmp}
use Rattle.ii_postings_writer.proofs.ResolvedOrder.{are_sorted, held_moved, seen_distinct}
use Rattle.ii_postings_writer.proofs.SortKeyLemmas.{kept_as_held, kept_moved, kept_order}
use Rattle.ii_postings_writer.proofs.SortedLemmas.{each_key}
use Rattle.ii_postings_writer.proofs.postings_writer.TermRecorders.sorted.Goals as goal

pub returns-clause-moved : goal.returns-clause-moved
returns-clause-moved c =
    subst (λ (ts : TermIndex). IsPermutation ts (map kept_state c.sort_unstable_by.new.self.items)) (c.in_ok-terms.ensures.ok ∙ c.self.view_is)
    (IsPermutation-map kept_state c.in_ok-terms.terms.items c.sort_unstable_by.new.self.items c.sort_unstable_by.ensures.permutation)

pub returns-clause-sorted : goal.returns-clause-sorted
returns-clause-sorted c paths unlike clean ranks ids =
    let old = c.args.self.now in
    let terms = c.sort_unstable_by.new.self.items in
    let flags = c.args.flags.now in
    let entries = c.self.inside.recorders.entries in
    let distinct : IsDistinct bytes_eq (keys_of old) = subst (λ (ts : TermIndex). IsDistinct bytes_eq (keys_of ts)) c.self.view_is (seen_distinct entries c.lent_terms.ensures.distinct) in
    let are : AllByRecursion AreTermBytes (keys_of old) = subst (λ (ts : TermIndex). AllByRecursion AreTermBytes (keys_of ts)) c.self.view_is (each_key any_state entries c.self.invariant) in
    let held = held_moved flags paths old (map kept_state terms) (returns-clause-moved c) distinct are ids in
    let kept = kept_moved (IsKept flags c.args.ranks.now) c.in_ok-terms.terms.items terms c.sort_unstable_by.ensures.permutation c.in_ok-terms.ensures.kept in
    let by_numbers = c.sort_unstable_by.ensures.sorted (λ e f. is_lt (kept_cmp flags e f)) (kept_order flags) (always_returns_same _ _ _ (λ a r next called. (ap is_lt (search rules), search rules))) in
    let sorted = sorted_alike (IsKept flags c.args.ranks.now) (kept_cmp flags) (λ (e f : KeptTerm). held_cmp flags c.args.ranks.now e.term.now f.term.now) (kept_as_held flags c.args.ranks.now) terms kept by_numbers in
    are_sorted kept_state flags paths unlike clean terms held.0 held.1 (rw (← ranks) sorted)
