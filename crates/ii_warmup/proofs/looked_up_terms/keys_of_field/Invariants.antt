use Rattle.std.proofs.Common.{◌≡◌, ◌==◌, ◌&&◌, ◌||◌, List, bytes_eq, drop, map, true, ℕ}
use Rattle.std.specs.List.{list_any}
use Rattle.std.specs.List.Sorted.{IsStrictlySortedBy}
use Rattle.ii_warmup.specs.LookedUp.{key_items}
use Rattle.ii_warmup.specs.QueryTerms.{QueryTermState, term_view}
use Rattle.ii_warmup.proofs.KeyLemmas.{by_items}
use Rattle.ii_warmup.proofs.looked_up_terms.keys_of_field.Given as goal

abbrev pub invariant-loop-term : goal.invariant-loop-term
invariant-loop-term l = record {
  sorted : IsStrictlySortedBy by_items l.keys.keys;
  has : (key : List ℕ) → list_any (λ (t : QueryTermState). (t.term.field == l.field) && bytes_eq t.term.value key) (map term_view l.terms) ≡ true
      → (list_any (bytes_eq key) (key_items l.keys.keys) || list_any (λ (t : QueryTermState). (t.term.field == l.field) && bytes_eq t.term.value key) (map term_view (drop l.term-index l.terms))) ≡ true;
}
