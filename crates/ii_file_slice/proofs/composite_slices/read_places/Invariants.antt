use Rattle.std.proofs.Common.{◌≡◌, ℕ, ◌-◌, true}
use Rattle.std.specs.List.{list_all}
use Rattle.std.specs.Ordering.{nat_cmp}
use Rattle.std.specs.BTreeSet.{contains}
use Rattle.ii_io.specs.Composite.{valid_places, lies_within, are_distinct, has_place}
use Rattle.ii_io.proofs.CompositeReadLemmas.{left}
use Rattle.ii_file_slice.proofs.composite_slices.read_places.Given as goal

abbrev pub invariant-loop-i : goal.invariant-loop-i
invariant-loop-i l = record {
  left_over : valid_places l.size l.count l.table ≡ left l.size l.places.items (l.count - l._i) l.rest;
  within : list_all (lies_within l.size) l.places.items ≡ true;
  distinct : are_distinct l.places.items ≡ true;
  seen : (q : ℕ) → contains nat_cmp l.fields q ≡ has_place q l.places.items;
}
