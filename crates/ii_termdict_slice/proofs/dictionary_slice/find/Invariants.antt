use Rattle.std.proofs.Common.{◌≡◌, ℕ, ◌-◌, ◌<◌, ◌≤◌, List, Some}
use Rattle.std.specs.Ordering.{nat_cmp}
use Rattle.std.specs.Cmp.Lexicographic.{slice_cmp}
use Rattle.std.specs.declared.cmp.Ordering.TheVariants.{Less, Greater}
use Rattle.ii_termdict.specs.Dictionary.{key_of}
use Rattle.ii_termdict_slice.specs.Slices.{HasParts, ends_in, from_keys}
use Rattle.ii_termdict_slice.proofs.dictionary_slice.find.Given as goal

abbrev pub invariant-loop-low : goal.invariant-loop-low
invariant-loop-low g l = record {
  order : l.low ≤ l.high;
  within : l.high ≤ l.num_terms;
  same : l.file ≡ l.initial.file;
  below : (bs : List ℕ) → g.H.FileHandle.bytes l.file ≡ Some bs → HasParts l.num_terms bs → (j : ℕ) → j < l.low → slice_cmp nat_cmp l.key (key_of (ends_in bs) (from_keys l.num_terms bs) j) ≡ Greater;
  above : (bs : List ℕ) → g.H.FileHandle.bytes l.file ≡ Some bs → HasParts l.num_terms bs → (j : ℕ) → l.high ≤ j → j < l.num_terms → slice_cmp nat_cmp l.key (key_of (ends_in bs) (from_keys l.num_terms bs) j) ≡ Less;
}

abbrev pub decreases-loop-low : goal.decreases-loop-low
decreases-loop-low g l = l.high - l.low
