-- What collecting the documents of a range adds to a set.
use Rattle.std.specs.Prelude.{◌≡◌, ℕ, Bool, true, false, ◌||◌, List, Result, Ok}
use Rattle.ii_io.specs.declared.faults.Part.{Part}
use Rattle.ii_base.specs.Entries.{Entry}
use Rattle.ii_docset.specs.Cursor.{IsSound}
use Rattle.ii_docset.specs.Intersection.{has_doc}
use Rattle.ii_query.specs.BitSet.{is_in}

-- A set got the documents of a list.
pub record AddsList (found : Result (List Entry) Part) (old new : List ℕ) : Type 0 where
  pub es : List Entry
  pub is : found ≡ Ok es
  pub sound : IsSound es
  pub added : (d : ℕ) → is_in new d ≡ (has_doc es d || is_in old d)

-- A set got the documents of a key's list, or is unchanged if the key isn't in the range.
abbrev pub AddsIfInRange : Result (List Entry) Part → Bool → List ℕ → List ℕ → Type 0
AddsIfInRange found true old new = AddsList found old new
AddsIfInRange found false old new = new ≡ old
