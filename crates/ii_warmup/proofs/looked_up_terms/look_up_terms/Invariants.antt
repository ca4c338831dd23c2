use Rattle.std.proofs.Common.{◌≡◌, ◌++◌, List, Ok, Some, length, map, ℕ}
use Rattle.std.specs.List.{filter_map}
use Rattle.ii_termdict.specs.Dictionary.{TermEntry, dictionary}
use Rattle.ii_termdict.specs.ReadBack.{AreAscending}
use Rattle.ii_file_slice.specs.FileSlice.{slice_if}
use Rattle.ii_warmup.specs.LookedUp.{key_items, wanted_under}
use Rattle.ii_warmup.specs.QueryTerms.{requests_of}
use Rattle.ii_warmup.specs.Warmup.{wanted_entries, wanted_keys, wanted_view}
use Rattle.ii_warmup.proofs.looked_up_terms.look_up_terms.Given as goal

abbrev pub invariant-loop-key : goal.invariant-loop-key
invariant-loop-key g l = record {
  same : l.slice ≡ l.body;
  sorted : AreAscending (wanted_keys l.wanted.items ++ key_items l.keys.keys);
  looked_up : (bs : List ℕ) (entries : List TermEntry) → slice_if l.body.start l.body.len (g.H.FileHandle.bytes l.body.file.now) ≡ Some bs → dictionary bs ≡ Ok entries
      → map wanted_view l.wanted.items ++ filter_map (wanted_under (requests_of l.terms l.ranges l.field) entries) (key_items l.keys.keys) ≡ wanted_entries (requests_of l.terms l.ranges l.field) entries;
}

abbrev pub decreases-loop-key : goal.decreases-loop-key
decreases-loop-key g l = length l.keys.keys
