-- What an index holds once a segment is in the place of its last ones.
use Rattle.std.specs.Prelude.{ℕ, List, Result, Ok, drop, take}
use Rattle.ii_store.specs.declared.faults.IndexFault.{IndexFault}
use Rattle.ii_directory.specs.declared.name.Name.TheVariants.{Meta}
use Rattle.ii_directory.specs.Directory.{Files}
use Rattle.ii_store.specs.Index.{◌>>=◌}
use Rattle.ii_store.specs.IndexMeta.{MetaState}
use Rattle.ii_store.specs.Segments.{list_in}
use Rattle.ii_segment_store.specs.Contents.{IndexContents, SegmentContents, all_contents, list_contents}

-- a list with its first segments alone
abbrev pub first_listed : ℕ → MetaState → MetaState
first_listed first m = record m { segments = take first m.segments }

-- the list of an index of version 2 with its first segments alone
abbrev pub first_list : ℕ → Files → Result MetaState IndexFault
first_list first files = list_in (files Meta) >>= λ m. Ok (first_listed first m)

-- what the first segments of an index of version 2 hold, with its schema
abbrev pub first_contents : ℕ → Files → Result IndexContents IndexFault
first_contents first files = list_in (files Meta) >>= λ m. list_contents (first_listed first m) files

-- what the other segments of an index of version 2 hold, or the first fault
abbrev pub last_contents : ℕ → Files → Result (List SegmentContents) IndexFault
last_contents first files = list_in (files Meta) >>= λ m. all_contents (drop first m.segments) files
