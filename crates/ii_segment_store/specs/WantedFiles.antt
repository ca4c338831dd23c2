-- What an index in a folder holds if only some files of its segments are loaded: what it held if its list named no others.
use Rattle.std.specs.Prelude.{◌==◌, not, Bool, true, ◌&&◌, List, filter, map, Option, None, Some, Result, Ok, Err, if◌then◌else◌, ℕ}
use Rattle.ii_store.specs.declared.faults.IndexFault.{IndexFault}
use Rattle.ii_store.specs.declared.faults.IndexFault.TheVariants.{NoIndex}
use Rattle.ii_store.specs.declared.index_meta.FileMeta.{FileMeta}
use Rattle.ii_directory.specs.declared.name.Name.TheVariants.{Meta}
use Rattle.ii_directory.specs.declared.name.SegmentComponent.{SegmentComponent}
use Rattle.ii_directory.specs.declared.name.SegmentComponent.TheVariants.{BlockTables, Counts, Store}
use Rattle.ii_directory.specs.Directory.{Files}
use Rattle.ii_store.specs.Index.{◌>>=◌, index_of, version_in}
use Rattle.ii_store.specs.IndexMeta.{MetaState, SegmentState, meta_of}
use Rattle.ii_directory.specs.Names.{same_component}
use Rattle.ii_segment_store.specs.declared.wanted_files.WantedFiles.{WantedFiles}
use Rattle.ii_segment_store.specs.declared.wanted_files.WantedFiles.TheVariants.{All, WithoutCountsAndStore, WithoutStore}
use Rattle.ii_segment_store.specs.Contents.{IndexContents, list_contents, one_segment}

-- whether the file of a component is wanted
abbrev pub is_wanted : WantedFiles → SegmentComponent → Bool
is_wanted All component = true
is_wanted WithoutStore component = not (same_component component Store) && not (same_component component BlockTables)
is_wanted WithoutCountsAndStore component = not (same_component component Store) && not (same_component component BlockTables) && not (same_component component Counts)

-- a segment that lists the wanted files alone
abbrev pub wanted_segment : WantedFiles → SegmentState → SegmentState
wanted_segment wanted s = record s { files = filter (λ (f : FileMeta). is_wanted wanted f.component) s.files }

-- a list of segments, each of which lists the wanted files alone
abbrev pub wanted_list : WantedFiles → MetaState → MetaState
wanted_list wanted m = record m { segments = map (wanted_segment wanted) m.segments }

-- what the index of a `meta` file holds of the wanted files, of any version
unfoldable pub wanted_at : WantedFiles → List ℕ → Files → Result IndexContents IndexFault
wanted_at wanted meta files = do
  version ← version_in meta
  if version == 1 then (index_of files >>= λ i. Ok (one_segment i)) else (meta_of meta >>= λ m. list_contents (wanted_list wanted m) files)

-- the same, if there is a `meta` file
unfoldable pub wanted_in : WantedFiles → Option (List ℕ) → Files → Result IndexContents IndexFault
wanted_in wanted None files = Err NoIndex
wanted_in wanted (Some meta) files = wanted_at wanted meta files

-- what the index in the files of a folder holds of the wanted files, or the first fault of these
unfoldable pub wanted_contents : WantedFiles → Files → Result IndexContents IndexFault
wanted_contents wanted files = wanted_in wanted (files Meta) files
