-- What segments and lists hold, computed on examples.
use Rattle.std.proofs.Common.{◌≡◌, ℕ, List, [], ◌∷◌, Option, None, Some, Ok, Err, refl}
use Rattle.std.specs.Prelude.{Bool, Result, map, replicate, true, false}
use Rattle.ii_store.specs.declared.faults.IndexFault.{IndexFault}
use Rattle.ii_store.specs.declared.faults.IndexFault.TheVariants.{DeletedDocuments, MissingFile, NoIndex}
use Rattle.ii_store.specs.declared.file_digest.FileDigest.TheVariants.{Blocks}
use Rattle.ii_store.specs.declared.index_meta.FileMeta.{FileMeta}
use Rattle.ii_directory.specs.declared.name.SegmentComponent.{SegmentComponent}
use Rattle.ii_directory.specs.declared.name.SegmentComponent.TheVariants.{Alive, BlockTables, Counts, FieldNorms, Positions, Postings, Store, Terms}
use Rattle.ii_directory.specs.Directory.{Files}
use Rattle.ii_store.specs.IndexMeta.{MetaState, SegmentState}
use Rattle.ii_segment_store.specs.Changes.{files_with_flags, first_uncounted, latest_file, segments_without, without}
use Rattle.ii_segment_store.specs.Commits.{emptied, listed_segment, next_list}
use Rattle.ii_store.specs.Segments.{listed_bytes}
use Rattle.ii_segment_store.specs.declared.wanted_files.WantedFiles.{WantedFiles}
use Rattle.ii_segment_store.specs.declared.wanted_files.WantedFiles.TheVariants.{All, WithoutCountsAndStore, WithoutStore}
use Rattle.ii_segment_store.specs.WantedFiles.{wanted_segment}
use Rattle.ii_segment_store.specs.Contents.{IndexContents, SegmentContents, alive_file, bytes_if_listed, bytes_of_component, file_of, fitting_flags, flags_in, flags_with, loaded_in, optional_bytes, segment_in, with_segment}

abbrev no_files : Files
no_files name = None

abbrev file : SegmentComponent → FileMeta
file c = record { component = c; len = 1; digest = Blocks [] }

-- the file of postings is the second of a list, and one of norms isn't listed

listed_postings : file_of Postings (file Terms ∷ file Postings ∷ file Positions ∷ []) ≡ Some (file Postings)
listed_postings = refl

abbrev no_file : Option FileMeta
no_file = None

unlisted_norms : file_of FieldNorms (file Terms ∷ file Postings ∷ []) ≡ no_file
unlisted_norms = refl

-- other flags come after the counts, and before stored documents

new_flags : files_with_flags (file (Alive 3)) (file Terms ∷ file Counts ∷ file (Alive 2) ∷ file Store ∷ []) ≡ file Terms ∷ file Counts ∷ file (Alive 3) ∷ file Store ∷ []
new_flags = refl

first_flags : files_with_flags (file (Alive 3)) (file Terms ∷ file Store ∷ []) ≡ file Terms ∷ file (Alive 3) ∷ file Store ∷ []
first_flags = refl

-- a segment with a deleted document but without flags, one whose list has no terms, and one whose file of terms isn't there

abbrev segment : ℕ → List FileMeta → SegmentState
segment living files = record { id = 7; num_docs = 2; num_living = living; files = files }

-- what is loaded of a segment without its stored documents, and without its counts

abbrev loaded_by : WantedFiles → List SegmentComponent
loaded_by wanted = map (λ (f : FileMeta). f.component) (wanted_segment wanted (segment 2 (file Terms ∷ file Counts ∷ file (Alive 7) ∷ file Store ∷ file BlockTables ∷ []))).files

loads_all : loaded_by All ≡ Terms ∷ Counts ∷ Alive 7 ∷ Store ∷ BlockTables ∷ []
loads_all = refl

loads_no_store : loaded_by WithoutStore ≡ Terms ∷ Counts ∷ Alive 7 ∷ []
loads_no_store = refl

loads_neither : loaded_by WithoutCountsAndStore ≡ Terms ∷ Alive 7 ∷ []
loads_neither = refl

abbrev refused : IndexFault → Result SegmentContents IndexFault
refused fault = Err fault

abbrev known : List Bool → Result (List Bool) IndexFault
known alive = Ok alive

abbrev unknown : Result (List Bool) IndexFault
unknown = Err (DeletedDocuments 7)

deleted : flags_in (segment 1 (file Terms ∷ [])) no_files ≡ unknown
unfolding flags_with
deleted = refl

all_alive : flags_in (segment 2 (file Terms ∷ [])) no_files ≡ known (true ∷ true ∷ [])
unfolding flags_with
all_alive = refl

-- flags with one living document are those of a segment that has one, and of no other
fits : fitting_flags (segment 1 []) (Some (true ∷ false ∷ [])) ≡ known (true ∷ false ∷ [])
fits = refl

does_not_fit : fitting_flags (segment 2 []) (Some (true ∷ false ∷ [])) ≡ unknown
does_not_fit = refl

-- the file of flags is found whatever its generation
flags_of_three : alive_file (file Terms ∷ file (Alive 3) ∷ []) ≡ Some (file (Alive 3))
flags_of_three = refl

no_terms : segment_in (segment 2 (file Postings ∷ [])) no_files ≡ refused (MissingFile 7 Terms)
unfolding segment_in loaded_in bytes_of_component
no_terms = refl

no_file_of_terms : segment_in (segment 2 (file Terms ∷ [])) no_files ≡ refused (MissingFile 7 Terms)
unfolding segment_in loaded_in bytes_of_component listed_bytes
no_file_of_terms = refl

abbrev bytes_or : Option (List ℕ) → Result (Option (List ℕ)) IndexFault
bytes_or found = Ok found

-- a segment more: the ids and generations rise by one, and it comes last

abbrev words : ℕ → SegmentContents
words n = record { num_docs = n; terms = n ∷ []; postings = []; positions = []; fieldnorms = []; counts = None; store = None; alive = replicate n true }

abbrev list : ℕ → List SegmentState → MetaState
list number segments = record { generation = number; next_segment_id = number; schema = 9 ∷ []; segments = segments }

third : next_list (list 3 (segment 2 [] ∷ [])) (words 5) ≡ list 4 (segment 2 [] ∷ listed_segment 3 (words 5) ∷ [])
third = refl

lists_terms : (listed_segment 3 (words 5)).num_living ≡ 5
lists_terms = refl

-- tables of blocks are the last file of a segment, after stored documents; those of a segment without counts come after the norms

abbrev listed_components : SegmentContents → List SegmentComponent
listed_components s = map (λ (f : FileMeta). f.component) (listed_segment 3 s).files

lists_store : listed_components (record (words 5) { counts = Some []; store = Some (7 ∷ []) }) ≡ Terms ∷ Postings ∷ Positions ∷ FieldNorms ∷ Counts ∷ Store ∷ BlockTables ∷ []
lists_store = refl

lists_store_alone : listed_components (record (words 5) { store = Some [] }) ≡ Terms ∷ Postings ∷ Positions ∷ FieldNorms ∷ Store ∷ BlockTables ∷ []
lists_store_alone = refl

-- a file of stored documents that isn't listed, and one that isn't there

not_stored : optional_bytes (segment 2 (file Terms ∷ [])) Store no_files ≡ bytes_or None
unfolding bytes_if_listed
not_stored = refl

no_store : optional_bytes (segment 2 (file Store ∷ [])) Store no_files ≡ Err (MissingFile 7 Store)
unfolding bytes_if_listed listed_bytes
no_store = refl

abbrev index : List SegmentContents → IndexContents
index segments = record { schema = 9 ∷ []; segments = segments }

abbrev holds : List SegmentContents → Result IndexContents IndexFault
holds segments = Ok (index segments)

-- an index is replaced: the numbers continue those of its list, or begin again if there was none

abbrev read : MetaState → Result MetaState IndexFault
read m = Ok m

continues : emptied (8 ∷ []) (read (list 3 (segment 2 [] ∷ []))) ≡ record (list 3 []) { schema = 8 ∷ [] }
continues = refl

begins_again : emptied (9 ∷ []) (Err NoIndex) ≡ list 0 []
begins_again = refl

comes_last : with_segment (words 5) (holds (words 2 ∷ [])) ≡ holds (words 2 ∷ words 5 ∷ [])
comes_last = refl

-- the first and the third of three documents are deleted, and one that isn't there; a deleted one stays deleted

without_two : without (2 ∷ 0 ∷ 9 ∷ []) (true ∷ true ∷ true ∷ []) ≡ false ∷ true ∷ false ∷ []
without_two = refl

stays_deleted : without (1 ∷ []) (false ∷ true ∷ []) ≡ false ∷ false ∷ []
stays_deleted = refl

abbrev flags : List SegmentContents → List (List Bool)
flags ss = map (λ (s : SegmentContents). s.alive) ss

-- documents of the second segment alone
deletes_by_segment : flags (segments_without ([] ∷ (1 ∷ []) ∷ []) (words 1 ∷ words 2 ∷ words 1 ∷ [])) ≡ (true ∷ []) ∷ (true ∷ false ∷ []) ∷ (true ∷ []) ∷ []
deletes_by_segment = refl

-- the greatest generation of three files, and a segment without counts
latest_of_three : latest_file (file Terms ∷ file (Alive 7) ∷ file Postings ∷ []) ≡ 7
latest_of_three = refl

abbrev first_of : List (List ℕ) → Option ℕ
first_of deleted = first_uncounted deleted (segment 2 (file Terms ∷ []) ∷ [])

uncounted : first_of ((0 ∷ []) ∷ []) ≡ Some 7
uncounted = refl

abbrev no_id : Option ℕ
no_id = None

nothing_deleted : first_of ([] ∷ []) ≡ no_id
nothing_deleted = refl
