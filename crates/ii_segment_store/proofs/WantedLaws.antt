-- What is loaded of an index if only some files of its segments are wanted.
use Rattle.std.proofs.Common.{◌≡◌, ℕ, true, List, [], ◌∷◌, Option, None, Some, Result, Ok, Err, refl, ap, ◌∙◌}
use Rattle.std.specs.Prelude.{filter, map}
use Rattle.ii_store.specs.declared.faults.IndexFault.{IndexFault}
use Rattle.ii_store.specs.declared.index_meta.FileMeta.{FileMeta}
use Rattle.ii_directory.specs.declared.name.Name.TheVariants.{Meta}
use Rattle.ii_directory.specs.Directory.{Files}
use Rattle.ii_store.specs.Index.{◌>>=◌}
use Rattle.ii_store.specs.IndexMeta.{MetaState, SegmentState, meta_of}
use Rattle.ii_segment_store.specs.declared.wanted_files.WantedFiles.TheVariants.{All}
use Rattle.ii_segment_store.specs.Contents.{contents_at, contents_in, index_contents, list_contents}
use Rattle.ii_segment_store.specs.WantedFiles.{wanted_at, wanted_contents, wanted_in, wanted_list, wanted_segment}

-- of all files, nothing is left out

all_files : (fs : List FileMeta) → filter (λ (f : FileMeta). true) fs ≡ fs
all_files [] = refl
all_files (f ∷ fs) = ap (λ (gs : List FileMeta). f ∷ gs) (all_files fs)

all_of_segments : (ss : List SegmentState) → map (wanted_segment All) ss ≡ ss
all_of_segments [] = refl
all_of_segments (s ∷ ss) =
    ap (λ (fs : List FileMeta). record s { files = fs } ∷ map (wanted_segment All) ss) (all_files s.files) ∙ ap (λ (ts : List SegmentState). s ∷ ts) (all_of_segments ss)

all_of_list : (m : MetaState) → wanted_list All m ≡ m
all_of_list m = ap (λ (ss : List SegmentState). record m { segments = ss }) (all_of_segments m.segments)

all_of_decoded : (m : Result MetaState IndexFault) (files : Files) → (m >>= λ x. list_contents (wanted_list All x) files) ≡ (m >>= λ x. list_contents x files)
all_of_decoded (Ok m) files = ap (λ (x : MetaState). list_contents x files) (all_of_list m)
all_of_decoded (Err fault) files = refl

all_at : (meta : List ℕ) (files : Files) → wanted_at All meta files ≡ contents_at meta files
unfolding wanted_at contents_at
all_at meta files = rw (all_of_decoded (meta_of meta) files) refl

all_in : (found : Option (List ℕ)) (files : Files) → wanted_in All found files ≡ contents_in found files
unfolding wanted_in contents_in
all_in None files = refl
all_in (Some meta) files = all_at meta files

pub all_wanted : (files : Files) → wanted_contents All files ≡ index_contents files
unfolding wanted_contents index_contents
all_wanted files = all_in (files Meta) files
