-- What is known of files that were looked at one after the other.
use Rattle.std.proofs.Common.{◌≡◌, ℕ, suc, ◌+◌, ◌<◌, List, [], ◌∷◌, ◌++◌, length, get_or, take, drop, Result, Ok, Err, refl, sym, ap, subst, ◌∙◌}
use Rattle.std.specs.Prelude.{map}
use Rattle.std.specs.List.{flat_map}
use Rattle.std.proofs.Math.Seq.{drop-cons}
use Rattle.std.proofs.lemmas.Grind.{flat_map-append}
use Rattle.std.proofs.lemmas.List.{append-nil, map-append, map_push, take-append-drop, take_more}
use Rattle.std.proofs.lemmas.List.Concat.{flat_map-cons}
use Rattle.ii_store.specs.declared.faults.IndexFault.{IndexFault}
use Rattle.ii_store.specs.declared.faults.StoreFault.{StoreFault}
use Rattle.ii_store.specs.declared.faults.StoreFault.TheVariants as faults
use Rattle.ii_store.specs.declared.index_meta.FileMeta.{FileMeta}
use Rattle.ii_store.specs.declared.index_meta.SegmentMeta.{SegmentMeta}
use Rattle.ii_directory.specs.declared.name.Name.TheVariants.{Segment}
use Rattle.ii_directory.specs.Directory.{Files}
use Rattle.ii_store.specs.Index.{◌>>=◌, Fails}
use Rattle.ii_store.specs.IndexMeta.{MetaState, segment_view}
use Rattle.ii_store.specs.Segments.{AreThere, HasContents, ListedFile, MayCommit, SegmentedIndex, contents_of, files_of_segment, index_with, listed, listed_bytes}
use Rattle.ii_store.proofs.Steps.{stops}

pub has_nothing : (files : Files) → HasContents [] files
unfolding contents_of
has_nothing files = ([], refl)

pub has_one : (l : ListedFile) (files : Files) (bytes : List ℕ) → listed_bytes l (files (Segment l.id l.file.component)) ≡ Ok bytes → HasContents (l ∷ []) files
unfolding contents_of
has_one l files bytes is = (bytes ∷ [], rw is refl)

abbrev done : List (List ℕ) → Result (List (List ℕ)) IndexFault
done cs = Ok cs

first_of : (r : Result (List ℕ) IndexFault) (f : List ℕ → Result (List (List ℕ)) IndexFault) (cs : List (List ℕ)) → (r >>= f) ≡ Ok cs → (x : List ℕ) × (r ≡ Ok x) × (f x ≡ Ok cs)
first_of (Ok x) f cs e = (x, refl, e)
first_of (Err fault) f cs e = absurd cc

others_of : (r : Result (List (List ℕ)) IndexFault) (x : List ℕ) (cs : List (List ℕ)) → (r >>= λ others. Ok (x ∷ others)) ≡ done cs → (others : List (List ℕ)) × (r ≡ Ok others)
others_of (Ok others) x cs e = (others, refl)
others_of (Err fault) x cs e = absurd cc

contents_cons : (l : ListedFile) (ls : List ListedFile) (files : Files) (x : List ℕ) (others : List (List ℕ)) → listed_bytes l (files (Segment l.id l.file.component)) ≡ Ok x → contents_of ls files ≡ Ok others
    → contents_of (l ∷ ls) files ≡ Ok (x ∷ others)
unfolding contents_of
contents_cons l ls files x others first rest = rw (first, rest) refl

-- what there is of a first file, and of the others
parts_of : (l : ListedFile) (ls : List ListedFile) (files : Files) → HasContents (l ∷ ls) files → ((x : List ℕ) × (listed_bytes l (files (Segment l.id l.file.component)) ≡ Ok x)) × HasContents ls files
unfolding contents_of
parts_of l ls files has =
    let a = first_of (listed_bytes l (files (Segment l.id l.file.component))) (λ first. contents_of ls files >>= λ others. Ok (first ∷ others)) has.0 has.1 in
    ((a.0, a.1), others_of (contents_of ls files) a.0 has.0 a.2)

pub has_both : (xs ys : List ListedFile) (files : Files) → HasContents xs files → HasContents ys files → HasContents (xs ++ ys) files
has_both [] ys files one two = two
has_both (l ∷ xs) ys files one two =
    let parts = parts_of l xs files one in
    let rest = has_both xs ys files parts.1 two in
    (parts.0.0 ∷ rest.0, contents_cons l (xs ++ ys) files parts.0.0 rest.0 parts.0.1 rest.1)

-- a list whose files are all there
pub are_there : (m : MetaState) (files : Files) → HasContents (listed m) files → AreThere m files
unfolding index_with
are_there m files has = (record { meta = m; contents = has.0 }, rw has.1 refl)

abbrev pub listed_as : ℕ → FileMeta → ListedFile
listed_as id f = record { id = id; file = f }

pub more_files : (id : ℕ) (fs : List FileMeta) (i : ℕ) (d : FileMeta) (files : Files) → i < length fs
    → HasContents (map (listed_as id) (take i fs)) files → HasContents (listed_as id (get_or fs i d) ∷ []) files → HasContents (map (listed_as id) (take (i + 1) fs)) files
more_files id fs i d files lt so_far one =
    let e : map (listed_as id) (take (i + 1) fs) ≡ map (listed_as id) (take i fs) ++ listed_as id (get_or fs i d) ∷ [] =
    ap (map (listed_as id)) (take_more fs i d lt) ∙ map_push (listed_as id) (take i fs) (get_or fs i d) in
    subst (λ (ls : List ListedFile). HasContents ls files) (sym e) (has_both (map (listed_as id) (take i fs)) (listed_as id (get_or fs i d) ∷ []) files so_far one)

abbrev pub files_of : List SegmentMeta → List ListedFile
files_of segments = flat_map files_of_segment (map segment_view segments)

pub more_segments : (segments : List SegmentMeta) (i : ℕ) (s : SegmentMeta) (files : Files) → i < length segments → s ≡ get_or segments i s
    → HasContents (files_of (take i segments)) files → HasContents (files_of_segment (segment_view s)) files → HasContents (files_of (take (i + 1) segments)) files
more_segments segments i s files lt is so_far one =
    let single : flat_map files_of_segment (segment_view s ∷ []) ≡ files_of_segment (segment_view s) = append-nil (files_of_segment (segment_view s)) in
    let e : files_of (take (i + 1) segments) ≡ files_of (take i segments) ++ files_of_segment (segment_view s) =
    ap files_of (take_more segments i s lt)
    ∙ ap (flat_map files_of_segment) (map_push segment_view (take i segments) (get_or segments i s))
    ∙ ap (λ (g : SegmentMeta). flat_map files_of_segment (map segment_view (take i segments) ++ segment_view g ∷ [])) (sym is)
    ∙ flat_map-append files_of_segment (map segment_view (take i segments)) (segment_view s ∷ [])
    ∙ ap (λ (ls : List ListedFile). files_of (take i segments) ++ ls) single in
    subst (λ (ls : List ListedFile). HasContents ls files) (sym e) (has_both (files_of (take i segments)) (files_of_segment (segment_view s)) files so_far one)

-- the first fault among files

pub fails_one : (e : StoreFault) (l : ListedFile) (files : Files) → Fails e (listed_bytes l (files (Segment l.id l.file.component))) → Fails e (contents_of (l ∷ []) files)
unfolding contents_of
fails_one e l files failed = stops e (listed_bytes l (files (Segment l.id l.file.component))) (λ first. contents_of [] files >>= λ others. Ok (first ∷ others)) failed

fails_cons : (e : StoreFault) (l : ListedFile) (ls : List ListedFile) (files : Files) (x : List ℕ) → listed_bytes l (files (Segment l.id l.file.component)) ≡ Ok x → Fails e (contents_of ls files) → Fails e (contents_of (l ∷ ls) files)
unfolding contents_of
fails_cons e l ls files x is failed = rw is (stops e (contents_of ls files) (λ others. Ok (x ∷ others)) failed)

front_cases : (fault : IndexFault) (r : Result (List ℕ) IndexFault) (rest more : Result (List (List ℕ)) IndexFault) → (r >>= λ first. rest >>= λ others. Ok (first ∷ others)) ≡ Err fault
    → (rest ≡ Err fault → more ≡ Err fault) → (r >>= λ first. more >>= λ others. Ok (first ∷ others)) ≡ Err fault
front_cases fault (Err f) rest more e later = e
front_cases fault (Ok x) (Ok others) more e later = absurd cc
front_cases fault (Ok x) (Err f) more e later = rw (later e) refl

front_fault : (fault : IndexFault) (zs ys : List ListedFile) (files : Files) → contents_of zs files ≡ Err fault → contents_of (zs ++ ys) files ≡ Err fault
unfolding contents_of
front_fault fault [] ys files e = absurd cc
front_fault fault (l ∷ zs) ys files e = front_cases fault (listed_bytes l (files (Segment l.id l.file.component))) (contents_of zs files) (contents_of (zs ++ ys) files) e (λ failed. front_fault fault zs ys files failed)

fails_front : (e : StoreFault) (zs ys : List ListedFile) (files : Files) → Fails e (contents_of zs files) → Fails e (contents_of (zs ++ ys) files)
fails_front (faults.Directory fault) zs ys files failed = tt
fails_front (faults.Index fault) zs ys files failed = front_fault fault zs ys files failed

fails_after : (e : StoreFault) (xs ys : List ListedFile) (files : Files) → HasContents xs files → Fails e (contents_of ys files) → Fails e (contents_of (xs ++ ys) files)
fails_after e [] ys files has failed = failed
fails_after e (l ∷ xs) ys files has failed =
    let parts = parts_of l xs files has in
    fails_cons e l (xs ++ ys) files parts.0.0 parts.0.1 (fails_after e xs ys files parts.1 failed)

fails_within : (e : StoreFault) (xs zs ys : List ListedFile) (files : Files) → HasContents xs files → Fails e (contents_of zs files) → Fails e (contents_of (xs ++ (zs ++ ys)) files)
fails_within e xs zs ys files has failed = fails_after e xs (zs ++ ys) files has (fails_front e zs ys files failed)

-- a list cut at an item
cut : {X : Type 0} (xs : List X) (i : ℕ) (d : X) → i < length xs → xs ≡ take i xs ++ (get_or xs i d ∷ drop (suc i) xs)
cut {X = X} xs i d lt = sym (take-append-drop i xs) ∙ ap (λ (rest : List X). take i xs ++ rest) (drop-cons xs i d lt)

pub file_fails : (e : StoreFault) (id : ℕ) (fs : List FileMeta) (i : ℕ) (d : FileMeta) (files : Files) → i < length fs
    → HasContents (map (listed_as id) (take i fs)) files → Fails e (contents_of (listed_as id (get_or fs i d) ∷ []) files) → Fails e (contents_of (map (listed_as id) fs) files)
file_fails e id fs i d files lt has failed =
    let rest = drop (suc i) fs in
    let whole : map (listed_as id) fs ≡ map (listed_as id) (take i fs) ++ ((listed_as id (get_or fs i d) ∷ []) ++ map (listed_as id) rest) =
    ap (map (listed_as id)) (cut fs i d lt) ∙ map-append (listed_as id) (take i fs) (get_or fs i d ∷ rest) in
    subst (λ (ls : List ListedFile). Fails e (contents_of ls files)) (sym whole) (fails_within e (map (listed_as id) (take i fs)) (listed_as id (get_or fs i d) ∷ []) (map (listed_as id) rest) files has failed)

pub segment_fails : (e : StoreFault) (segments : List SegmentMeta) (i : ℕ) (s : SegmentMeta) (files : Files) → i < length segments → s ≡ get_or segments i s
    → HasContents (files_of (take i segments)) files → Fails e (contents_of (files_of_segment (segment_view s)) files) → Fails e (contents_of (files_of segments) files)
segment_fails e segments i s files lt is has failed =
    let rest = drop (suc i) segments in
    let whole : files_of segments ≡ files_of (take i segments) ++ (files_of_segment (segment_view s) ++ files_of rest) =
    ap files_of (cut segments i s lt)
    ∙ ap (λ (g : SegmentMeta). files_of (take i segments ++ g ∷ rest)) (sym is)
    ∙ ap (flat_map files_of_segment) (map-append segment_view (take i segments) (s ∷ rest))
    ∙ flat_map-append files_of_segment (map segment_view (take i segments)) (segment_view s ∷ map segment_view rest)
    ∙ ap (λ (ls : List ListedFile). files_of (take i segments) ++ ls) (flat_map-cons files_of_segment (segment_view s) (map segment_view rest)) in
    subst (λ (ls : List ListedFile). Fails e (contents_of ls files)) (sym whole) (fails_within e (files_of (take i segments)) (files_of_segment (segment_view s)) (files_of rest) files has failed)

-- why a list may not be committed

no_contents : (fault : IndexFault) (ls : List ListedFile) (files : Files) (m : MetaState) → contents_of ls files ≡ Err fault → (i : SegmentedIndex) → (contents_of ls files >>= λ contents. Ok (record { meta = m; contents = contents })) ≡ Ok i → ⊥
no_contents fault ls files m failed i is =
    let wrong = rw failed at is in
    absurd cc

pub not_there : (m : MetaState) (files : Files) (fault : IndexFault) → contents_of (listed m) files ≡ Err fault → MayCommit m files → ⊥
unfolding index_with
not_there m files fault failed may = no_contents fault (listed m) files m failed may.there.0 may.there.1
