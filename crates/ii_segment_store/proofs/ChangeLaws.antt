-- What an index holds after documents were deleted.
use Rattle.std.proofs.Common.{◌≡◌, inr, ⊎_elim, ℕ, ◌<◌, ◌≤◌, ◌==◌, Bool, true, false, List, [], ◌∷◌, length, replicate, Option, None, Some, Result, Ok, Err, refl, sym, ap, subst, ◌∙◌, arith, if◌then◌else◌}
use Rattle.std.specs.Prelude.{slice_set}
use Rattle.std.specs.List.{AllByRecursion}
use Rattle.std.proofs.lemmas.Bool.{eq-eqb}
use Rattle.std.proofs.lemmas.List.{length-replicate, length-set}
use Rattle.ii_alive.specs.Alive.{num_living}
use Rattle.ii_alive.specs.AliveBytes.{alive_bytes, alive_of}
use Rattle.ii_alive.proofs.FlagLemmas.{length_of_flags, reads_written_flags}
use Rattle.ii_store.specs.declared.faults.IndexFault.{IndexFault}
use Rattle.ii_store.specs.declared.faults.IndexFault.TheVariants.{DeletedDocuments}
use Rattle.ii_store.specs.declared.index_meta.FileMeta.{FileMeta}
use Rattle.ii_directory.specs.declared.name.Name.TheVariants.{Segment}
use Rattle.ii_directory.specs.declared.name.SegmentComponent.{SegmentComponent}
use Rattle.ii_directory.specs.declared.name.SegmentComponent.TheVariants.{Alive, Counts, FieldNorms, Positions, Postings, Store, Terms}
use Rattle.ii_directory.specs.Directory.{Elsewhere, Files, IsPut}
use Rattle.ii_store.specs.Index.{◌>>=◌}
use Rattle.ii_store.specs.IndexMeta.{SegmentState, file_meta}
use Rattle.ii_directory.specs.Names.{component_generation, component_number, name_generation}
use Rattle.ii_store.specs.Segments.{listed_bytes}
use Rattle.ii_segment_store.specs.Changes.{IsChangedTo, IsFlagged, KeepsButFlags, KeepsOlder, files_with_flags, latest_file, result_without, with_flags, without}
use Rattle.ii_segment_store.specs.Contents.{SegmentContents, alive_file, file_of, fitting_flags, flags_in, flags_with, loaded_in, optional_bytes, segment_in}
use Rattle.ii_segment_store.proofs.FlagLaws.{finds_after, finds_before, finds_flags, latest_with_flags}
use Rattle.ii_segment_store.proofs.CommitLaws.{KeepsFileOf, flags_same, found_has, listed_same, read_back}

-- older files are the same where only flags of later generations were changed

generation_of : (i id h : ℕ) (component : SegmentComponent) → Segment i component ≡ Segment id (Alive h) → component_generation component ≡ h
generation_of i id h component e = ap name_generation e

older_files : (g i : ℕ) (a c : Files) (fs : List FileMeta) → latest_file fs ≤ g → KeepsOlder g a c → AllByRecursion (KeepsFileOf i a c) fs
older_files g i a c [] le keeps = tt
older_files g i a c (f ∷ fs) le keeps = (
  keeps (Segment i f.component) (λ id h lt e. omega (arith, le, lt, generation_of i id h f.component e)),
  older_files g i a c fs (omega (arith, le)) keeps,
)

pub older_segment : (g : ℕ) (s : SegmentState) (a c : Files) → latest_file s.files ≤ g → KeepsOlder g a c → segment_in s c ≡ segment_in s a
older_segment g s a c le keeps = listed_same s a c (older_files g s.id a c s.files le keeps)

pub older_flags : (g : ℕ) (s : SegmentState) (a c : Files) → latest_file s.files ≤ g → KeepsOlder g a c → flags_in s c ≡ flags_in s a
older_flags g s a c le keeps = flags_same s (alive_file s.files) a c (found_has _ (KeepsFileOf s.id a c) s.files (older_files g s.id a c s.files le keeps))

pub later_keeps : (g h : ℕ) (a c : Files) → g < h → KeepsButFlags h a c → KeepsOlder g a c
later_keeps g h a c lt keeps name other = keeps name (λ id e. other id h lt e)

pub older_then : (g : ℕ) (a b c : Files) → KeepsOlder g a b → KeepsOlder g b c → KeepsOlder g a c
older_then g a b c one two name other = two name other ∙ one name other

pub elsewhere_flags : (id g : ℕ) (a c : Files) → Elsewhere (Segment id (Alive g)) a c → KeepsButFlags g a c
elsewhere_flags id g a c elsewhere name other = elsewhere name (λ e. other id e)

-- flags have as many documents as their segment

abbrev flags_if : Bool → IndexFault → List Bool → Result (List Bool) IndexFault
flags_if b fault flags = if b then Ok flags else Err fault

chosen_flags : (b : Bool) (fault : IndexFault) (flags alive : List Bool) → flags_if b fault flags ≡ Ok alive → flags ≡ alive
chosen_flags true fault flags alive e = cc
chosen_flags false fault flags alive e = absurd cc

fitting_are : (s : SegmentState) (flags alive : List Bool) → fitting_flags s (Some flags) ≡ Ok alive → flags ≡ alive
fitting_are s flags alive e = chosen_flags (num_living flags == s.num_living) (DeletedDocuments s.id) flags alive e

fitting_length : (s : SegmentState) (bytes : List ℕ) (found : Option (List Bool)) (alive : List Bool) → alive_of s.num_docs bytes ≡ found → fitting_flags s found ≡ Ok alive → length alive ≡ s.num_docs
fitting_length s bytes None alive is e = absurd cc
fitting_length s bytes (Some flags) alive is e = ap length (sym (fitting_are s flags alive e)) ∙ length_of_flags s.num_docs bytes flags is

read_length : (s : SegmentState) (r : Result (List ℕ) IndexFault) (alive : List Bool) → (r >>= λ bytes. fitting_flags s (alive_of s.num_docs bytes)) ≡ Ok alive → length alive ≡ s.num_docs
read_length s (Ok bytes) alive e = fitting_length s bytes (alive_of s.num_docs bytes) alive refl e
read_length s (Err fault) alive e = absurd cc

flags_length : (s : SegmentState) (found : Option FileMeta) (files : Files) (alive : List Bool) → flags_with s found files ≡ Ok alive → length alive ≡ s.num_docs
unfolding flags_with
flags_length s None files alive e = ap length (sym (fitting_are s (replicate s.num_docs true) alive e)) ∙ length-replicate s.num_docs true
flags_length s (Some f) files alive e = read_length s (listed_bytes (record { id = s.id; file = f }) (files (Segment s.id f.component))) alive e

pub length_without : (docs : List ℕ) (alive : List Bool) → length (without docs alive) ≡ length alive
length_without [] alive = refl
length_without (doc ∷ docs) alive = length_without docs (slice_set alive doc false) ∙ length-set alive doc false

-- a segment with new flags

flags_again : (s : SegmentState) (g : ℕ) (alive : List Bool) (files : Files) → length alive ≡ s.num_docs → files (Segment s.id (Alive g)) ≡ Some (alive_bytes alive) → flags_in (with_flags s g alive) files ≡ Ok alive
unfolding flags_with
flags_again s g alive files size there =
    let x = file_meta (Alive g) (alive_bytes alive) in
    let bits : alive_of s.num_docs (alive_bytes alive) ≡ Some alive = subst (λ (n : ℕ). alive_of n (alive_bytes alive) ≡ Some alive) size (reads_written_flags alive) in
    ap (λ (found : Option FileMeta). flags_with (with_flags s g alive) found files) (finds_flags x s.files refl)
    ∙ rw (read_back s.id (Alive g) (alive_bytes alive) (files (Segment s.id (Alive g))) there, bits, eq-eqb (num_living alive) (num_living alive) refl) refl

-- what a segment holds, part by part
abbrev parts : Result SegmentContents IndexFault → Result (Option (List ℕ)) IndexFault → List Bool → Result SegmentContents IndexFault
parts loaded store alive = loaded >>= λ contents. store >>= λ stored. Ok (record contents { store = stored; alive = alive })

parts_without : (docs : List ℕ) (loaded : Result SegmentContents IndexFault) (store : Result (Option (List ℕ)) IndexFault) (alive : List Bool) → parts loaded store (without docs alive) ≡ result_without docs (parts loaded store alive)
parts_without docs (Err fault) store alive = refl
parts_without docs (Ok contents) (Err fault) alive = refl
parts_without docs (Ok contents) (Ok stored) alive = refl

abbrev parts_of : SegmentState → Files → List Bool → Result SegmentContents IndexFault
parts_of s files alive = parts (loaded_in s files) (optional_bytes s Store files) alive

with_known_flags : (s : SegmentState) (files : Files) (alive : List Bool) → flags_in s files ≡ Ok alive → segment_in s files ≡ parts_of s files alive
unfolding segment_in
with_known_flags s files alive known = rw known refl

same_parts : (s : SegmentState) (g : ℕ) (alive : List Bool) (files : Files) → parts_of (with_flags s g alive) files alive ≡ parts_of s files alive
unfolding loaded_in
same_parts s g alive files =
    let x = file_meta (Alive g) (alive_bytes alive) in
    let finds : (component : SegmentComponent) → component_number component < 5 → file_of component (files_with_flags x s.files) ≡ file_of component s.files = λ component lt. finds_before component x s.files refl lt in
    let found : file_of Store (files_with_flags x s.files) ≡ file_of Store s.files = finds_after Store x s.files refl (omega arith) in
    rw (finds Terms (omega arith), finds Postings (omega arith), finds Positions (omega arith), finds FieldNorms (omega arith), finds Counts (omega arith), found) refl

-- a segment after documents were deleted, whose flags were written
pub flagged_reads : (docs : List ℕ) (s : SegmentState) (g : ℕ) (alive : List Bool) (old new : Files) → latest_file s.files < g → flags_in s old ≡ Ok alive → IsPut (Segment s.id (Alive g)) (Some (alive_bytes (without docs alive))) old new
    → IsChangedTo docs g s (with_flags s g (without docs alive)) old new
flagged_reads docs s g alive old new later known put =
    let keeps = elsewhere_flags s.id g old new put.elsewhere in
    let older : KeepsOlder (latest_file s.files) old new = later_keeps (latest_file s.files) g old new later keeps in
    let now : flags_in s new ≡ Ok alive = older_flags (latest_file s.files) s old new (omega arith) older ∙ known in
    let flags = without docs alive in
    let size : length flags ≡ s.num_docs = length_without docs alive ∙ flags_length s (alive_file s.files) old alive known in
    record {
      read = with_known_flags (with_flags s g flags) new flags (flags_again s g flags new size put.there) ∙ same_parts s g flags new
          ∙ parts_without docs (loaded_in s new) (optional_bytes s Store new) alive
          ∙ ap (result_without docs) (sym (with_known_flags s new alive now) ∙ older_segment (latest_file s.files) s old new (omega arith) older);
      flagged = inr (alive, known, refl);
      keeps = keeps;
    }

-- the generation and the id of a segment with new flags

pub flagged_latest : (docs : List ℕ) (g : ℕ) (s t : SegmentState) (files : Files) → latest_file s.files ≤ g → IsFlagged docs g s t files → latest_file t.files ≤ g
flagged_latest docs g s t files le flagged = ⊎_elim
    (λ same. subst (λ (x : SegmentState). latest_file x.files ≤ g) (sym same.1) le)
    (λ new. subst (λ (x : SegmentState). latest_file x.files ≤ g) (sym new.2) (latest_with_flags g (file_meta (Alive g) (alive_bytes (without docs new.0))) s.files (omega arith) le))
    flagged

pub flagged_id : (docs : List ℕ) (g : ℕ) (s t : SegmentState) (files : Files) → IsFlagged docs g s t files → t.id ≡ s.id
flagged_id docs g s t files flagged = ⊎_elim (λ same. ap (λ (x : SegmentState). x.id) same.1) (λ new. ap (λ (x : SegmentState). x.id) new.2) flagged
