-- What the removal of slots leaves.
use Rattle.std.proofs.Common.{◌≡◌, ◌||◌, ℕ, Bool, true, false, not, List, [], ◌∷◌, ◌++◌, Ok, ap, map, refl, subst, sym, ◌∙◌}
use Rattle.std.specs.List.{AllByRecursion, flat_map, list_any}
use Rattle.std.proofs.lemmas.Bool.{eq-eqb}
use Rattle.std.proofs.lemmas.List.Concat.{flat_map-cons}
use Rattle.ii_directory.specs.declared.name.SegmentComponent.{SegmentComponent}
use Rattle.ii_directory.specs.Names.{component_generation, component_number, same_component}
use Rattle.ii_store.specs.declared.index_meta.FileMeta.{FileMeta}
use Rattle.ii_store.specs.Collect.{KeepsOthers, is_file}
use Rattle.ii_directory.specs.declared.name.Kind.{Kind}
use Rattle.ii_directory.specs.declared.name.Name.TheVariants.{File, Meta, Segment}
use Rattle.ii_directory.specs.declared.name.Slot.{Slot}
use Rattle.ii_directory.specs.Directory.{Elapses, Elsewhere, Files}
use Rattle.ii_store.specs.IndexMeta.{MetaState, SegmentState}
use Rattle.ii_store.specs.Segments.{ListedFile, files_of_segment, list_in, listed}
use Rattle.ii_directory.proofs.Elapsing.{elapses_implies, elapses_then}
use Rattle.ii_segment_store.specs.Commits.{KeepsButSlot, KeepsButSlots}
use Rattle.ii_segment_store.specs.Contents.{all_contents, index_contents, list_contents, all_of}
use Rattle.ii_segment_store.proofs.CommitLaws.{KeepsFileOf, list_kept, listed_below, listed_contents, listed_same}

-- files of one slot are files of slots
slot_of_slots : (slot : Slot) (a b : Files) → KeepsButSlot slot a b → KeepsButSlots a b
slot_of_slots slot a b keeps name other = keeps name (λ kind. other slot kind)

-- one file more of a slot
pub slot_keeps : (slot : Slot) (kind : Kind) (a b c : Files) → KeepsButSlot slot a b → Elsewhere (File slot kind) b c → KeepsButSlot slot a c
slot_keeps slot kind a b c keeps elsewhere name other = elsewhere name (λ e. other kind e) ∙ keeps name other

module _ {D : Type 0} (moment : D → ℕ) (left_since : D → ℕ → Files → Type 0) (seen : D → Files) (old mid new : D) (one two : Slot) where
  -- one file more of a slot was removed, or not
  pub slot_time : (kind : Kind) → KeepsButSlot one (seen old) (seen mid) → Elapses (moment old) (moment mid) (left_since old) (left_since mid) (KeepsButSlot one (seen old))
      → Elapses (moment mid) (moment new) (left_since mid) (left_since new) (Elsewhere (File one kind) (seen mid)) → Elapses (moment old) (moment new) (left_since old) (left_since new) (KeepsButSlot one (seen old))
  slot_time kind keeps first second =
      elapses_then moment left_since old mid new (KeepsButSlot one (seen old)) (Elsewhere (File one kind) (seen mid)) first second (λ c elsewhere. slot_keeps one kind (seen old) (seen mid) c keeps elsewhere)

  -- the files of one slot after those of another one
  pub both_time : KeepsButSlot one (seen old) (seen mid) → Elapses (moment old) (moment mid) (left_since old) (left_since mid) (KeepsButSlot one (seen old))
      → Elapses (moment mid) (moment new) (left_since mid) (left_since new) (KeepsButSlot two (seen mid))
      → Elapses (moment old) (moment new) (left_since old) (left_since new) (KeepsButSlots (seen old))
  both_time keeps first second =
      elapses_then moment left_since old mid new (KeepsButSlots (seen old)) (KeepsButSlot two (seen mid))
      (elapses_implies moment left_since old mid (KeepsButSlot one (seen old)) (KeepsButSlots (seen old)) first (λ c kept. slot_of_slots one (seen old) c kept)) second
      (λ c kept name other. kept name (λ kind. other two kind) ∙ keeps name (λ kind. other one kind))

-- a list doesn't speak of slots
pub slots_same : (m : MetaState) (a c : Files) → list_in (a Meta) ≡ Ok m → KeepsButSlots a c → index_contents c ≡ index_contents a
slots_same m a c listed keeps =
    let meta : c Meta ≡ a Meta = keeps Meta (λ slot kind e. absurd cc) in
    let again : list_in (c Meta) ≡ Ok m = rw meta listed in
    listed_contents m c again ∙ list_kept m a c (λ i component lt. keeps (Segment i component) (λ slot kind e. absurd cc)) (listed_below (a Meta) m listed) ∙ sym (listed_contents m a listed)

-- ---- what the removal of garbage leaves
same_component_itself : (component : SegmentComponent) → same_component component component ≡ true
same_component_itself component = rw (eq-eqb (component_number component) (component_number component) refl, eq-eqb (component_generation component) (component_generation component) refl) refl

file_itself : (l : ListedFile) → is_file l.id l.file.component l ≡ true
file_itself l = rw (eq-eqb l.id l.id refl, same_component_itself l.file.component) refl

or_right : (a b : Bool) → b ≡ true → (a || b) ≡ true
or_right true b e = refl
or_right false b e = e

-- a file that a list has is kept
abbrev KeepsFile : Files → Files → ListedFile → Type 0
KeepsFile a c l = c (Segment l.id l.file.component) ≡ a (Segment l.id l.file.component)

each_listed : (a c : Files) (ls : List ListedFile) → ((l : ListedFile) → list_any (is_file l.id l.file.component) ls ≡ true → KeepsFile a c l) → AllByRecursion (KeepsFile a c) ls
each_listed a c [] keeps = tt
each_listed a c (l ∷ ls) keeps =
    (keeps l (rw (file_itself l) refl), each_listed a c ls (λ k has. keeps k (or_right (is_file k.id k.file.component l) (list_any (is_file k.id k.file.component) ls) has)))

files_kept : (a c : Files) (id : ℕ) (fs : List FileMeta) → AllByRecursion (KeepsFile a c) (map (λ (f : FileMeta). record { id = id; file = f }) fs) → AllByRecursion (KeepsFileOf id a c) fs
files_kept a c id [] each = tt
files_kept a c id (f ∷ fs) each = (each.0, files_kept a c id fs each.1)

first_part : (P : ListedFile → Type 0) (xs ys : List ListedFile) → AllByRecursion P (xs ++ ys) → AllByRecursion P xs
first_part P [] ys all = tt
first_part P (x ∷ xs) ys all = (all.0, first_part P xs ys all.1)

last_part : (P : ListedFile → Type 0) (xs ys : List ListedFile) → AllByRecursion P (xs ++ ys) → AllByRecursion P ys
last_part P [] ys all = all
last_part P (x ∷ xs) ys all = last_part P xs ys all.1

segments_kept : (a c : Files) (ss : List SegmentState) → AllByRecursion (KeepsFile a c) (flat_map files_of_segment ss) → all_contents ss c ≡ all_contents ss a
unfolding all_of
segments_kept a c [] each = refl
segments_kept a c (s ∷ ss) each =
    let all = subst (AllByRecursion (KeepsFile a c)) (flat_map-cons files_of_segment s ss) each in
    let own = first_part (KeepsFile a c) (files_of_segment s) (flat_map files_of_segment ss) all in
    let others = last_part (KeepsFile a c) (files_of_segment s) (flat_map files_of_segment ss) all in
    rw (listed_same s a c (files_kept a c s.id s.files own), segments_kept a c ss others) refl

list_garbage : (m : MetaState) (a c : Files) → KeepsOthers m a c → list_contents m c ≡ list_contents m a
unfolding list_contents
list_garbage m a c keeps = rw (segments_kept a c m.segments (each_listed a c (listed m) (λ l has. keeps (Segment l.id l.file.component) (ap not has)))) refl

-- an index doesn't have its garbage
pub garbage_same : (m : MetaState) (a c : Files) → list_in (a Meta) ≡ Ok m → KeepsOthers m a c → index_contents c ≡ index_contents a
garbage_same m a c is keeps =
    let meta : c Meta ≡ a Meta = keeps Meta refl in
    let again : list_in (c Meta) ≡ Ok m = rw meta is in
    listed_contents m c again ∙ list_garbage m a c keeps ∙ sym (listed_contents m a is)
