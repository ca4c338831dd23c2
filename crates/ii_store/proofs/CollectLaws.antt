-- What the removal of garbage leaves.
use Rattle.std.proofs.Common.{◌≡◌, ◌⊎◌, inl, inr, ⊎_elim, ℕ, ◌+◌, ◌≤◌, ◌<◌, ◌==◌, ◌||◌, ◌&&◌, Bool, true, false, not, cond, List, [], ◌∷◌, ◌++◌, length, get_or, take, Option, None, Some, Result, Ok, refl, sym, ap, ◌∙◌, subst, arith}
use Rattle.std.specs.Prelude.{IsSome, map}
use Rattle.std.specs.List.{AllByRecursion, count_by, flat_map, list_any}
use Rattle.std.proofs.lemmas.Bool.{eq-eqb}
use Rattle.std.proofs.lemmas.List.{take_all}
use Rattle.std.proofs.lemmas.List.Concat.{flat_map-cons}
use Rattle.std.proofs.lemmas.List.Folds.{list_any-append, list_any_at}
use Rattle.std.proofs.lemmas.List.Sums.{count_by_more_no, count_by_more_yes}
use Rattle.std.proofs.lemmas.List.Elements.{Contains-push_cases}
use Rattle.ii_store.specs.declared.faults.IndexFault.{IndexFault}
use Rattle.ii_store.specs.declared.index_meta.FileMeta.{FileMeta}
use Rattle.ii_store.specs.declared.index_meta.SegmentMeta.{SegmentMeta}
use Rattle.ii_directory.specs.declared.name.Name.{Name}
use Rattle.ii_directory.specs.declared.name.Name.TheVariants.{Meta, Segment}
use Rattle.ii_directory.specs.declared.name.SegmentComponent.{SegmentComponent}
use Rattle.ii_store.specs.Collect.{HasNoGarbage, IsCollected, IsRemoved, KeepsOthers, is_file, is_garbage}
use Rattle.ii_directory.specs.Directory.{Elapses, Elsewhere, Files, IsListing, IsPut, Same}
use Rattle.ii_store.specs.IndexMeta.{MetaState, SegmentState, segment_view}
use Rattle.ii_directory.specs.Names.{component_generation, component_number, same_component}
use Rattle.ii_store.specs.Segments.{LeavesSameList, ListedFile, contents_of, files_of_segment, index_with, list_in, listed, segments_of}
use Rattle.ii_store.proofs.CommitLaws.{same_segments}
use Rattle.ii_store.proofs.ListChecks.{list_any-map}
use Rattle.ii_directory.proofs.FlushLaws.{equal_or_not, not_both}
use Rattle.ii_directory.proofs.ListingLaws.{nothing_in, split}
use Rattle.ii_directory.proofs.Elapsing.{elapses_implies, elapses_none, elapses_then}

-- files that a list has aren't garbage

same_component_itself : (component : SegmentComponent) → same_component component component ≡ true
same_component_itself component = rw (eq-eqb (component_number component) (component_number component) refl, eq-eqb (component_generation component) (component_generation component) refl) refl

file_itself : (l : ListedFile) → is_file l.id l.file.component l ≡ true
file_itself l = rw (eq-eqb l.id l.id refl, same_component_itself l.file.component) refl

or_right : (a b : Bool) → b ≡ true → (a || b) ≡ true
or_right true b e = refl
or_right false b e = e

all_implies : {X : Type 0} (P Q : X → Type 0) (xs : List X) → ((x : X) → P x → Q x) → AllByRecursion P xs → AllByRecursion Q xs
all_implies P Q [] implies all = tt
all_implies P Q (x ∷ xs) implies all = (implies x all.0, all_implies P Q xs implies all.1)

abbrev Has : List ListedFile → ListedFile → Type 0
Has ls l = list_any (is_file l.id l.file.component) ls ≡ true

self_listed : (ls : List ListedFile) → AllByRecursion (Has ls) ls
self_listed [] = tt
self_listed (l ∷ ls) = (
  rw (file_itself l) refl,
  all_implies (Has ls) (Has (l ∷ ls)) ls (λ k has. or_right (is_file k.id k.file.component l) (list_any (is_file k.id k.file.component) ls) has) (self_listed ls),
)

abbrev KeepsFile : Files → Files → ListedFile → Type 0
KeepsFile a c l = c (Segment l.id l.file.component) ≡ a (Segment l.id l.file.component)

contents_kept : (ls : List ListedFile) (a c : Files) → AllByRecursion (KeepsFile a c) ls → contents_of ls c ≡ contents_of ls a
unfolding contents_of
contents_kept [] a c each = refl
contents_kept (l ∷ ls) a c each = rw (each.0, contents_kept ls a c each.1) refl

index_kept : (m : MetaState) (a c : Files) → KeepsOthers m a c → index_with m c ≡ index_with m a
unfolding index_with
index_kept m a c kept = rw (contents_kept (listed m) a c (all_implies (Has (listed m)) (KeepsFile a c) (listed m) (λ l has. kept (Segment l.id l.file.component) (ap not has)) (self_listed (listed m)))) refl

-- what keeps all but garbage keeps the index
pub kept_index : (m : MetaState) (a c : Files) → list_in (a Meta) ≡ Ok m → KeepsOthers m a c → segments_of c ≡ segments_of a
unfolding segments_of
kept_index m a c is kept =
    let meta : c Meta ≡ a Meta = kept Meta refl in
    let new : list_in (c Meta) ≡ Ok m = ap list_in meta ∙ is in
    rw (new, is) (index_kept m a c kept)

-- one removal

pub elsewhere_keeps : (m : MetaState) (name : Name) (a c : Files) → is_garbage m name ≡ true → Elsewhere name a c → KeepsOthers m a c
elsewhere_keeps m name a c garbage elsewhere other kept = elsewhere other (λ same. not_both (is_garbage m name) garbage (ap (is_garbage m) (sym same) ∙ kept))

pub removed_none : (m : MetaState) (name : Name) (a : Files) → is_garbage m name ≡ false → IsRemoved m name a a
removed_none m name a kept = record { gone = λ garbage. absurd (not_both (is_garbage m name) garbage kept); kept = λ _. refl; others = λ other differ. refl }

pub removed_one : (m : MetaState) (name : Name) (a c : Files) → is_garbage m name ≡ true → IsPut name None a c → IsRemoved m name a c
removed_one m name a c garbage put = record { gone = λ _. put.there; kept = λ kept. absurd (not_both (is_garbage m name) garbage kept); others = put.elsewhere }

pub keeps_refl : (m : MetaState) (a : Files) → KeepsOthers m a a
keeps_refl m a name kept = refl

keeps_then : (m : MetaState) (a b c : Files) → KeepsOthers m a b → KeepsOthers m b c → KeepsOthers m a c
keeps_then m a b c one two name kept = two name kept ∙ one name kept

removed_keeps : (m : MetaState) (name : Name) (a c : Files) → IsRemoved m name a c → KeepsOthers m a c
removed_keeps m name a c r other kept = ⊎_elim
    (λ same. subst (λ (x : Name). c x ≡ a x) same (r.kept (ap (is_garbage m) same ∙ kept)))
    (λ differ. r.others other differ)
    (equal_or_not name other)

-- one after the other

pub collected_none : (m : MetaState) (a : Files) → IsCollected m [] a a
collected_none m a = record { gone = λ name found garbage. absurd (nothing_in name found); kept = keeps_refl m a; shrinks = λ name. inl refl }

module _ (m : MetaState) (names : List Name) (name : Name) (old mid new : Files) (so_far : IsCollected m names old mid) (r : IsRemoved m name mid new) where
  gone_here : (other : Name) → name ≡ other → is_garbage m other ≡ true → new other ≡ None
  gone_here other same garbage = subst (λ (x : Name). new x ≡ None) same (r.gone (ap (is_garbage m) same ∙ garbage))

  still_gone : (other : Name) → is_garbage m other ≡ true → mid other ≡ None → new other ≡ None
  still_gone other garbage none = ⊎_elim (λ same. gone_here other same garbage) (λ differ. r.others other differ ∙ none) (equal_or_not name other)

  less : (other : Name) → (new other ≡ mid other) ⊎ (new other ≡ None)
  less other = ⊎_elim
      (λ garbage. ⊎_elim (λ same. inr (gone_here other same garbage)) (λ differ. inl (r.others other differ)) (equal_or_not name other))
      (λ kept. inl (removed_keeps m name mid new r other kept))
      (split (is_garbage m other))

  pub collected_more : IsCollected m (names ++ name ∷ []) old new
  collected_more = record {
    gone = λ other found garbage. ⊎_elim (λ before. still_gone other garbage (so_far.gone other before garbage)) (λ same. gone_here other same garbage) (Contains-push_cases names name other found);
    kept = keeps_then m old mid new so_far.kept (removed_keeps m name mid new r);
    shrinks = λ other. ⊎_elim (λ same. ⊎_elim (λ before. inl (same ∙ before)) (λ none. inr (same ∙ none)) (so_far.shrinks other)) (λ none. inr none) (less other);
  }

there_or_not : (found : Option (List ℕ)) → (found ≡ None) ⊎ IsSome found
there_or_not None = inl refl
there_or_not (Some bytes) = inr refl

-- all names of files were looked at
pub collected_all : (m : MetaState) (names : List Name) (old new : Files) → IsListing names old → IsCollected m names old new → HasNoGarbage m new
collected_all m names old new listing c name garbage = ⊎_elim
    (λ none. ⊎_elim (λ same. same ∙ none) (λ gone. gone) (c.shrinks name))
    (λ some. c.gone name (listing.all name some) garbage)
    (there_or_not (old name))

module _ {D : Type 0} (moment : D → ℕ) (left_since : D → ℕ → Files → Type 0) (is_known : D → Type 0) (seen : D → Files) (m : MetaState) where
  -- names that were looked at, one after the other
  pub record IsCollecting (names : List Name) (old now : D) : Type 0 where
    pub known : is_known now
    pub collected : IsCollected m names (seen old) (seen now)
    pub time : Elapses (moment old) (moment now) (left_since old) (left_since now) (KeepsOthers m (seen old))

  pub collecting_begins : (old : D) → is_known old → IsCollecting [] old old
  collecting_begins old known = record { known = known; collected = collected_none m (seen old); time = elapses_none moment left_since old (KeepsOthers m (seen old)) }

  pub collecting_time : (names : List Name) (old now new : D) → IsCollecting names old now
      → Elapses (moment now) (moment new) (left_since now) (left_since new) (KeepsOthers m (seen now))
      → Elapses (moment old) (moment new) (left_since old) (left_since new) (KeepsOthers m (seen old))
  collecting_time names old now new so_far time = elapses_then moment left_since old now new (KeepsOthers m (seen old)) (KeepsOthers m (seen now)) so_far.time time
      (λ c kept. keeps_then m (seen old) (seen now) c so_far.collected.kept kept)

  pub collecting_goes_on : (names : List Name) (name : Name) (old now new : D) → IsCollecting names old now → is_known new → IsRemoved m name (seen now) (seen new)
      → Elapses (moment now) (moment new) (left_since now) (left_since new) (KeepsOthers m (seen now))
      → IsCollecting (names ++ name ∷ []) old new
  collecting_goes_on names name old now new so_far known r time = record {
    known = known;
    collected = collected_more m names name (seen old) (seen now) (seen new) so_far.collected r;
    time = collecting_time names old now new so_far time;
  }

module _ {D : Type 0} (moment : D → ℕ) (left_since : D → ℕ → Files → Type 0) (seen : D → Files) (old : D)
    (only : (c : Files) → left_since old (moment old) c → Same (seen old) c) where
  leaves_same_list : (new : D) → Elapses (moment old) (moment new) (left_since old) (left_since new) (λ c. segments_of c ≡ segments_of (seen old)) → LeavesSameList moment left_since seen old new
  leaves_same_list new time = record {
    each = λ c left. ⊎_elim (λ before. same_segments (seen old) c (only c before)) (λ same. same) (time.nothing_else (moment old) c (omega arith) left);
    time = time;
  }

  pub same_list_none : LeavesSameList moment left_since seen old old
  same_list_none = leaves_same_list old (elapses_none moment left_since old (λ c. segments_of c ≡ segments_of (seen old)))

  pub same_list : (m : MetaState) (new : D) → list_in (seen old Meta) ≡ Ok m → Elapses (moment old) (moment new) (left_since old) (left_since new) (KeepsOthers m (seen old)) → LeavesSameList moment left_since seen old new
  same_list m new is time = leaves_same_list new (elapses_implies moment left_since old new (KeepsOthers m (seen old)) (λ c. segments_of c ≡ segments_of (seen old)) time (λ c kept. kept_index m (seen old) c is kept))

abbrev done : MetaState → Result MetaState IndexFault
done m = Ok m

-- the list of a `meta` is one
pub one_list : (m n : MetaState) (found : Result MetaState IndexFault) → found ≡ Ok m → found ≡ Ok n → m ≡ n
one_list m n found is is_too =
    let e : done m ≡ done n = sym is ∙ is_too in
    cc

-- what loops over listed files find

any_flat : {X Y : Type 0} (p : Y → Bool) (f : X → List Y) (xs : List X) → list_any p (flat_map f xs) ≡ list_any (λ x. list_any p (f x)) xs
any_flat p f [] = refl
any_flat p f (x ∷ xs) = ap (list_any p) (flat_map-cons f x xs) ∙ list_any-append p (f x) (flat_map f xs) ∙ ap (λ (b : Bool). list_any p (f x) || b) (any_flat p f xs)

any_and : {X : Type 0} (b : Bool) (p : X → Bool) (xs : List X) → list_any (λ x. b && p x) xs ≡ (b && list_any p xs)
any_and true p xs = refl
any_and false p [] = refl
any_and false p (x ∷ xs) = any_and false p xs

pub file_of_segment : (s : SegmentState) (id : ℕ) (component : SegmentComponent)
    → ((s.id == id) && list_any (λ (f : FileMeta). same_component f.component component) s.files) ≡ list_any (is_file id component) (files_of_segment s)
file_of_segment s id component = sym (
    list_any-map (is_file id component) (λ (f : FileMeta). record { id = s.id; file = f }) s.files
    ∙ any_and (s.id == id) (λ (f : FileMeta). same_component f.component component) s.files
    )

module _ (id : ℕ) (component : SegmentComponent) (xs : List SegmentMeta) where
  -- whether a segment in memory has the file
  abbrev pub here : SegmentMeta → Bool
  here s = list_any (is_file id component) (files_of_segment (segment_view s))

  all_here : list_any (is_file id component) (flat_map files_of_segment (map segment_view xs)) ≡ list_any here xs
  all_here = any_flat (is_file id component) files_of_segment (map segment_view xs) ∙ list_any-map (λ (s : SegmentState). list_any (is_file id component) (files_of_segment s)) segment_view xs

  pub has_here : (i : ℕ) (x : SegmentMeta) → i < length xs → x ≡ get_or xs i x → true ≡ here x → true ≡ list_any (is_file id component) (flat_map files_of_segment (map segment_view xs))
  has_here i x lt is found = sym (all_here ∙ list_any_at here xs i x lt (ap here (sym is) ∙ sym found))

  pub has_none : (i : ℕ) → length xs ≤ i → list_any here (take i xs) ≡ false → false ≡ list_any (is_file id component) (flat_map files_of_segment (map segment_view xs))
  has_none i le none = sym (all_here ∙ ap (list_any here) (sym (take_all i xs le)) ∙ none)

-- one more name was counted
pub counted_more : (m : MetaState) (names : List Name) (i : ℕ) (d : Name) (removed count : ℕ) → i < length names → removed ≡ count_by (is_garbage m) (take i names)
    → count ≡ cond (is_garbage m (get_or names i d)) 1 0 → removed + count ≡ count_by (is_garbage m) (take (i + 1) names)
counted_more m names i d removed count lt so_far one = ⊎_elim
    (λ garbage. let e : count ≡ 1 = one ∙ ap (λ (b : Bool). cond b 1 0) garbage in omega (arith, so_far, e, count_by_more_yes (is_garbage m) names i d lt garbage))
    (λ kept. let e : count ≡ 0 = one ∙ ap (λ (b : Bool). cond b 1 0) kept in omega (arith, so_far, e, count_by_more_no (is_garbage m) names i d lt kept))
    (split (is_garbage m (get_or names i d)))
