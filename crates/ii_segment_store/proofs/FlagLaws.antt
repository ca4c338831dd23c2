-- The files of a segment with other flags.
use Rattle.std.proofs.Common.{◌≡◌, ◌≢◌, ℕ, ◌<◌, ◌≤◌, ◌==◌, Bool, true, false, List, [], ◌∷◌, ◌++◌, Option, None, Some, nat_lt, refl, sym, ◌∙◌, arith, if◌then◌else◌}
use Rattle.std.specs.Prelude.{filter}
use Rattle.std.specs.List.{find}
use Rattle.std.specs.Option.{option_or}
use Rattle.std.proofs.lemmas.Bool.{and_parts, eq-eqb, eqb-true, le-ltb, lt-ltb, ne_eqb}
use Rattle.std.proofs.lemmas.List.Folds.{find-append}
use Rattle.ii_store.specs.declared.index_meta.FileMeta.{FileMeta}
use Rattle.ii_directory.specs.declared.name.SegmentComponent.{SegmentComponent}
use Rattle.ii_directory.specs.Names.{component_generation, component_number, same_component}
use Rattle.ii_segment_store.specs.Changes.{files_with_flags, latest_file}
use Rattle.ii_segment_store.specs.Contents.{alive_file, file_of}

-- a filter that keeps all files of a kind, and one that keeps none

kept_one : (p : FileMeta → Bool) (f : FileMeta) (fs kept : List FileMeta) (b c : Bool) → p f ≡ b → (b ≡ true → c ≡ true) → find p kept ≡ find p fs → find p (if c then f ∷ kept else kept) ≡ find p (f ∷ fs)
kept_one p f fs kept true true is keeps rest = rw is refl
kept_one p f fs kept true false is keeps rest = let wrong : false ≡ true = keeps refl in absurd cc
kept_one p f fs kept false true is keeps rest = rw is rest
kept_one p f fs kept false false is keeps rest = rest ∙ sym (rw is refl)

find_kept : (p q : FileMeta → Bool) → ((f : FileMeta) → p f ≡ true → q f ≡ true) → (fs : List FileMeta) → find p (filter q fs) ≡ find p fs
find_kept p q keeps [] = refl
find_kept p q keeps (f ∷ fs) = kept_one p f fs (filter q fs) (p f) (q f) refl (keeps f) (find_kept p q keeps fs)

lost_one : (p : FileMeta → Bool) (f : FileMeta) (kept : List FileMeta) (b c : Bool) → p f ≡ b → (b ≡ true → c ≡ false) → find p kept ≡ None → find p (if c then f ∷ kept else kept) ≡ None
lost_one p f kept true true is loses rest = let wrong : true ≡ false = loses refl in absurd cc
lost_one p f kept true false is loses rest = rest
lost_one p f kept false true is loses rest = rw is rest
lost_one p f kept false false is loses rest = rest

find_lost : (p q : FileMeta → Bool) → ((f : FileMeta) → p f ≡ true → q f ≡ false) → (fs : List FileMeta) → find p (filter q fs) ≡ None
find_lost p q loses [] = refl
find_lost p q loses (f ∷ fs) = lost_one p f (filter q fs) (p f) (q f) refl (loses f) (find_lost p q loses fs)

-- the files before the flags, and those after them

abbrev before : FileMeta → Bool
before f = nat_lt (component_number f.component) 5

abbrev after : FileMeta → Bool
after f = nat_lt 5 (component_number f.component)

abbrev is : SegmentComponent → FileMeta → Bool
is component f = same_component f.component component

number_of : (component : SegmentComponent) (f : FileMeta) → is component f ≡ true → component_number f.component ≡ component_number component
number_of component f same =
    let parts = and_parts (component_number f.component == component_number component) (component_generation f.component == component_generation component) same in
    eqb-true (component_number f.component) (component_number component) parts.0

differs : (component : SegmentComponent) (f : FileMeta) → component_number f.component ≡ 5 → component_number component ≢ 5 → is component f ≡ false
differs component f five differ = rw (ne_eqb (component_number f.component) (component_number component) (λ same. differ (sym same ∙ five))) refl

or_none : (found : Option FileMeta) → option_or found None ≡ found
or_none None = refl
or_none (Some f) = refl

module _ (component : SegmentComponent) (x : FileMeta) (fs : List FileMeta) (five : component_number x.component ≡ 5) where
  parts : (differ : component_number component ≢ 5) → file_of component (files_with_flags x fs) ≡ option_or (find (is component) (filter before fs)) (find (is component) (filter after fs))
  parts differ = find-append (is component) (filter before fs) (x ∷ filter after fs) ∙ rw (differs component x five differ) refl

  -- the file of another component is the same
  pub finds_before : component_number component < 5 → file_of component (files_with_flags x fs) ≡ file_of component fs
  finds_before lt =
      let front = find_kept (is component) before (λ f same. lt-ltb (component_number f.component) 5 (omega (arith, lt, number_of component f same))) fs in
      let back = find_lost (is component) after (λ f same. le-ltb 5 (component_number f.component) (omega (arith, lt, number_of component f same))) fs in
      parts (λ e. omega (arith, lt, e)) ∙ rw (front, back) (or_none (find (is component) fs))

  pub finds_after : 5 < component_number component → file_of component (files_with_flags x fs) ≡ file_of component fs
  finds_after lt =
      let front = find_lost (is component) before (λ f same. le-ltb (component_number f.component) 5 (omega (arith, lt, number_of component f same))) fs in
      let back = find_kept (is component) after (λ f same. lt-ltb 5 (component_number f.component) (omega (arith, lt, number_of component f same))) fs in
      parts (λ e. omega (arith, lt, e)) ∙ rw (front, back) refl

abbrev is_flags : FileMeta → Bool
is_flags f = component_number f.component == 5

-- the flags are the other ones
pub finds_flags : (x : FileMeta) (fs : List FileMeta) → component_number x.component ≡ 5 → alive_file (files_with_flags x fs) ≡ Some x
finds_flags x fs five =
    let front = find_lost is_flags before (λ f e. le-ltb (component_number f.component) 5 (omega (arith, eqb-true (component_number f.component) 5 e))) fs in
    find-append is_flags (filter before fs) (x ∷ filter after fs) ∙ rw (front, eq-eqb (component_number x.component) 5 five) refl

-- the generations of files

latest_one : (g : ℕ) (f : FileMeta) (kept : List FileMeta) (c : Bool) → component_generation f.component ≤ g → latest_file kept ≤ g → latest_file (if c then f ∷ kept else kept) ≤ g
latest_one g f kept true le rest = omega (arith, le, rest)
latest_one g f kept false le rest = rest

latest_kept : (q : FileMeta → Bool) (g : ℕ) (fs : List FileMeta) → latest_file fs ≤ g → latest_file (filter q fs) ≤ g
latest_kept q g [] le = omega arith
latest_kept q g (f ∷ fs) le = latest_one g f (filter q fs) (q f) (omega (arith, le)) (latest_kept q g fs (omega (arith, le)))

latest_both : (g : ℕ) (fs hs : List FileMeta) → latest_file fs ≤ g → latest_file hs ≤ g → latest_file (fs ++ hs) ≤ g
latest_both g [] hs one two = two
latest_both g (f ∷ fs) hs one two = omega (arith, one, latest_both g fs hs (omega (arith, one)) two)

pub latest_with_flags : (g : ℕ) (x : FileMeta) (fs : List FileMeta) → component_generation x.component ≤ g → latest_file fs ≤ g → latest_file (files_with_flags x fs) ≤ g
latest_with_flags g x fs one le =
    let back : latest_file (x ∷ filter after fs) ≤ g = omega (arith, one, latest_kept after g fs le) in
    latest_both g (filter before fs) (x ∷ filter after fs) (latest_kept before g fs le) back
