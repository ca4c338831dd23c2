-- What a check of an index reports, and which errors remain after it.
use Rattle.std.proofs.Common.{◌≡◌, ◌∙◌, ◌+◌, ◌<◌, ℕ, zero, suc, List, [], ◌∷◌, length, Option, None, Some, Result, Ok, Err, zero-add, inl, inr, refl, sym, ap, subst, arith}
use Rattle.std.specs.Prelude.{◌⊎◌, IfErr, IfNone, IfOk, IfSome, IsOk, IsSomeAnd, slice_get}
use Rattle.std.specs.List.{All, cons_option, enumerate_from, filter_map}
use Rattle.std.specs.Option.{option_map}
use Rattle.std.specs.Result.{result_err}
use Rattle.std.proofs.lemmas.Option.{get_or_from_slice_get}
use Rattle.ii_io.specs.declared.faults.Fault.{Fault}
use Rattle.ii_io.specs.declared.faults.Fault.TheVariants.{OutOfMemory}
use Rattle.ii_io.specs.declared.faults.Part.{Part}
use Rattle.ii_base.specs.Entries.{Entry}
use Rattle.ii_base.specs.declared.schema.index_record_option.IndexRecordOption.{IndexRecordOption}
use Rattle.ii_termdict.specs.Dictionary.{TermEntry, info_under}
use Rattle.ii_reader.specs.declared.damage.DamagedTerm.{DamagedTerm}
use Rattle.ii_reader.specs.Damage.{damage_of, damage_of_field, damaged_term, first_damaged_field, first_damaged_term, index_after}
use Rattle.ii_reader.specs.InvertedIndexReader.{AllOpen, InvertedIndexReaderState, IsRefusal, term_of_file}
use Rattle.ii_reader.specs.OpenIndex.{OpenIndexState, trusted_index}

-- An element at a place is the first that gives something, and gives this.
record IsFirst {X Y : Type 0} (f : ℕ × X → Option Y) (n : ℕ) (xs : List X) (y : Y) : Type 0 where
  place : ℕ
  element : X
  is_there : slice_get xs place ≡ Some element
  gives : f (n + place, element) ≡ Some y
  before : (j : ℕ) (z : X) → j < place → slice_get xs j ≡ Some z → f (n + j, z) ≡ None

module _ {X Y : Type 0} (f : ℕ × X → Option Y) where
  first_later : (n : ℕ) (x : X) (xs : List X) (y : Y) → f (n, x) ≡ None → IsFirst f (n + 1) xs y → IsFirst f n (x ∷ xs) y
  first_later n x xs y none first = record {
    place = suc first.place;
    element = first.element;
    is_there = first.is_there;
    gives = subst (λ (m : ℕ). f (m, first.element) ≡ Some y) (omega arith) first.gives;
    before = others;
  }
    where
      others : (j : ℕ) (z : X) → j < suc first.place → slice_get (x ∷ xs) j ≡ Some z → f (n + j, z) ≡ None
      others zero z low at = let same : x ≡ z = cc in rw (← same) (subst (λ (m : ℕ). f (m, x) ≡ None) (omega arith) none)
      others (suc j) z low at = subst (λ (m : ℕ). f (m, z) ≡ None) (omega arith) (first.before j z (omega (arith, low)) at)

  first_is : (n : ℕ) (xs : List X) (y : Y) → slice_get (filter_map f (enumerate_from n xs)) 0 ≡ Some y → IsFirst f n xs y
  first_is n [] y is = absurd (cc)
  first_is n (x ∷ xs) y is = by_case (f (n, x)) refl (first_is (n + 1) xs y) is
    where
      by_case : (o : Option Y) → f (n, x) ≡ o → (slice_get (filter_map f (enumerate_from (n + 1) xs)) 0 ≡ Some y → IsFirst f (n + 1) xs y)
          → slice_get (cons_option o (filter_map f (enumerate_from (n + 1) xs))) 0 ≡ Some y → IsFirst f n (x ∷ xs) y
      by_case None gives later is = first_later n x xs y gives (later is)
      by_case (Some found) gives later is = record {
        place = 0;
        element = x;
        is_there = refl;
        gives = subst (λ (m : ℕ). f (m, x) ≡ Some y) (omega arith) (gives ∙ is);
        before = λ j z low at. absurd (omega (arith, low));
      }

-- a reported list is damaged in that part, and any other list opens
told_part : (ord : ℕ) (found : Result (List Entry) Part) (term : DamagedTerm) → option_map (damaged_term ord) (result_err found) ≡ Some term → (ord ≡ term.ord) × (found ≡ Err term.part)
told_part ord (Ok es) term is = absurd (cc)
told_part ord (Err part) term is =
    let same : damaged_term ord part ≡ term = cc in
    (ap (λ (t : DamagedTerm). t.ord) same, ap (λ (t : DamagedTerm). Err t.part) same)

untold : (ord : ℕ) (found : Result (List Entry) Part) → option_map (damaged_term ord) (result_err found) ≡ None → IsOk found
untold ord (Ok es) is = refl
untold ord (Err part) is = absurd (cc)

abbrev under_field : ℕ → DamagedTerm → ℕ × DamagedTerm
under_field field term = (field, term)

told_field : (field : ℕ) (o : Option DamagedTerm) (d : ℕ × DamagedTerm) → option_map (under_field field) o ≡ Some d → (field ≡ d.0) × (o ≡ Some d.1)
told_field field None d is = absurd (cc)
told_field field (Some term) d is = let same : under_field field term ≡ d = cc in (ap (λ (p : ℕ × DamagedTerm). p.0) same, ap (λ (p : ℕ × DamagedTerm). Some p.1) same)

untold_field : (field : ℕ) (o : Option DamagedTerm) → option_map (under_field field) o ≡ None → o ≡ None
untold_field field None is = refl
untold_field field (Some term) is = absurd (cc)

module _ {X Y : Type 0} (f : ℕ × X → Option Y) where
  none_is : (n : ℕ) (xs : List X) → slice_get (filter_map f (enumerate_from n xs)) 0 ≡ None → (j : ℕ) (z : X) → slice_get xs j ≡ Some z → f (n + j, z) ≡ None
  none_is n [] is = λ j z at. absurd (cc)
  none_is n (x ∷ xs) is = by_case (f (n, x)) refl (none_is (n + 1) xs) is
    where
      by_case : (o : Option Y) → f (n, x) ≡ o → (slice_get (filter_map f (enumerate_from (n + 1) xs)) 0 ≡ None → (j : ℕ) (z : X) → slice_get xs j ≡ Some z → f (n + 1 + j, z) ≡ None)
          → slice_get (cons_option o (filter_map f (enumerate_from (n + 1) xs))) 0 ≡ None → (j : ℕ) (z : X) → slice_get (x ∷ xs) j ≡ Some z → f (n + j, z) ≡ None
      by_case (Some found) gives later is j z at = absurd (cc)
      by_case None gives later is zero z at = let same : x ≡ z = cc in rw (← same) (subst (λ (m : ℕ). f (m, x) ≡ None) (omega arith) gives)
      by_case None gives later is (suc j) z at = subst (λ (m : ℕ). f (m, z) ≡ None) (omega arith) (later is j z at)

abbrev pub OpensAt : InvertedIndexReaderState → TermEntry → Type 0
OpensAt reader e = IsOk (term_of_file reader reader.option e.1)

-- a field and a term come before others
abbrev pub IsBefore : ℕ → ℕ → ℕ × DamagedTerm → Type 0
IsBefore field ord d = (field < d.0) ⊎ ((field ≡ d.0) × (ord < d.1.ord))

abbrev IsToldAt : List InvertedIndexReaderState → ℕ × DamagedTerm → Type 0
IsToldAt readers d = IsSomeAnd (slice_get readers d.0) (λ (reader : InvertedIndexReaderState). IsSomeAnd (slice_get reader.terms d.1.ord) (λ (e : TermEntry). term_of_file reader reader.option e.1 ≡ Err d.1.part))

there : {A : Type 0} (o : Option A) (x : A) (P : A → Type 0) → o ≡ Some x → P x → IsSomeAnd o P
there None x P is holds = absurd (cc)
there (Some y) x P is holds = let same : y ≡ x = cc in rw same holds

told_at : (readers : List InvertedIndexReaderState) (d : ℕ × DamagedTerm) → first_damaged_field readers ≡ Some d → IsToldAt readers d
told_at readers d is =
    let field = first_is damage_of_field 0 readers d is in
    let at_field = told_field (0 + field.place) (first_damaged_term field.element) d field.gives in
    let term = first_is (damage_of field.element) 0 field.element.terms d.1 at_field.1 in
    let at_term = told_part (0 + term.place) (term_of_file field.element field.element.option term.element.1) d.1 term.gives in
    let field_is : field.place ≡ d.0 = sym (zero-add field.place) ∙ at_field.0 in
    let term_is : term.place ≡ d.1.ord = sym (zero-add term.place) ∙ at_term.0 in
    there (slice_get readers d.0) field.element _ (ap (slice_get readers) (sym field_is) ∙ field.is_there) (there (slice_get field.element.terms d.1.ord) term.element _ (ap (slice_get field.element.terms) (sym term_is) ∙ term.is_there) at_term.1)

-- what is reported is damaged
pub told_place : (readers : List InvertedIndexReaderState) (answer : Result (Option (ℕ × DamagedTerm)) Fault) → IfOk answer (λ damage. damage ≡ first_damaged_field readers) → IfOk answer (λ damage. IfSome damage (IsToldAt readers))
told_place readers (Ok None) is = tt
told_place readers (Ok (Some d)) is = told_at readers d (sym is)
told_place readers (Err fault) is = tt

before_told : (readers : List InvertedIndexReaderState) (d : ℕ × DamagedTerm) → first_damaged_field readers ≡ Some d → (field : ℕ) (reader : InvertedIndexReaderState) (ord : ℕ) (e : TermEntry)
    → slice_get readers field ≡ Some reader → slice_get reader.terms ord ≡ Some e → IsBefore field ord d → OpensAt reader e
before_told readers d is field reader ord e at term_at (inl low) =
    let first = first_is damage_of_field 0 readers d is in
    let told = told_field (0 + first.place) (first_damaged_term first.element) d first.gives in
    let none = untold_field (0 + field) (first_damaged_term reader) (first.before field reader (omega (arith, low, told.0)) at) in
    untold (0 + ord) (term_of_file reader reader.option e.1) (none_is (damage_of reader) 0 reader.terms none ord e term_at)
before_told readers d is field reader ord e at term_at (inr (same, low)) =
    let first = first_is damage_of_field 0 readers d is in
    let told = told_field (0 + first.place) (first_damaged_term first.element) d first.gives in
    let place : field ≡ first.place = same ∙ sym told.0 ∙ zero-add first.place in
    let there : slice_get readers first.place ≡ Some reader = rw (← place) at in
    let reader_is : first.element ≡ reader = (let f : Some first.element ≡ Some reader = sym first.is_there ∙ there in cc) in
    let here : first_damaged_term reader ≡ Some d.1 = rw (← reader_is) told.1 in
    let term = first_is (damage_of reader) 0 reader.terms d.1 here in
    let at_term = told_part (0 + term.place) (term_of_file reader reader.option term.element.1) d.1 term.gives in
    untold (0 + ord) (term_of_file reader reader.option e.1) (term.before ord e (omega (arith, low, at_term.0)) term_at)

-- and nothing before it is
pub told_first : (readers : List InvertedIndexReaderState) (answer : Result (Option (ℕ × DamagedTerm)) Fault) → IfOk answer (λ damage. damage ≡ first_damaged_field readers)
    → IfOk answer (λ damage. IfSome damage (λ d. (field : ℕ) (reader : InvertedIndexReaderState) (ord : ℕ) (e : TermEntry) → slice_get readers field ≡ Some reader → slice_get reader.terms ord ≡ Some e → IsBefore field ord d → OpensAt reader e))
told_first readers (Ok None) is = tt
told_first readers (Ok (Some d)) is = before_told readers d (sym is)
told_first readers (Err fault) is = tt

-- a term that opens fails only with `OutOfMemory`
not_refused : (found : Result (List Entry) Part) (fault : Fault) → IsOk found → IsRefusal found fault → fault ≡ OutOfMemory
not_refused found fault opens (inl memory) = memory
not_refused (Ok es) fault opens (inr (part, is, err)) = absurd (cc)
not_refused (Err other) fault opens (inr (part, is, err)) = absurd (cc)

-- a lookup fails only with `OutOfMemory` if each term opens
pub look_up_opens : {A : Type 0} (reader : InvertedIndexReaderState) (key : List ℕ) (requested : IndexRecordOption) (answer : Result (Option A) Fault) → AllOpen reader
    → IfNone (info_under key reader.terms) (answer ≡ Ok None) → IfSome (info_under key reader.terms) (λ info. IfErr answer (IsRefusal (term_of_file reader requested info))) → IfErr answer (λ fault. fault ≡ OutOfMemory)
look_up_opens reader key requested answer all none err = by_case (term_of_file reader requested) (info_under key reader.terms) answer (all key requested) none err
  where
    by_case : {I A : Type 0} (list : I → Result (List Entry) Part) (o : Option I) (a : Result (Option A) Fault) → IfSome o (λ info. IsOk (list info)) → IfNone o (a ≡ Ok None) → IfSome o (λ info. IfErr a (IsRefusal (list info))) → IfErr a (λ fault. fault ≡ OutOfMemory)
    by_case list o (Ok found) opens none err = tt
    by_case list None (Err fault) opens none err = absurd (cc)
    by_case list (Some info) (Err fault) opens none err = not_refused (list info) fault opens err

-- the reader of a field, of readers for each of which something holds
pub field_is : (P : InvertedIndexReaderState → Type 0) (readers : List InvertedIndexReaderState) (field : ℕ) (reader : InvertedIndexReaderState) → All P readers → slice_get readers field ≡ Some reader → P reader
field_is P readers field reader all at = subst P (get_or_from_slice_get readers field reader reader at) (all field reader (below readers field reader at))
  where
    below : (rs : List InvertedIndexReaderState) (k : ℕ) (r : InvertedIndexReaderState) → slice_get rs k ≡ Some r → k < length rs
    below [] k r at = absurd (cc)
    below (x ∷ rs) zero r at = omega arith
    below (x ∷ rs) (suc k) r at = let low = below rs k r at in omega (arith, low)

pub field_opens : (readers : List InvertedIndexReaderState) (field : ℕ) (reader : InvertedIndexReaderState) → All AllOpen readers → slice_get readers field ≡ Some reader → AllOpen reader
field_opens readers field reader all at = field_is AllOpen readers field reader all at

-- an index after a check
pub trusted_after : (old new : OpenIndexState) (r : Result (Option (ℕ × DamagedTerm)) Fault) → IfOk r (λ damage. new ≡ index_after damage old) → IfOk r (λ damage. damage ≡ None → new ≡ trusted_index old)
trusted_after old new (Ok None) is = λ none. is
trusted_after old new (Ok (Some damage)) is = λ none. absurd (cc)
trusted_after old new (Err fault) is = tt

pub kept_after : (old new : OpenIndexState) (r : Result (Option (ℕ × DamagedTerm)) Fault) → IfOk r (λ damage. new ≡ index_after damage old) → IfOk r (λ damage. IfSome damage (λ d. new ≡ old))
kept_after old new (Ok None) is = tt
kept_after old new (Ok (Some damage)) is = is
kept_after old new (Err fault) is = tt
