-- The paths and types of ascending keys ascend too.
use Rattle.std.proofs.Common.{◌≡◌, ℕ, zero, suc, ◌+◌, ◌<◌, ◌⊎◌, Bool, true, false, not, List, [], ◌∷◌, ◌++◌, length, map, nat_eq, Option, None, Some, inl, inr, refl, sym, ap, subst, ◌∙◌, arith, Ordering, Less, Equal, Greater}
use Rattle.std.specs.Prelude.{slice_get}
use Rattle.std.specs.Cmp.{nat_cmp_is, ranked}
use Rattle.std.specs.Cmp.Lexicographic.{slice_cmp}
use Rattle.std.specs.List.{AllByRecursion, find}
use Rattle.std.specs.List.Sorted.{IsStrictlySortedBy}
use Rattle.std.specs.Ordering.{nat_cmp, ordering_then}
use Rattle.std.proofs.lemmas.Bool.{eq-eqb, eqb-true}
use Rattle.std.proofs.lemmas.Slice.Eq.{bytes_eq-Decides}
use Rattle.ii_termdict.specs.Dictionary.{TermEntry, entry_keys}
use Rattle.ii_termdict.specs.ReadBack.{AreAscending}
use Rattle.ii_termstore.specs.declared.term_info.TermInfo.{TermInfo}
use Rattle.std.proofs.lemmas.Cmp.{nat_list_cmp_total}
use Rattle.std.proofs.lemmas.List.Sums.{take_while-cons}
use Rattle.ii_io.specs.Steps.{◌>>=◌}
use Rattle.ii_base.specs.ValueTypes.{code_of}
use Rattle.ii_base.specs.declared.schema.value_type.ValueType.{ValueType}
use Rattle.ii_base.specs.declared.schema.value_type.ValueType.TheVariants.{Str, U64, I64, Bool as Truth, Date, Bytes, Json, IpAddr}
use Rattle.ii_definitions.specs.JsonKeys.{is_path_byte, path_in, type_in, type_of_code}
use Rattle.ii_reader.specs.JsonFields.{FieldSpaceState, is_same_label, label_of, space_of_term, spaces_of, with_space}
use Rattle.ii_reader.proofs.JsonLemmas.{label_is}

found_passes : {A : Type 0} (test : A → Bool) (xs : List A) (x : A) → find test xs ≡ Some x → test x ≡ true
found_passes test [] x is = absurd (cc)
found_passes test (y ∷ ys) x is = by (test y) refl (found_passes test ys x)
  where
    by : (b : Bool) → test y ≡ b → (find test ys ≡ Some x → test x ≡ true) → test x ≡ true
    by true passed later = let same : y ≡ x = let h = rw passed at is in cc in ap test (sym same) ∙ passed
    by false other later = later (rw other at is)

code_found : (code : ℕ) (t : ValueType) → type_of_code code ≡ Some t → code_of t ≡ code
code_found code t is = eqb-true (code_of t) code (found_passes (λ (u : ValueType). nat_eq (code_of u) code) (Str ∷ U64 ∷ I64 ∷ Truth ∷ Date ∷ Bytes ∷ Json ∷ IpAddr ∷ []) t is)

abbrev IsPath : List ℕ → Type 0
IsPath path = AllByRecursion (λ b. is_path_byte b ≡ true) path

-- A key is a path without byte 0, a byte 0, the letter of a type, and more.
record HasLabel (key path : List ℕ) (code : ℕ) : Type 0 where
  is_path : IsPath path
  payload : List ℕ
  key_is : key ≡ path ++ 0 ∷ code ∷ payload

zero_byte : (b : ℕ) → is_path_byte b ≡ false → b ≡ 0
zero_byte b is = eqb-true b 0 (by (nat_eq b 0) is)
  where
    by : (c : Bool) → not c ≡ false → c ≡ true
    by true h = refl
    by false h = absurd (cc)

shifted : (b : ℕ) (bs : List ℕ) (n : ℕ) → slice_get (b ∷ bs) (suc n + 1) ≡ slice_get bs (n + 1)
shifted b bs n = ap (slice_get (b ∷ bs)) (let next : suc n + 1 ≡ suc (n + 1) = omega arith in next)

at_zero : (b : ℕ) (bs : List ℕ) (t : ValueType) → b ≡ 0 → (slice_get bs 0 >>= type_of_code) ≡ Some t → HasLabel (b ∷ bs) [] (code_of t)
at_zero b [] t at is = absurd (cc)
at_zero b (code ∷ payload) t at is = record { is_path = tt; payload = payload; key_is = rw (at, code_found code t is) refl }

has_label : (key : List ℕ) (t : ValueType) → type_in key ≡ Some t → HasLabel key (path_in key) (code_of t)
unfolding type_in
has_label [] t is = absurd (cc)
has_label (b ∷ bs) t is = by (is_path_byte b) refl (has_label bs t)
  where
    by : (c : Bool) → is_path_byte b ≡ c → ((slice_get bs (length (path_in bs) + 1) >>= type_of_code) ≡ Some t → HasLabel bs (path_in bs) (code_of t)) → HasLabel (b ∷ bs) (path_in (b ∷ bs)) (code_of t)
    by true of_path more =
        let path : path_in (b ∷ bs) ≡ b ∷ path_in bs = take_while-cons is_path_byte b bs ∙ rw of_path refl in
        let later : (slice_get bs (length (path_in bs) + 1) >>= type_of_code) ≡ Some t = ap (λ (o : Option ℕ). o >>= type_of_code) (sym (shifted b bs (length (path_in bs)))) ∙ (rw path at is) in
        let rest = more later in
        rw path (record { is_path = (of_path, rest.is_path); payload = rest.payload; key_is = ap (λ (ks : List ℕ). b ∷ ks) rest.key_is })
    by false other more =
        let path : path_in (b ∷ bs) ≡ [] = take_while-cons is_path_byte b bs ∙ rw other refl in
        rw path (at_zero b bs t (zero_byte b other) (rw path at is))

not_zero : (h : ℕ) → is_path_byte h ≡ true → 0 < h
not_zero zero is = absurd (cc)
not_zero (suc h) is = omega arith

-- keys in order have the same label, or labels in order
ordered : (p q : List ℕ) → IsPath p → IsPath q → (c d : ℕ) (x y : List ℕ) → slice_cmp nat_cmp (p ++ 0 ∷ c ∷ x) (q ++ 0 ∷ d ∷ y) ≡ Less
    → ((p ≡ q) × (c ≡ d)) ⊎ (slice_cmp nat_cmp (p ++ 0 ∷ c ∷ []) (q ++ 0 ∷ d ∷ []) ≡ Less)
ordered [] [] pp pq c d x y less = by (nat_cmp c d) refl less
  where
    p_none : List ℕ
    p_none = []

    by : (o : Ordering) → nat_cmp c d ≡ o → ordering_then o (slice_cmp nat_cmp x y) ≡ Less → ((p_none ≡ p_none) × (c ≡ d)) ⊎ (slice_cmp nat_cmp (0 ∷ c ∷ []) (0 ∷ d ∷ []) ≡ Less)
    by Less is h = inr (rw is refl)
    by Equal is h = inl (refl, ranked c d Equal (sym is))
    by Greater is h = absurd (cc)
ordered [] (h ∷ q) pp pq c d x y less = inr (rw (sym (nat_cmp_is 0 h Less (not_zero h pq.0))) refl)
ordered (h ∷ p) [] pp pq c d x y less = absurd (let greater = sym (nat_cmp_is h 0 Greater (not_zero h pp.0)) in let not = rw greater at less in cc)
ordered (h ∷ p) (g ∷ q) pp pq c d x y less = by (nat_cmp h g) refl less (ordered p q pp.1 pq.1 c d x y)
  where
    by : (o : Ordering) → nat_cmp h g ≡ o → ordering_then o (slice_cmp nat_cmp (p ++ 0 ∷ c ∷ x) (q ++ 0 ∷ d ∷ y)) ≡ Less
        → (slice_cmp nat_cmp (p ++ 0 ∷ c ∷ x) (q ++ 0 ∷ d ∷ y) ≡ Less → ((p ≡ q) × (c ≡ d)) ⊎ (slice_cmp nat_cmp (p ++ 0 ∷ c ∷ []) (q ++ 0 ∷ d ∷ []) ≡ Less)) → ((h ∷ p ≡ g ∷ q) × (c ≡ d)) ⊎ (slice_cmp nat_cmp (h ∷ p ++ 0 ∷ c ∷ []) (g ∷ q ++ 0 ∷ d ∷ []) ≡ Less)
    by Less is l more = inr (rw is refl)
    by Equal is l more = rest (more l)
      where
        rest : ((p ≡ q) × (c ≡ d)) ⊎ (slice_cmp nat_cmp (p ++ 0 ∷ c ∷ []) (q ++ 0 ∷ d ∷ []) ≡ Less) → ((h ∷ p ≡ g ∷ q) × (c ≡ d)) ⊎ (slice_cmp nat_cmp (h ∷ p ++ 0 ∷ c ∷ []) (g ∷ q ++ 0 ∷ d ∷ []) ≡ Less)
        rest (inl same) = inl (cc (ranked h g Equal (sym is), same.0), same.1)
        rest (inr l) = inr (rw is l)
    by Greater is l more = absurd (cc)

same_or_below : (k l : List ℕ) (i j : TermInfo) (t u : ValueType) → type_in k ≡ Some t → type_in l ≡ Some u → slice_cmp nat_cmp k l ≡ Less
    → is_same_label (space_of_term k i t) (space_of_term l j u) ≡ false → slice_cmp nat_cmp (label_of (space_of_term k i t)) (label_of (space_of_term l j u)) ≡ Less
same_or_below k l i j t u tk tl less other =
    let a = has_label k t tk in
    let b = has_label l u tl in
    by (ordered (path_in k) (path_in l) a.is_path b.is_path (code_of t) (code_of u) a.payload b.payload (rw (a.key_is, b.key_is) at less))
  where
    by : ((path_in k ≡ path_in l) × (code_of t ≡ code_of u)) ⊎ (slice_cmp nat_cmp (path_in k ++ 0 ∷ code_of t ∷ []) (path_in l ++ 0 ∷ code_of u ∷ []) ≡ Less) → slice_cmp nat_cmp (path_in k ++ 0 ∷ code_of t ∷ []) (path_in l ++ 0 ∷ code_of u ∷ []) ≡ Less
    by (inl same) = absurd (let one = (bytes_eq-Decides (path_in k) (path_in l)).1 same.0 in let two = eq-eqb (code_of t) (code_of u) same.1 in let h = rw (one, two) at other in cc)
    by (inr l) = l

all_above : (a b : List ℕ) (ys : List (List ℕ)) → slice_cmp nat_cmp a b ≡ Less → AllByRecursion (λ y. slice_cmp nat_cmp b y ≡ Less) ys → AllByRecursion (λ y. slice_cmp nat_cmp a y ≡ Less) ys
all_above a b [] less h = tt
all_above a b (y ∷ ys) less h = (nat_list_cmp_total.trans a b y less h.0, all_above a b ys less h.1)

-- The first path and type are those of the first key.
record IsOfKey (key : List ℕ) (s : FieldSpaceState) : Type 0 where
  name : s.field_name ≡ path_in key
  typed : type_in key ≡ Some s.field_type

FirstIs : List TermEntry → List FieldSpaceState → Type 0
FirstIs [] spaces = spaces ≡ []
FirstIs (e ∷ es) [] = ⊥
FirstIs (e ∷ es) (s ∷ ss) = IsOfKey e.0 s

module _ (key : List ℕ) (info : TermInfo) (t : ValueType) (typed : type_in key ≡ Some t) where
  abbrev one : FieldSpaceState
  one = space_of_term key info t

  put_first : (e : TermEntry) (es : List TermEntry) (u : FieldSpaceState) (us : List FieldSpaceState) → slice_cmp nat_cmp key e.0 ≡ Less → IsOfKey e.0 u → AreAscending (map label_of (u ∷ us)) → (b : Bool) → is_same_label one u ≡ b
      → AreAscending (map label_of (with_space one (u ∷ us))) × FirstIs ((key, info) ∷ e ∷ es) (with_space one (u ∷ us))
  unfolding IsStrictlySortedBy FirstIs
  put_first e es u us less of h true same =
      let is = label_is one u same in
      let label : label_of one ≡ label_of u = rw (is.0, is.1) refl in
      rw same ((subst (λ (l : List ℕ). AllByRecursion (λ y. slice_cmp nat_cmp l y ≡ Less) (map label_of us)) (sym label) h.0, h.1), record { name = refl; typed = typed })
  put_first e es u us less of h false other =
      let below : slice_cmp nat_cmp (label_of one) (label_of u) ≡ Less =
      rw of.name (same_or_below key e.0 info e.1 t u.field_type typed of.typed less (rw of.name at other)) in
      rw other (((below, all_above (label_of one) (label_of u) (map label_of us) below h.0), h), record { name = refl; typed = typed })

  with_first : (es : List TermEntry) (spaces : List FieldSpaceState) → AllByRecursion (λ k. slice_cmp nat_cmp key k ≡ Less) (entry_keys es) → AreAscending (map label_of spaces) → FirstIs es spaces
      → AreAscending (map label_of (with_space one spaces)) × FirstIs ((key, info) ∷ es) (with_space one spaces)
  unfolding IsStrictlySortedBy FirstIs
  with_first es [] below h first = ((tt, tt), record { name = refl; typed = typed })
  with_first [] (u ∷ us) below h first = absurd (cc)
  with_first (e ∷ es) (u ∷ us) below h first = put_first e es u us below.0 first h (is_same_label one u) refl

-- keys in order give paths and types in order
ascend_all : (entries : List TermEntry) (spaces : List FieldSpaceState) → spaces_of entries ≡ Some spaces → AreAscending (entry_keys entries) → AreAscending (map label_of spaces) × FirstIs entries spaces
unfolding IsStrictlySortedBy FirstIs
ascend_all [] spaces is h = let none : spaces ≡ [] = cc in rw none (tt, refl)
ascend_all ((k, i) ∷ es) spaces is h = by (type_in k) refl (spaces_of es) refl (λ ss rest. ascend_all es ss rest h.1)
  where
    by : (o : Option ValueType) → type_in k ≡ o → (r : Option (List FieldSpaceState)) → spaces_of es ≡ r → ((ss : List FieldSpaceState) → r ≡ Some ss → AreAscending (map label_of ss) × FirstIs es ss)
        → AreAscending (map label_of spaces) × FirstIs ((k, i) ∷ es) spaces
    by None typed r rest more = absurd (let no = rw typed at is in cc)
    by (Some t) typed None rest more = absurd (let no = rw (typed, rest) at is in cc)
    by (Some t) typed (Some ss) rest more =
        let all : spaces ≡ with_space (space_of_term k i t) ss = let yes = rw (typed, rest) at is in cc in
        let later = more ss refl in
        rw all (with_first k i t typed es ss h.0 later.0 later.1)

pub labels_ascend : (entries : List TermEntry) (spaces : List FieldSpaceState) → spaces_of entries ≡ Some spaces → AreAscending (entry_keys entries) → AreAscending (map label_of spaces)
labels_ascend entries spaces is h = (ascend_all entries spaces is h).0

pub none_ascend : AreAscending (map label_of [])
unfolding IsStrictlySortedBy
none_ascend = tt
