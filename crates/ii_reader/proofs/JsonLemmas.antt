-- Laws of the paths and types of a JSON field's keys.
use Rattle.std.proofs.Common.{◌≡◌, ◌≢◌, ◌<◌, ◌≤◌, ℕ, zero, suc, ◌+◌, length, Bool, true, false, List, [], ◌∷◌, ◌++◌, drop, map, nat_eq, Option, None, Some, refl, sym, ap, ◌∙◌, arith, append_assoc}
use Rattle.std.specs.Prelude.{MatchOption, bytes_eq, slice_get}
use Rattle.std.specs.Option.{option_map}
use Rattle.std.proofs.lemmas.Bool.{and_parts, eqb-true, ne_eqb}
use Rattle.std.proofs.lemmas.List.{drop_all}
use Rattle.std.proofs.lemmas.Slice.Eq.{bytes_eq-Decides}
use Rattle.ii_io.specs.Steps.{◌>>=◌}
use Rattle.ii_base.specs.ValueTypes.{code_of}
use Rattle.ii_base.specs.declared.schema.value_type.ValueType.{ValueType}
use Rattle.ii_base.specs.declared.schema.value_type.ValueType.TheVariants.{Str, U64, I64, Bool as Truth, Date, Bytes, Json, IpAddr}
use Rattle.ii_termstore.specs.declared.term_info.TermInfo.{TermInfo}
use Rattle.ii_termdict.specs.Dictionary.{TermEntry}
use Rattle.ii_definitions.specs.JsonKeys.{type_in, type_of_code}
use Rattle.ii_reader.specs.JsonFields.{FieldSpaceState, IsWithin, is_same_label, space_of_term, spaces_of, sum_of, with_space}

of_letter : (t : ValueType) → Some t ≡ type_of_code (code_of t)
of_letter Str = refl
of_letter U64 = refl
of_letter I64 = refl
of_letter Truth = refl
of_letter Date = refl
of_letter Bytes = refl
of_letter Json = refl
of_letter IpAddr = refl

-- the type of a letter is the one that has it
pub type_of_letter : (o : Option ValueType) (code : ℕ) → MatchOption o ((t : ValueType) → code_of t ≢ code) (λ t. code_of t ≡ code) → o ≡ type_of_code code
type_of_letter None code none =
    rw (ne_eqb _ code (none Str), ne_eqb _ code (none U64), ne_eqb _ code (none I64), ne_eqb _ code (none Truth), ne_eqb _ code (none Date), ne_eqb _ code (none Bytes), ne_eqb _ code (none Json), ne_eqb _ code (none IpAddr)) refl
type_of_letter (Some t) code is = of_letter t ∙ ap type_of_code is

-- the entry at a place
pub entry_at : (entries : List TermEntry) (n : ℕ) (key : List ℕ) (info : TermInfo) → slice_get (map (λ (e : TermEntry). e.0) entries) n ≡ Some key → slice_get (map (λ (e : TermEntry). e.1) entries) n ≡ Some info
    → drop n entries ≡ (key, info) ∷ drop (suc n) entries
entry_at [] n key info first second = absurd (cc)
entry_at ((k, i) ∷ es) zero key info first second = cc
entry_at (e ∷ es) (suc n) key info first second = entry_at es n key info first second

-- there is one before the end
pub none_past : (entries : List TermEntry) (n : ℕ) → n < length entries → slice_get (map (λ (e : TermEntry). e.0) entries) n ≡ None → ⊥
none_past [] n low none = absurd (omega (arith, low))
none_past (e ∷ es) zero low none = absurd (cc)
none_past (e ∷ es) (suc n) low none = none_past es n (omega (arith, low)) none

pub label_is : (s t : FieldSpaceState) → is_same_label s t ≡ true → (s.field_name ≡ t.field_name) × (code_of s.field_type ≡ code_of t.field_type)
label_is s t same =
    let parts = and_parts (bytes_eq s.field_name t.field_name) (nat_eq (code_of s.field_type) (code_of t.field_type)) same in
    ((bytes_eq-Decides s.field_name t.field_name).0 parts.0, eqb-true _ _ parts.1)

same_as : (s t u : FieldSpaceState) → is_same_label s t ≡ true → is_same_label s u ≡ is_same_label t u
same_as s t u same = let is = label_is s t same in rw (is.0, is.1) refl

sum_assoc : (s t u : FieldSpaceState) → sum_of s (sum_of t u) ≡ sum_of (sum_of s t) u
sum_assoc s t u =
    let postings : s.postings_size + (t.postings_size + u.postings_size) ≡ s.postings_size + t.postings_size + u.postings_size = omega arith in
    let positions : s.positions_size + (t.positions_size + u.positions_size) ≡ s.positions_size + t.positions_size + u.positions_size = omega arith in
    let terms : s.num_terms + (t.num_terms + u.num_terms) ≡ s.num_terms + t.num_terms + u.num_terms = omega arith in
    rw (postings, positions, terms) refl

same_from : (s t u : FieldSpaceState) (us : List FieldSpaceState) (b : Bool) → is_same_label t u ≡ b → is_same_label s t ≡ true → with_space s (with_space t (u ∷ us)) ≡ with_space (sum_of s t) (u ∷ us)
same_from s t u us true with_next same = rw (same_as s t u same, with_next, same) (ap (λ (x : FieldSpaceState). x ∷ us) (sum_assoc s t u))
same_from s t u us false with_next same = rw (same_as s t u same, with_next, same) refl

-- what belongs to the same label goes to the first one
pub with_same : (s t : FieldSpaceState) (rest : List FieldSpaceState) → is_same_label s t ≡ true → with_space s (with_space t rest) ≡ with_space (sum_of s t) rest
with_same s t [] same = rw same refl
with_same s t (u ∷ us) same = same_from s t u us (is_same_label t u) refl same

other_from : (s t u : FieldSpaceState) (us : List FieldSpaceState) (b : Bool) → is_same_label t u ≡ b → is_same_label s t ≡ false → with_space s (with_space t (u ∷ us)) ≡ s ∷ with_space t (u ∷ us)
other_from s t u us true with_next other = rw (with_next, other) refl
other_from s t u us false with_next other = rw (with_next, other) refl

pub with_other : (s t : FieldSpaceState) (rest : List FieldSpaceState) → is_same_label s t ≡ false → with_space s (with_space t rest) ≡ s ∷ with_space t rest
with_other s t [] other = rw other refl
with_other s t (u ∷ us) other = other_from s t u us (is_same_label t u) refl other

-- What was listed of the terms after the first one: those of other labels, and the current one.
pub record IsListing (entries : List TermEntry) (first : FieldSpaceState) (n : ℕ) (fields : List FieldSpaceState) (current : FieldSpaceState) : Type 0 where
  pub within : IsWithin n current
  pub listed : option_map (λ rest. fields ++ with_space current rest) (spaces_of (drop n entries)) ≡ option_map (with_space first) (spaces_of (drop 1 entries))

module _ (entries : List TermEntry) (first : FieldSpaceState) (n : ℕ) (fields : List FieldSpaceState) (current : FieldSpaceState) (listing : IsListing entries first n fields current) (key : List ℕ) (info : TermInfo) where
  next_listed : (o : Option (List FieldSpaceState)) (f : List FieldSpaceState → List FieldSpaceState) (value_type : ValueType) → type_in key ≡ Some value_type → drop n entries ≡ (key, info) ∷ drop (suc n) entries → spaces_of (drop (suc n) entries) ≡ o
      → ((rest : List FieldSpaceState) → fields ++ with_space current (with_space (space_of_term key info value_type) rest) ≡ f rest)
      → option_map f o ≡ option_map (with_space first) (spaces_of (drop 1 entries))
  next_listed None f value_type typed here rest is = let l = listing.listed in rw (here, typed, rest) at l
  next_listed (Some spaces) f value_type typed here rest is = let l = listing.listed in sym (ap Some (is spaces)) ∙ (rw (here, typed, rest) at l)

  -- a term of the current label
  pub listed_more : (here : drop n entries ≡ (key, info) ∷ drop (suc n) entries) (value_type : ValueType) → type_in key ≡ Some value_type → is_same_label current (space_of_term key info value_type) ≡ true
      → (more : FieldSpaceState) → more ≡ sum_of current (space_of_term key info value_type) → IsWithin (n + 1) more → IsListing entries first (n + 1) fields more
  listed_more here value_type typed same more is within =
      let next : n + 1 ≡ suc n = omega arith in
      record {
        within = within;
        listed = rw (next, is) (next_listed (spaces_of (drop (suc n) entries)) (λ rest. fields ++ with_space (sum_of current (space_of_term key info value_type)) rest) value_type typed here refl
            (λ rest. ap (λ (spaces : List FieldSpaceState). fields ++ spaces) (with_same current (space_of_term key info value_type) rest same)));
      }

  -- a term of the next label
  pub listed_next : (here : drop n entries ≡ (key, info) ∷ drop (suc n) entries) (value_type : ValueType) → type_in key ≡ Some value_type → is_same_label current (space_of_term key info value_type) ≡ false
      → (more : List FieldSpaceState) → more ≡ fields ++ current ∷ [] → (next : FieldSpaceState) → next ≡ space_of_term key info value_type → IsWithin 1 next → IsListing entries first (n + 1) more next
  listed_next here value_type typed other more is next next_is within =
      let one : n + 1 ≡ suc n = omega arith in
      record {
        within = record { postings = let p = within.postings in omega arith; positions = let p = within.positions in omega arith; terms = let p = within.terms in omega arith };
        listed = rw (one, is, next_is) (next_listed (spaces_of (drop (suc n) entries)) (λ rest. (fields ++ current ∷ []) ++ with_space (space_of_term key info value_type) rest) value_type typed here refl
            (λ rest. ap (λ (spaces : List FieldSpaceState). fields ++ spaces) (with_other current (space_of_term key info value_type) rest other) ∙ sym (append_assoc fields (current ∷ []) (with_space (space_of_term key info value_type) rest))));
      }

  none_of : (o : Option (List FieldSpaceState)) (f : List FieldSpaceState → List FieldSpaceState) → None ≡ option_map f o → o ≡ None
  none_of None f is = refl
  none_of (Some spaces) f is = absurd (cc)

  -- a key without a type
  pub listed_none : (here : drop n entries ≡ (key, info) ∷ drop (suc n) entries) → type_in key ≡ None → spaces_of (drop 1 entries) ≡ None
  listed_none here typed = none_of (spaces_of (drop 1 entries)) (with_space first) (let l = listing.listed in rw (here, typed) at l)

-- no term is left
pub listed_all : (entries : List TermEntry) (first : FieldSpaceState) (n : ℕ) (fields : List FieldSpaceState) (current : FieldSpaceState) → IsListing entries first n fields current → length entries ≤ n
    → option_map (with_space first) (spaces_of (drop 1 entries)) ≡ Some (fields ++ current ∷ [])
listed_all entries first n fields current listing past = let l = listing.listed in sym (rw (drop_all n entries past) at l)

-- the first term of all
pub first_listed : (entries : List TermEntry) (key : List ℕ) (info : TermInfo) (value_type : ValueType) → slice_get (map (λ (e : TermEntry). e.0) entries) 0 ≡ Some key → slice_get (map (λ (e : TermEntry). e.1) entries) 0 ≡ Some info → type_in key ≡ Some value_type
    → spaces_of entries ≡ option_map (with_space (space_of_term key info value_type)) (spaces_of (drop 1 entries))
first_listed [] key info value_type first second typed = absurd (cc)
first_listed ((k, i) ∷ es) key info value_type first second typed =
    let is : k ≡ key = cc in
    let value : i ≡ info = cc in
    rw (is, value, typed) (from (spaces_of es))
  where
    from : (o : Option (List FieldSpaceState)) → (o >>= λ spaces. Some (with_space (space_of_term key info value_type) spaces)) ≡ option_map (with_space (space_of_term key info value_type)) o
    from None = refl
    from (Some spaces) = refl

pub none_first : (entries : List TermEntry) (key : List ℕ) → slice_get (map (λ (e : TermEntry). e.0) entries) 0 ≡ Some key → type_in key ≡ None → spaces_of entries ≡ None
none_first [] key first typed = absurd (cc)
none_first ((k, i) ∷ es) key first typed = let is : k ≡ key = cc in rw (is, typed) refl

pub no_terms : (entries : List TermEntry) → slice_get (map (λ (e : TermEntry). e.0) entries) 0 ≡ None → spaces_of entries ≡ Some []
no_terms [] none = refl
no_terms (e ∷ es) none = absurd (cc)
