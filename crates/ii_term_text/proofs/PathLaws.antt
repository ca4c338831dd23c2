-- The text of a path is read back.
use Rattle.std.proofs.Common.{◌≡◌, ◌∙◌, ℕ, Bool, true, false, ◌||◌, ◌==◌, cond, List, [], ◌∷◌, ◌++◌, Some, ap, map, refl}
use Rattle.std.proofs.lemmas.Bool.{or_parts}
use Rattle.std.proofs.lemmas.List.{map-id}
use Rattle.std.proofs.lemmas.List.Splits.{join_with_byte-slice_split}
use Rattle.std.specs.List.{join_with_byte, onto_first, slice_split}
use Rattle.ii_base.specs.Paths.{acts_as, kept_bytes, marked, path_bytes, segment_bytes, segments_of}
use Rattle.ii_term_text.specs.PathTexts.{byte_text, cut_at_space, has_dot, is_escaped, path_text}

-- one byte of a path: what it is as text, by the three cases
pub by_byte : (P : List ℕ → Type 0) (b : ℕ) → ((b == 1) ≡ true → P (46 ∷ [])) → ((b == 1) ≡ false → P (92 ∷ b ∷ [])) → ((b == 1) ≡ false → is_escaped b ≡ false → P (b ∷ [])) → P (byte_text b)
by_byte P b one escaped plain = cases (b == 1) (is_escaped b) refl refl
  where
    cases : (x y : Bool) → (b == 1) ≡ x → is_escaped b ≡ y → P (cond x (46 ∷ []) (cond y (92 ∷ b ∷ []) (b ∷ [])))
    cases true y is e = one is
    cases false true is e = escaped is
    cases false false is e = plain is e

not_dot : (b : ℕ) → is_escaped b ≡ false → (b == 46) ≡ false
not_dot b h = (or_parts (b == 46) (b == 92) (or_parts (b == 46 || b == 92) (b == 32) h).0).0

not_backslash : (b : ℕ) → is_escaped b ≡ false → (b == 92) ≡ false
not_backslash b h = (or_parts (b == 46) (b == 92) (or_parts (b == 46 || b == 92) (b == 32) h).0).1

not_space : (b : ℕ) → is_escaped b ≡ false → (b == 32) ≡ false
not_space b h = (or_parts (b == 46 || b == 92) (b == 32) h).1

-- the segments of marked bytes
abbrev split_marks : List (ℕ × Bool) → List (List ℕ)
split_marks ms = map kept_bytes (slice_split (acts_as 46) ms)

kept_mark : (b : ℕ) (parts : List (List (ℕ × Bool))) → map kept_bytes (onto_first (92, false) (onto_first (b, true) parts)) ≡ onto_first b (map kept_bytes parts)
kept_mark b [] = refl
kept_mark b (p ∷ ps) = refl

plain_mark : (b : ℕ) (parts : List (List (ℕ × Bool))) → (b == 92) ≡ false → map kept_bytes (onto_first (b, false) parts) ≡ onto_first b (map kept_bytes parts)
plain_mark b [] h = rw h refl
plain_mark b (p ∷ ps) h = rw h refl

-- the segments of a path's text are what stands between bytes 1
abbrev pub keys_of : List ℕ → List (List ℕ)
keys_of path = slice_split (λ (b : ℕ). b == 1) path

pub segments_read : (path : List ℕ) → segments_of (path_text path) ≡ keys_of path
segments_read [] = refl
segments_read (b ∷ bs) = by_byte (λ (t : List ℕ). split_marks (marked false (t ++ path_text bs)) ≡ keys_of (b ∷ bs)) b
    (λ one. rw one (ap (λ (ss : List (List ℕ)). [] ∷ ss) (segments_read bs)))
    (λ other. rw other (kept_mark b (slice_split (acts_as 46) (marked false (path_text bs))) ∙ ap (onto_first b) (segments_read bs)))
    (λ other plain. rw (other, not_backslash b plain, not_dot b plain) (plain_mark b (slice_split (acts_as 46) (marked false (path_text bs))) (not_backslash b plain) ∙ ap (onto_first b) (segments_read bs)))

-- the text of a path is read back as the path, where dots are not expanded
pub path_read : (path : List ℕ) → path_bytes false (segments_of (path_text path)) ≡ path
path_read path = rw (segments_read path) (ap (join_with_byte 1) (map-id (keys_of path)) ∙ join_with_byte-slice_split 1 path)

-- and where they are, if it has none
expanded : (bytes : List ℕ) → has_dot bytes ≡ false → map (segment_bytes true) (keys_of bytes) ≡ keys_of bytes
expanded [] none = refl
expanded (b ∷ bs) none =
    let h = or_parts (b == 46) (has_dot bs) none in
    cases (b == 1) refl h.0 (expanded bs h.1)
  where
    onto : (parts : List (List ℕ)) → (b == 46) ≡ false → map (segment_bytes true) parts ≡ parts → map (segment_bytes true) (onto_first b parts) ≡ onto_first b parts
    onto [] plain same = rw plain refl
    onto (p ∷ ps) plain same = rw plain (ap (onto_first b) same)

    cases : (x : Bool) → (b == 1) ≡ x → (b == 46) ≡ false → map (segment_bytes true) (keys_of bs) ≡ keys_of bs
        → map (segment_bytes true) (cond x ([] ∷ keys_of bs) (onto_first b (keys_of bs))) ≡ cond x ([] ∷ keys_of bs) (onto_first b (keys_of bs))
    cases true is plain same = ap (λ (ks : List (List ℕ)). [] ∷ ks) same
    cases false is plain same = onto (keys_of bs) plain same

pub expanded_path_read : (path : List ℕ) → has_dot path ≡ false → path_bytes true (segments_of (path_text path)) ≡ path
expanded_path_read path none = rw (segments_read path) (ap (join_with_byte 1) (expanded path none) ∙ join_with_byte-slice_split 1 path)

-- the text of a path ends at the first space that is not kept
pub path_cut : (path rest : List ℕ) → cut_at_space false (path_text path ++ 32 ∷ rest) ≡ Some (record { front = path_text path; rest = rest })
path_cut [] rest = refl
path_cut (b ∷ bs) rest = by_byte (λ (t : List ℕ). cut_at_space false ((t ++ path_text bs) ++ 32 ∷ rest) ≡ Some (record { front = t ++ path_text bs; rest = rest })) b
    (λ one. rw (path_cut bs rest) refl)
    (λ other. rw (path_cut bs rest) refl)
    (λ other plain. rw (not_space b plain, not_backslash b plain, path_cut bs rest) refl)
