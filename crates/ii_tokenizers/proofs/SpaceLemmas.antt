-- A text can be cut into words separately up to a space and from an ASCII letter or digit after it.
use Rattle.std.proofs.Common.{◌≡◌, ℕ, ◌+◌, ◌<◌, Bool, true, false, cond, not, ◌&&◌, ◌||◌, List, [], ◌∷◌, ◌++◌, length, map, filter, unwrap_or, refl, sym, ap, ap₂, ◌∙◌, arith, append-nil, length-append}
use Rattle.std.specs.Prelude.{IsAscii, IsUtf8, chars, encode_utf8_all}
use Rattle.std.specs.Char.{is_ascii_alphanumeric}
use Rattle.std.specs.List.{concat, flat_map}
use Rattle.std.proofs.lemmas.Bool.Decides.{nat_tests}
use Rattle.std.proofs.lemmas.Grind.{flat_map-append}
use Rattle.std.proofs.lemmas.List.{map-append}
use Rattle.std.proofs.lemmas.List.Elements.{filter-append}
use Rattle.std.proofs.lemmas.List.Folds.{flat_map-map}
use Rattle.std.proofs.lemmas.Str.{IsUtf8-append, IsUtf8-from_ascii, chars-IsAscii, chars-append, chars_past_char, encode_ascii}
use Rattle.std.proofs.lemmas.Str.Ascii.{IsAscii-cons, IsAscii-nil}
use Rattle.ucd_breaks.proofs.Computing.{ucd_breaks}
use Rattle.ucd_breaks.specs.WordBreak.{word_break}
use Rattle.ucd_breaks.specs.declared.WordBreak.{WordBreak}
use Rattle.ucd_breaks.specs.declared.WordBreak.TheVariants.{ALetter, Numeric, WSegSpace}
use Rattle.unicode_segmentation.specs.Emoji.{is_extended_pictographic}
use Rattle.unicode_segmentation.specs.Segments.{Rule, cut, has_alphanumeric, segments, with_offsets}
use Rattle.unicode_segmentation.specs.Word.{break_by_pair, is_ignored, is_regional, is_word_break, joins, significant, starts_with_half_flag, value_at, word_bounds}
use Rattle.unicode_segmentation.proofs.BoolLemmas.{and-false, or-false}
use Rattle.unicode_segmentation.proofs.SegmentsLemmas.{attach, concat-segments}
use Rattle.unicode_segmentation.proofs.WordLemmas.{significant-kept}
use Rattle.ii_tokenizers.specs.Analyzers.{piece_parts, rule_parts, unicode_pieces}
use Rattle.ii_tokenizers.specs.declared.parts.Cut.TheVariants.{AtMarks}
use Rattle.ii_tokenizers.proofs.WordKindLemmas.{are_parted, breaks_here, is_letter_or_digit, kind_of}

-- whether a piece of a text has a letter or a digit
abbrev pub piece_has : ℕ × List ℕ → Bool
piece_has piece = has_alphanumeric piece.1

-- ---- a space, and a letter or a digit

space_kind : word_break 32 ≡ WSegSpace
unfolding ucd_breaks
space_kind = refl

space_first : (after : List ℕ) → significant (32 ∷ after) ≡ WSegSpace ∷ significant after
space_first after = significant-kept 32 after (ap is_ignored space_kind) ∙ ap (λ (kind : WordBreak). kind ∷ significant after) space_kind

letter_kept : (kind : WordBreak) → is_letter_or_digit kind ≡ true → is_ignored kind ≡ false
letter_kept ALetter is = refl
letter_kept Numeric is = refl
letter_kept _ is = cc

letter_no_flag : (kind : WordBreak) → is_letter_or_digit kind ≡ true → is_regional kind ≡ false
letter_no_flag ALetter is = refl
letter_no_flag Numeric is = refl
letter_no_flag _ is = cc

space_apart : (kind : WordBreak) → is_letter_or_digit kind ≡ true → are_parted WSegSpace kind ≡ true
space_apart ALetter is = refl
space_apart Numeric is = refl
space_apart _ is = cc

pub low_letter : (y : ℕ) → is_ascii_alphanumeric y ≡ true → y < 128
low_letter y is = grind (arith, nat_tests)

letter_kind : (y : ℕ) → is_ascii_alphanumeric y ≡ true → is_letter_or_digit (word_break y) ≡ true
letter_kind y is = sym (kind_of y (low_letter y is)).letter ∙ is

breaks_after_space : (before : List ℕ) (y : ℕ) (after : List ℕ) → is_ascii_alphanumeric y ≡ true → is_word_break (32 ∷ before) (y ∷ after) ≡ true
breaks_after_space before y after is =
    breaks_here 32 before y after (omega arith) (low_letter y is)
    (ap (λ (kind : WordBreak). are_parted kind (word_break y)) space_kind ∙ space_apart (word_break y) (letter_kind y is))

-- ---- what the rule answers from the values before a place and the first value after the next character

abbrev answer : List WordBreak → ℕ → ℕ → WordBreak → Bool
answer values last next far_right =
    unwrap_or (break_by_pair (word_break last) (word_break next) (is_extended_pictographic next))
    (not (joins (value_at values 1) (value_at values 0) (word_break next) far_right || (starts_with_half_flag values && is_regional (word_break next))))

rule_is : (last : ℕ) (before : List ℕ) (next : ℕ) (after : List ℕ) → is_word_break (last ∷ before) (next ∷ after) ≡ answer (significant (last ∷ before)) last next (value_at (significant after) 0)
unfolding is_word_break
rule_is last before next after = refl

-- ---- a stretch that ends with a space: what follows doesn't matter

first_after : (cs after : List ℕ) → value_at (significant ((cs ++ 32 ∷ []) ++ after)) 0 ≡ value_at (significant (cs ++ 32 ∷ [])) 0
unfolding significant
first_after [] after = ap (λ (values : List WordBreak). value_at values 0) (space_first after) ∙ sym (ap (λ (values : List WordBreak). value_at values 0) (space_first []))
first_after (c ∷ cs) after = by_bit (is_ignored (word_break c)) _ _ (first_after cs after)
  where
    by_bit : (b : Bool) (xs ys : List WordBreak) → value_at xs 0 ≡ value_at ys 0 → value_at (cond b xs (word_break c ∷ xs)) 0 ≡ value_at (cond b ys (word_break c ∷ ys)) 0
    by_bit true xs ys same = same
    by_bit false xs ys same = refl

space_joins : (far_left left right far near : WordBreak) → right ≡ WSegSpace → joins far_left left right far ≡ joins far_left left right near
space_joins far_left left right far near is = rw is (simp (and-false, or-false))

before_space : (last : ℕ) (before cs after : List ℕ) → is_word_break (last ∷ before) ((cs ++ 32 ∷ []) ++ after) ≡ is_word_break (last ∷ before) (cs ++ 32 ∷ [])
before_space last before [] after =
    let values = significant (last ∷ before) in
    rule_is last before 32 after
    ∙ ap (λ (b : Bool). unwrap_or (break_by_pair (word_break last) (word_break 32) (is_extended_pictographic 32)) (not (b || (starts_with_half_flag values && is_regional (word_break 32)))))
    (space_joins (value_at values 1) (value_at values 0) (word_break 32) (value_at (significant after) 0) (value_at (significant []) 0) space_kind)
    ∙ sym (rule_is last before 32 [])
before_space last before (c ∷ cs) after =
    rule_is last before c ((cs ++ 32 ∷ []) ++ after)
    ∙ ap (answer (significant (last ∷ before)) last c) (first_after cs after)
    ∙ sym (rule_is last before c (cs ++ 32 ∷ []))

-- ---- a stretch that begins with a letter or a digit: a space before it doesn't matter

joins_same : (values more : List WordBreak) (kind right far_right : WordBreak)
    → joins (value_at (values ++ kind ∷ WSegSpace ∷ more) 1) (value_at (values ++ kind ∷ WSegSpace ∷ more) 0) right far_right
    ≡ joins (value_at (values ++ kind ∷ []) 1) (value_at (values ++ kind ∷ []) 0) right far_right
joins_same [] more kind right far_right = refl
joins_same (v ∷ []) more kind right far_right = refl
joins_same (v ∷ (w ∷ values)) more kind right far_right = refl

flag_same : (values more : List WordBreak) (kind : WordBreak) → is_regional kind ≡ false → starts_with_half_flag (values ++ kind ∷ more) ≡ starts_with_half_flag (values ++ kind ∷ [])
unfolding starts_with_half_flag
flag_same [] more kind none = ap (λ (b : Bool). b && not (starts_with_half_flag more)) none ∙ sym (ap (λ (b : Bool). b && true) none)
flag_same (v ∷ values) more kind none = ap (λ (b : Bool). is_regional v && not b) (flag_same values more kind none)

answer_same : (values more : List WordBreak) (kind : WordBreak) (last next : ℕ) (far_right : WordBreak) → is_regional kind ≡ false
    → answer (values ++ kind ∷ WSegSpace ∷ more) last next far_right ≡ answer (values ++ kind ∷ []) last next far_right
answer_same values more kind last next far_right none =
    ap₂ (λ (joined flag : Bool). unwrap_or (break_by_pair (word_break last) (word_break next) (is_extended_pictographic next)) (not (joined || (flag && is_regional (word_break next)))))
    (joins_same values more kind (word_break next) far_right) (flag_same values (WSegSpace ∷ more) kind none)

no_values : significant [] ≡ []
unfolding significant
no_values = refl

module _ (before : List ℕ) (y : ℕ) (is : is_ascii_alphanumeric y ≡ true) where
  values_back : (rs zs : List ℕ) → significant (rs ++ y ∷ zs) ≡ significant rs ++ word_break y ∷ significant zs
  unfolding significant
  values_back [] zs = significant-kept y zs (letter_kept (word_break y) (letter_kind y is))
  values_back (r ∷ rs) zs = by_bit (is_ignored (word_break r)) _ _ _ (values_back rs zs)
    where
      by_bit : (b : Bool) (xs ys more : List WordBreak) → xs ≡ ys ++ more → cond b xs (word_break r ∷ xs) ≡ cond b ys (word_break r ∷ ys) ++ more
      by_bit true xs ys more same = same
      by_bit false xs ys more same = ap (λ (values : List WordBreak). word_break r ∷ values) same

  answer_back : (rs : List ℕ) (last next : ℕ) (far_right : WordBreak) → answer (significant (rs ++ y ∷ 32 ∷ before)) last next far_right ≡ answer (significant (rs ++ y ∷ [])) last next far_right
  answer_back rs last next far_right =
      ap (λ (values : List WordBreak). answer values last next far_right) (values_back rs (32 ∷ before) ∙ ap (λ (values : List WordBreak). significant rs ++ word_break y ∷ values) (space_first before))
      ∙ answer_same (significant rs) (significant before) (word_break y) last next far_right (letter_no_flag (word_break y) (letter_kind y is))
      ∙ ap (λ (values : List WordBreak). answer values last next far_right) (ap (λ (values : List WordBreak). significant rs ++ word_break y ∷ values) (sym no_values) ∙ sym (values_back rs []))

  after_space : (rs after : List ℕ) → is_word_break (rs ++ y ∷ 32 ∷ before) after ≡ is_word_break (rs ++ y ∷ []) after
  unfolding is_word_break
  after_space [] [] = refl
  after_space (r ∷ rs) [] = refl
  after_space [] (next ∷ after) = answer_back [] y next (value_at (significant after) 0)
  after_space (r ∷ rs) (next ∷ after) = answer_back (r ∷ rs) r next (value_at (significant after) 0)

  cut_later : (rs cs : List ℕ) → cut is_word_break (rs ++ y ∷ 32 ∷ before) cs [] ≡ cut is_word_break (rs ++ y ∷ []) cs []
  unfolding cut
  cut_later rs [] = refl
  cut_later rs (c ∷ cs) = ap₂ (λ (b : Bool) (ps : List (List ℕ)). attach b (c ∷ []) ps) (after_space (c ∷ rs) (cs ++ [])) (cut_later (c ∷ rs) cs)

  cut_after_space : (cs : List ℕ) → cut is_word_break (32 ∷ before) (y ∷ cs) [] ≡ cut is_word_break [] (y ∷ cs) []
  unfolding cut
  cut_after_space cs = ap₂ (λ (b : Bool) (ps : List (List ℕ)). attach b (y ∷ []) ps) (after_space [] (cs ++ [])) (cut_later [] cs)

-- ---- both stretches

-- a text that isn't empty has a first piece
attach_some : (b : Bool) (x : List ℕ) (qs : List (List ℕ)) → (p : List ℕ) × (ps : List (List ℕ)) × (attach b x qs ≡ p ∷ ps)
attach_some true x qs = (x, qs, refl)
attach_some false x [] = (x, [], refl)
attach_some false x (q ∷ qs) = (x ++ q, qs, refl)

cut_some : (rule : Rule) (before cs : List ℕ) (c : ℕ) → (p : List ℕ) × (ps : List (List ℕ)) × (cut rule before (cs ++ c ∷ []) [] ≡ p ∷ ps)
unfolding cut
cut_some rule before [] c = attach_some (rule (c ∷ before) []) (c ∷ []) []
cut_some rule before (d ∷ cs) c = attach_some (rule (d ∷ before) ((cs ++ c ∷ []) ++ [])) (d ∷ []) (cut rule (d ∷ before) (cs ++ c ∷ []) [])

-- a part in front of the pieces of both stretches is in front of those of the first
attach_front : (b : Bool) (x p : List ℕ) (ps qs rest : List (List ℕ)) → ps ≡ p ∷ rest → attach b x (ps ++ qs) ≡ attach b x ps ++ qs
attach_front true x p ps qs rest is = refl
attach_front false x p ps qs rest is = rw is refl

cut_at_space : (before cs : List ℕ) (y : ℕ) (ys : List ℕ) → is_ascii_alphanumeric y ≡ true
    → cut is_word_break before ((cs ++ 32 ∷ []) ++ y ∷ ys) [] ≡ cut is_word_break before (cs ++ 32 ∷ []) [] ++ cut is_word_break [] (y ∷ ys) []
unfolding cut is_word_break
cut_at_space before [] y ys is =
    ap₂ (λ (b : Bool) (ps : List (List ℕ)). attach b (32 ∷ []) ps) (breaks_after_space before y (ys ++ []) is) (cut_after_space before y is ys)
cut_at_space before (c ∷ cs) y ys is =
    let whole = cs ++ 32 ∷ [] in
    let later = cut_some is_word_break (c ∷ before) cs 32 in
    let same : is_word_break (c ∷ before) ((whole ++ y ∷ ys) ++ []) ≡ is_word_break (c ∷ before) (whole ++ []) =
    ap (is_word_break (c ∷ before)) (append-nil (whole ++ y ∷ ys)) ∙ before_space c before cs (y ∷ ys) ∙ ap (is_word_break (c ∷ before)) (sym (append-nil whole)) in
    ap₂ (λ (b : Bool) (ps : List (List ℕ)). attach b (c ∷ []) ps) same (cut_at_space (c ∷ before) cs y ys is)
    ∙ attach_front (is_word_break (c ∷ before) (whole ++ [])) (c ∷ []) later.0 (cut is_word_break (c ∷ before) whole []) (cut is_word_break [] (y ∷ ys) []) later.1 later.2

-- ---- the parts of a text

space_ascii : IsAscii (32 ∷ [])
space_ascii = IsAscii-cons 32 [] (omega arith) IsAscii-nil

with_offsets-append : (n : ℕ) (ps qs : List (List ℕ)) → with_offsets n (ps ++ qs) ≡ with_offsets n ps ++ with_offsets (n + length (concat ps)) qs
unfolding with_offsets
with_offsets-append n [] qs =
    let same : n ≡ n + 0 = omega arith in
    ap (λ (k : ℕ). with_offsets k qs) same
with_offsets-append n (p ∷ ps) qs =
    let same : n + length p + length (concat ps) ≡ n + length (p ++ concat ps) = omega (arith, length-append p (concat ps)) in
    ap (λ (rest : List (ℕ × List ℕ)). (n, p) ∷ rest) (with_offsets-append (n + length p) ps qs ∙ ap (λ (k : ℕ). with_offsets (n + length p) ps ++ with_offsets k qs) same)

bounds_at_space : (xs ys : List ℕ) (y : ℕ) → IsUtf8 xs → IsUtf8 (y ∷ ys) → is_ascii_alphanumeric y ≡ true
    → word_bounds ((xs ++ 32 ∷ []) ++ y ∷ ys) ≡ word_bounds (xs ++ 32 ∷ []) ++ word_bounds (y ∷ ys)
unfolding segments
bounds_at_space xs ys y left_utf8 right_utf8 is =
    let left = xs ++ 32 ∷ [] in
    let utf8 : IsUtf8 left = IsUtf8-append xs (32 ∷ []) left_utf8 (IsUtf8-from_ascii (32 ∷ []) space_ascii) in
    let left_is : chars left ≡ chars xs ++ 32 ∷ [] = chars-append xs (32 ∷ []) left_utf8 ∙ ap (λ (cs : List ℕ). chars xs ++ cs) (chars-IsAscii (32 ∷ []) space_ascii) in
    let right_is : chars (y ∷ ys) ≡ y ∷ chars ys = chars_past_char (y ∷ ys) ys y right_utf8 (ap (λ (bs : List ℕ). bs ++ ys) (sym (encode_ascii y (low_letter y is)))) in
    ap (λ (cs : List ℕ). map encode_utf8_all (cut is_word_break [] cs [])) (chars-append left (y ∷ ys) utf8 ∙ ap₂ ◌++◌ left_is right_is)
    ∙ ap (map encode_utf8_all) (cut_at_space [] (chars xs) y (chars ys) is)
    ∙ map-append encode_utf8_all (cut is_word_break [] (chars xs ++ 32 ∷ []) []) (cut is_word_break [] (y ∷ chars ys) [])
    ∙ ap₂ (λ (cs ds : List ℕ). map encode_utf8_all (cut is_word_break [] cs []) ++ map encode_utf8_all (cut is_word_break [] ds [])) (sym left_is) (sym right_is)

-- the parts of a text are those of the text up to the space, and those of the text from the letter or digit on
pub parts_at_space : (n : ℕ) (xs ys : List ℕ) (y : ℕ) → IsUtf8 xs → IsUtf8 (y ∷ ys) → is_ascii_alphanumeric y ≡ true
    → rule_parts n ((xs ++ 32 ∷ []) ++ y ∷ ys) ≡ rule_parts n (xs ++ 32 ∷ []) ++ rule_parts (n + length (xs ++ 32 ∷ [])) (y ∷ ys)
parts_at_space n xs ys y left_utf8 right_utf8 is =
    let left = xs ++ 32 ∷ [] in
    let utf8 : IsUtf8 left = IsUtf8-append xs (32 ∷ []) left_utf8 (IsUtf8-from_ascii (32 ∷ []) space_ascii) in
    let found = λ (pieces : List (ℕ × List ℕ)). flat_map (piece_parts AtMarks) (filter piece_has pieces) in
    ap (λ (ps : List (List ℕ)). found (with_offsets n ps)) (bounds_at_space xs ys y left_utf8 right_utf8 is)
    ∙ ap found (with_offsets-append n (word_bounds left) (word_bounds (y ∷ ys)))
    ∙ ap (λ (bs : List ℕ). found (with_offsets n (word_bounds left) ++ with_offsets (n + length bs) (word_bounds (y ∷ ys)))) (concat-segments is_word_break left utf8)
    ∙ ap (flat_map (piece_parts AtMarks)) (filter-append piece_has (with_offsets n (word_bounds left)) (with_offsets (n + length left) (word_bounds (y ∷ ys))))
    ∙ flat_map-append (piece_parts AtMarks) (filter piece_has (with_offsets n (word_bounds left))) (filter piece_has (with_offsets (n + length left) (word_bounds (y ∷ ys))))

-- ---- a text at another offset

-- a piece of a text that is at an offset
abbrev pub moved : ℕ → ℕ × List ℕ → ℕ × List ℕ
moved at piece = (at + piece.0, piece.1)

moved_offsets : (at n : ℕ) (ps : List (List ℕ)) → with_offsets (at + n) ps ≡ map (moved at) (with_offsets n ps)
unfolding with_offsets
moved_offsets at n [] = refl
moved_offsets at n (p ∷ ps) =
    let same : at + n + length p ≡ at + (n + length p) = omega arith in
    ap (λ (rest : List (ℕ × List ℕ)). (at + n, p) ∷ rest) (ap (λ (k : ℕ). with_offsets k ps) same ∙ moved_offsets at (n + length p) ps)

moved_filter : (at : ℕ) (pieces : List (ℕ × List ℕ)) → filter piece_has (map (moved at) pieces) ≡ map (moved at) (filter piece_has pieces)
moved_filter at [] = refl
moved_filter at (piece ∷ pieces) = by_bit (piece_has piece) _ _ (moved_filter at pieces)
  where
    by_bit : (b : Bool) (xs ys : List (ℕ × List ℕ)) → xs ≡ map (moved at) ys → cond b (moved at piece ∷ xs) xs ≡ map (moved at) (cond b (piece ∷ ys) ys)
    by_bit true xs ys same = ap (λ (rest : List (ℕ × List ℕ)). moved at piece ∷ rest) same
    by_bit false xs ys same = same

-- the parts of a text at an offset are those of its words, each word moved by the offset
pub shifted_parts : (at : ℕ) (text : List ℕ) → rule_parts at text ≡ flat_map (λ (piece : ℕ × List ℕ). piece_parts AtMarks (moved at piece)) (unicode_pieces 0 text)
shifted_parts at text =
    let same : at ≡ at + 0 = omega arith in
    ap (λ (k : ℕ). rule_parts k text) same
    ∙ ap (λ (pieces : List (ℕ × List ℕ)). flat_map (piece_parts AtMarks) (filter piece_has pieces)) (moved_offsets at 0 (word_bounds text))
    ∙ ap (flat_map (piece_parts AtMarks)) (moved_filter at (with_offsets 0 (word_bounds text)))
    ∙ flat_map-map (piece_parts AtMarks) (moved at) (unicode_pieces 0 text)
