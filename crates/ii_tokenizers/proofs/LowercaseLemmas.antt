-- The words of an ASCII text in small letters.
use Rattle.std.proofs.Common.{◌≡◌, ℕ, ◌+◌, ◌<◌, Bool, true, false, cond, not, List, [], ◌∷◌, length, map, refl, sym, ap, ap₂, ◌∙◌, arith}
use Rattle.std.specs.Prelude.{⊤, IsAscii, encode_utf8_all, ◌||◌}
use Rattle.std.specs.Char.{is_ascii_alphanumeric, len_utf8, to_ascii_lowercase}
use Rattle.std.specs.List.{list_any}
use Rattle.std.proofs.lemmas.Bool.Decides.{nat_tests}
use Rattle.std.proofs.lemmas.List.{length-map}
use Rattle.std.proofs.lemmas.Str.{encodes-IsAscii}
use Rattle.std.proofs.lemmas.Str.Ascii.{IsAscii-map}
use Rattle.ii_base.specs.Parts.{Part, ascii_parts, in_front, is_word_character, part_word, part_words, parts_between, spoken_parts}
use Rattle.ii_base.specs.Words.{Word, remove_long}
use Rattle.ii_base.proofs.RunLemmas.{AllAscii, AllAscii-is, one_byte}
use Rattle.ii_tokenizers.specs.Analyzers.{default_words, fold_case, folded, folded_text}
use Rattle.ii_tokenizers.proofs.AsciiPartLemmas.{IsAscii-all}
use Rattle.ii_tokenizers.proofs.AsciiWordLemmas.{ascii_rule_parts}
use Rattle.ii_tokenizers.proofs.FilterLemmas.{fold-ascii}

lower_word : (c : ℕ) → is_word_character (to_ascii_lowercase c) ≡ is_word_character c
lower_word c = grind (arith, nat_tests)

lower_letter : (c : ℕ) → is_ascii_alphanumeric (to_ascii_lowercase c) ≡ is_ascii_alphanumeric c
lower_letter c = grind (arith, nat_tests)

lower_below : (c : ℕ) → c < 128 → to_ascii_lowercase c < 128
lower_below c below = grind (arith, nat_tests)

-- a part with its capitals replaced
abbrev lowercase_part : Part → Part
lowercase_part p = record p { characters = map to_ascii_lowercase p.characters }

abbrev out : ℕ → Bool
out c = not (is_word_character c)

-- a text in small letters is cut at the same places
lowercase_between : (n : ℕ) (cs : List ℕ) → AllAscii cs → parts_between out n (map to_ascii_lowercase cs) ≡ map lowercase_part (parts_between out n cs)
unfolding parts_between
lowercase_between n [] low = refl
lowercase_between n (c ∷ cs) low =
    let size : len_utf8 (to_ascii_lowercase c) ≡ len_utf8 c = one_byte (to_ascii_lowercase c) (lower_below c low.0) ∙ sym (one_byte c low.0) in
    rw (lower_word c, size) (by_bit (out c) (parts_between out (n + len_utf8 c) (map to_ascii_lowercase cs)) (parts_between out (n + len_utf8 c) cs) (lowercase_between (n + len_utf8 c) cs low.1))
  where
    front : (ps : List Part) → in_front n (to_ascii_lowercase c) (map lowercase_part ps) ≡ map lowercase_part (in_front n c ps)
    front [] = refl
    front (p ∷ ps) = refl

    by_bit : (b : Bool) (xs ys : List Part) → xs ≡ map lowercase_part ys
        → cond b (record { offset = n; characters = [] } ∷ xs) (in_front n (to_ascii_lowercase c) xs) ≡ map lowercase_part (cond b (record { offset = n; characters = [] } ∷ ys) (in_front n c ys))
    by_bit true xs ys same = ap (λ (ps : List Part). record { offset = n; characters = [] } ∷ ps) same
    by_bit false xs ys same = ap (in_front n (to_ascii_lowercase c)) same ∙ front ys

lowercase_spoken : (ps : List Part) → spoken_parts (map lowercase_part ps) ≡ map lowercase_part (spoken_parts ps)
lowercase_spoken [] = refl
lowercase_spoken (p ∷ ps) = rw (any_letter p.characters) (by_bit (list_any is_ascii_alphanumeric p.characters) _ _ (lowercase_spoken ps))
  where
    any_letter : (cs : List ℕ) → list_any is_ascii_alphanumeric (map to_ascii_lowercase cs) ≡ list_any is_ascii_alphanumeric cs
    any_letter [] = refl
    any_letter (c ∷ cs) = ap₂ (λ (a b : Bool). a || b) (lower_letter c) (any_letter cs)

    by_bit : (b : Bool) (xs ys : List Part) → xs ≡ map lowercase_part ys → cond b (lowercase_part p ∷ xs) xs ≡ map lowercase_part (cond b (p ∷ ys) ys)
    by_bit true xs ys same = ap (λ (qs : List Part). lowercase_part p ∷ qs) same
    by_bit false xs ys same = same

-- the characters of all parts are ASCII
abbrev AreAscii : List Part → Type 0
AreAscii [] = ⊤
AreAscii (p ∷ ps) = AllAscii p.characters × AreAscii ps

ascii_between : (n : ℕ) (cs : List ℕ) → AllAscii cs → AreAscii (parts_between out n cs)
unfolding parts_between
ascii_between n [] low = (tt, tt)
ascii_between n (c ∷ cs) low = by_bit (out c) (parts_between out (n + len_utf8 c) cs) (ascii_between (n + len_utf8 c) cs low.1)
  where
    front : (ps : List Part) → AreAscii ps → AreAscii (in_front n c ps)
    front [] all = ((low.0, tt), tt)
    front (p ∷ ps) all = ((low.0, all.0), all.1)

    by_bit : (b : Bool) (ps : List Part) → AreAscii ps → AreAscii (cond b (record { offset = n; characters = [] } ∷ ps) (in_front n c ps))
    by_bit true ps all = (tt, all)
    by_bit false ps all = front ps all

ascii_spoken : (ps : List Part) → AreAscii ps → AreAscii (spoken_parts ps)
ascii_spoken [] all = tt
ascii_spoken (p ∷ ps) all = by_bit (list_any is_ascii_alphanumeric p.characters) (spoken_parts ps) (ascii_spoken ps all.1)
  where
    by_bit : (b : Bool) (qs : List Part) → AreAscii qs → AreAscii (cond b (p ∷ qs) qs)
    by_bit true qs rest = (all.0, rest)
    by_bit false qs rest = rest

-- the tokens of parts in small letters have their case folded
lowercase_words : (k : ℕ) (ps : List Part) → AreAscii ps → part_words k (map lowercase_part ps) ≡ fold_case (part_words k ps)
lowercase_words k [] all = refl
lowercase_words k (p ∷ ps) all = ap₂ (λ (w : Word) (ws : List Word). w ∷ ws) word (lowercase_words (k + 1) ps all.1)
  where
    cs : List ℕ
    cs = p.characters

    ascii : IsAscii cs
    ascii = IsAscii-all cs all.0

    lower : encode_utf8_all (map to_ascii_lowercase cs) ≡ map to_ascii_lowercase cs
    lower = encodes-IsAscii (map to_ascii_lowercase cs) (IsAscii-map to_ascii_lowercase cs lower_below ascii)

    same : encode_utf8_all cs ≡ cs
    same = encodes-IsAscii cs ascii

    size : length (encode_utf8_all (map to_ascii_lowercase cs)) ≡ length (encode_utf8_all cs)
    size = ap length lower ∙ length-map cs to_ascii_lowercase ∙ sym (ap length same)

    text : encode_utf8_all (map to_ascii_lowercase cs) ≡ folded_text (encode_utf8_all cs)
    text = lower ∙ fold-ascii cs ascii ∙ ap folded_text (sym same)

    word : part_word k (lowercase_part p) ≡ folded (part_word k p)
    word = ap₂ (λ (n : ℕ) (bs : List ℕ). record { offset_from = p.offset; offset_to = p.offset + n; position = k; text = bs; position_length = 1 }) size text

-- the default words of an ASCII text are the short runs of the text in small letters
pub ascii_default : (text lower : List ℕ) → IsAscii text → lower ≡ map to_ascii_lowercase text → remove_long 40 (part_words 0 (ascii_parts 0 lower)) ≡ default_words text
ascii_default text lower ascii is =
    let low = AllAscii-is text ascii in
    ap (remove_long 40) (
    ap (λ (bs : List ℕ). part_words 0 (ascii_parts 0 bs)) is
    ∙ ap (λ (ps : List Part). part_words 0 (spoken_parts ps)) (lowercase_between 0 text low)
    ∙ ap (part_words 0) (lowercase_spoken (parts_between out 0 text))
    ∙ lowercase_words 0 (ascii_parts 0 text) (ascii_spoken (parts_between out 0 text) (ascii_between 0 text low))
    ∙ ap (λ (ps : List Part). fold_case (part_words 0 ps)) (sym (ascii_rule_parts 0 text ascii))
    )

pub lower_is_ascii : (text lower : List ℕ) → IsAscii text → lower ≡ map to_ascii_lowercase text → IsAscii lower
lower_is_ascii text lower ascii is = rw is (IsAscii-map to_ascii_lowercase text lower_below ascii)
