-- On ASCII texts the words of Unicode, cut at the marks inside them, are runs of letters, digits and underscores.
use Rattle.std.proofs.Common.{◌≡◌, ℕ, ◌+◌, ◌<◌, Bool, true, false, cond, not, ◌&&◌, ◌||◌, List, [], ◌∷◌, ◌++◌, length, map, filter, refl, sym, ap, ap₂, ◌∙◌, subst, arith}
use Rattle.std.specs.Prelude.{IsAscii, chars, encode_utf8_all}
use Rattle.std.specs.Char.{is_ascii_alphanumeric}
use Rattle.std.specs.List.{flat_map, list_any}
use Rattle.std.proofs.lemmas.Bool.{and_parts}
use Rattle.std.proofs.lemmas.Bool.Decides.{nat_tests}
use Rattle.std.proofs.lemmas.Str.{chars-IsAscii, encodes-IsAscii}
use Rattle.ucd_breaks.specs.WordBreak.{word_break}
use Rattle.unicode_segmentation.specs.Segments.{cut, has_alphanumeric, is_alphanumeric, prepend, segments, with_offsets}
use Rattle.unicode_segmentation.specs.Word.{is_extend_num_let, is_word_break}
use Rattle.unicode_segmentation.proofs.AsciiLemmas.{is_alphanumeric_ascii}
use Rattle.ii_base.specs.Parts.{ascii_parts, is_word_character, parts_between}
use Rattle.ii_tokenizers.specs.Analyzers.{cuts_at, nonempty_parts, piece_parts, rule_parts}
use Rattle.ii_tokenizers.specs.declared.parts.Cut.TheVariants.{AtMarks}
use Rattle.ii_base.proofs.RunLemmas.{AllAscii, AllAscii-is}
use Rattle.ii_tokenizers.proofs.AsciiPartLemmas.{AllAscii-back, AllAscii-front, AreCut, IsAscii-all, IsPiece, no_runs, parted, piece_runs, runs, runs_join, unbroken_piece}
use Rattle.ii_tokenizers.proofs.SpaceLemmas.{piece_has}
use Rattle.ii_tokenizers.proofs.WordKindLemmas.{are_parted, breaks_here, is_gap, is_inner, is_word_kind, kind_of, mark_apart, only_underscore, word_stays}

abbrev mark : ℕ → Bool
mark = cuts_at AtMarks

abbrev letter : ℕ → Bool
letter = is_ascii_alphanumeric

abbrev word : ℕ → Bool
word = is_word_character

word_low : (c : ℕ) → word c ≡ true → c < 128
word_low c is = grind (arith, nat_tests)

word_is : (c : ℕ) → c < 128 → word c ≡ is_word_kind (word_break c)
word_is c low = ap₂ ◌||◌ (kind_of c low).letter (kind_of c low).underscore

apart : (c : ℕ) → word c ≡ true → mark c ≡ false
apart c is = mark_apart (word_break c) (sym (word_is c (word_low c is)) ∙ is)

worded : (c : ℕ) → letter c ≡ true → word c ≡ true
worded c is = rw is refl

parted_is : (c d : ℕ) → c < 128 → d < 128 → parted word mark letter c d ≡ are_parted (word_break c) (word_break d)
parted_is c d c_low d_low =
    let inside_c : (word c || mark c) ≡ is_inner (word_break c) = ap (λ (b : Bool). b || mark c) (word_is c c_low) in
    let inside_d : (word d || mark d) ≡ is_inner (word_break d) = ap (λ (b : Bool). b || mark d) (word_is d d_low) in
    let gap_c : not (word c || mark c) ≡ is_gap (word_break c) = ap not inside_c ∙ sym (kind_of c c_low).gap in
    let gap_d : not (word d || mark d) ≡ is_gap (word_break d) = ap not inside_d ∙ sym (kind_of d d_low).gap in
    let under_c : (word c && not (letter c)) ≡ is_extend_num_let (word_break c) = ap₂ (λ (x y : Bool). x && not y) (word_is c c_low) (kind_of c c_low).letter ∙ only_underscore (word_break c) in
    let under_d : (word d && not (letter d)) ≡ is_extend_num_let (word_break d) = ap₂ (λ (x y : Bool). x && not y) (word_is d d_low) (kind_of d d_low).letter ∙ only_underscore (word_break d) in
    ap₂ ◌||◌ (ap₂ ◌||◌ (ap₂ ◌&&◌ gap_c inside_d) (ap₂ ◌&&◌ inside_c gap_d)) (ap₂ ◌||◌ (ap (λ (b : Bool). mark c && b) under_d) (ap (λ (b : Bool). b && mark d) under_c))

-- what a rule breaks
joined_whole : (c : ℕ) (before : List ℕ) (d : ℕ) (after : List ℕ) → c < 128 → d < 128 → is_word_break (c ∷ before) (d ∷ after) ≡ false → parted word mark letter c d ≡ false
joined_whole c before d after c_low d_low joined = by_bit (parted word mark letter c d) refl
  where
    by_bit : (b : Bool) → parted word mark letter c d ≡ b → parted word mark letter c d ≡ false
    by_bit true is = absurd (cc (breaks_here c before d after c_low d_low (sym (parted_is c d c_low d_low) ∙ is), joined))
    by_bit false is = is

broken_apart : (c : ℕ) (before : List ℕ) (d : ℕ) (after : List ℕ) → c < 128 → d < 128 → is_word_break (c ∷ before) (d ∷ after) ≡ true → (word c && word d) ≡ false
broken_apart c before d after c_low d_low broken = by_bit (word c && word d) refl
  where
    by_bit : (b : Bool) → (word c && word d) ≡ b → (word c && word d) ≡ false
    by_bit true is =
        let both = and_parts (word c) (word d) is in
        absurd (cc (word_stays c before d after c_low d_low (sym (word_is c c_low) ∙ both.0) (sym (word_is d d_low) ∙ both.1), broken))
    by_bit false is = is

-- the pieces between breaks are unbroken, and no run goes on after one
cut_pieces : (before cs : List ℕ) → AllAscii cs → AreCut word mark letter cs (cut is_word_break before cs [])
unfolding cut is_word_break
cut_pieces before [] low = refl
cut_pieces before (c ∷ []) low = ([], refl, tt, refl)
cut_pieces before (c ∷ (d ∷ cs)) low = by_case (is_word_break (c ∷ before) (d ∷ (cs ++ []))) refl (cut_pieces (c ∷ before) (d ∷ cs) low.1)
  where
    front : parted word mark letter c d ≡ false → (ps : List (List ℕ)) → AreCut word mark letter (d ∷ cs) ps → AreCut word mark letter (c ∷ (d ∷ cs)) (prepend (c ∷ []) ps)
    front whole [] are = absurd (cc are)
    front whole ([] ∷ ps) are = absurd are.2
    front whole ((e ∷ p) ∷ ps) are =
        let same : d ≡ e = cc are.1 in
        (are.0, ap (λ (l : List ℕ). c ∷ l) are.1, (subst (λ (k : ℕ). parted word mark letter c k ≡ false) same whole, are.2), are.3)

    by_case : (b : Bool) → is_word_break (c ∷ before) (d ∷ (cs ++ [])) ≡ b → AreCut word mark letter (d ∷ cs) (cut is_word_break (c ∷ before) (d ∷ cs) []) → AreCut word mark letter (c ∷ (d ∷ cs)) (cut is_word_break before (c ∷ (d ∷ cs)) [])
    by_case true is are = rw is (d ∷ cs, refl, broken_apart c before d (cs ++ []) low.0 low.1.0 is, are)
    by_case false is are = rw is (front (joined_whole c before d (cs ++ []) low.0 low.1.0 is) (cut is_word_break (c ∷ before) (d ∷ cs) []) are)

same_letters : (cs : List ℕ) → AllAscii cs → list_any is_alphanumeric cs ≡ list_any letter cs
same_letters [] low = refl
same_letters (c ∷ cs) low = ap₂ ◌||◌ (sym (is_alphanumeric_ascii c low.0)) (same_letters cs low.1)

filter_first : {X Y : Type 0} (f : X → List Y) (test : X → Bool) (x : X) (xs : List X) → flat_map f (filter test (x ∷ xs)) ≡ cond (test x) (f x) [] ++ flat_map f (filter test xs)
filter_first f test x xs = by_case (test x) refl
  where
    by_case : (b : Bool) → test x ≡ b → flat_map f (filter test (x ∷ xs)) ≡ cond (test x) (f x) [] ++ flat_map f (filter test xs)
    by_case true is = rw is refl
    by_case false is = rw is refl

-- the parts of a piece
one_piece : (n : ℕ) (p rest : List ℕ) → AllAscii p → IsPiece word mark letter p rest → cond (piece_has (n, encode_utf8_all p)) (piece_parts AtMarks (n, encode_utf8_all p)) [] ≡ runs word mark letter n p
unfolding has_alphanumeric
one_piece n p rest low piece =
    let ascii = IsAscii-all p low in
    let text : chars (encode_utf8_all p) ≡ p = ap chars (encodes-IsAscii p ascii) ∙ chars-IsAscii p ascii in
    ap (λ (cs : List ℕ). cond (list_any is_alphanumeric cs) (nonempty_parts (parts_between mark n cs)) []) text
    ∙ ap (λ (b : Bool). cond b (nonempty_parts (parts_between mark n p)) []) (same_letters p low)
    ∙ piece_runs word mark letter apart worded n p (unbroken_piece word mark letter p rest piece)

pieces_runs : (n : ℕ) (cs : List ℕ) (ps : List (List ℕ)) → AllAscii cs → AreCut word mark letter cs ps → flat_map (piece_parts AtMarks) (filter piece_has (with_offsets n (map encode_utf8_all ps))) ≡ runs word mark letter n cs
unfolding with_offsets
pieces_runs n cs [] low are = sym (ap (runs word mark letter n) are ∙ no_runs word mark letter n)
pieces_runs n cs (p ∷ ps) low are =
    let rest = are.0 in
    let whole : AllAscii (p ++ rest) = subst AllAscii are.1 low in
    let front = AllAscii-front p rest whole in
    let size : n + length (encode_utf8_all p) ≡ n + length p = ap (λ (bs : List ℕ). n + length bs) (encodes-IsAscii p (IsAscii-all p front)) in
    filter_first (piece_parts AtMarks) piece_has (n, encode_utf8_all p) (with_offsets (n + length (encode_utf8_all p)) (map encode_utf8_all ps))
    ∙ ap₂ ◌++◌ (one_piece n p rest front are.2) (pieces_runs (n + length (encode_utf8_all p)) rest ps (AllAscii-back p rest whole) are.3 ∙ ap (λ (k : ℕ). runs word mark letter k rest) size)
    ∙ sym (runs_join word mark letter n p rest whole are.2)
    ∙ ap (runs word mark letter n) (sym are.1)

-- the law, at any offset
pub ascii_rule_parts : (n : ℕ) (text : List ℕ) → IsAscii text → rule_parts n text ≡ ascii_parts n text
unfolding segments
ascii_rule_parts n text ascii =
    let low = AllAscii-is text ascii in
    ap (λ (cs : List ℕ). flat_map (piece_parts AtMarks) (filter piece_has (with_offsets n (map encode_utf8_all (cut is_word_break [] cs []))))) (chars-IsAscii text ascii)
    ∙ pieces_runs n text (cut is_word_break [] text []) low (cut_pieces [] text low)

-- at the start
