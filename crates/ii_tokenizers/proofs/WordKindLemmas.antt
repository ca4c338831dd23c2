-- Where the rules of Unicode break a text between two ASCII characters.
use Rattle.std.proofs.Common.{◌≡◌, ℕ, zero, suc, ◌<◌, Bool, true, false, not, ◌&&◌, ◌||◌, ◌==◌, Option, None, List, ◌∷◌, unwrap_or, refl, ap, ap₂, ◌∙◌, ◌⊎◌, not-suc-le-zero, inl, inr, subst, arith}
use Rattle.std.specs.Char.{is_ascii_alphanumeric}
use Rattle.std.proofs.lemmas.Bool.{and_parts, cases_lt}
use Rattle.ucd_breaks.proofs.Computing.{ucd_breaks}
use Rattle.ucd_breaks.specs.WordBreak.{word_break}
use Rattle.ucd_breaks.specs.declared.WordBreak.{WordBreak}
use Rattle.ucd_breaks.specs.declared.WordBreak.TheVariants.{ALetter, Cr, DoubleQuote, Extend, ExtendNumLet, Format, Lf, MidLetter, MidNum, MidNumLet, Newline, Numeric, Other, RegionalIndicator, SingleQuote, WSegSpace, Zwj}
use Rattle.unicode_segmentation.specs.Word.{break_by_pair, is_extend_num_let, is_ignored, is_regional, is_word_break, joins, joins_flag, significant, starts_with_half_flag, value_at}
use Rattle.unicode_segmentation.proofs.BoolLemmas.{and-false, or-false, or-true, same, same-true}
use Rattle.unicode_segmentation.proofs.WordLemmas.{significant-kept}
use Rattle.ii_tokenizers.specs.Analyzers.{is_mark}

-- a letter or a digit
abbrev pub is_letter_or_digit : WordBreak → Bool
is_letter_or_digit ALetter = true
is_letter_or_digit Numeric = true
is_letter_or_digit _ = false

-- a letter, a digit or the underscore
abbrev pub is_word_kind : WordBreak → Bool
is_word_kind kind = is_letter_or_digit kind || is_extend_num_let kind

-- what may be inside a word
abbrev pub is_inner : WordBreak → Bool
is_inner kind = is_word_kind kind || is_mark kind

-- any other kind of ASCII character
abbrev pub is_gap : WordBreak → Bool
is_gap Cr = true
is_gap Lf = true
is_gap Newline = true
is_gap WSegSpace = true
is_gap Other = true
is_gap _ = false

-- the kinds of neighbors that every text is broken between
abbrev pub are_parted : WordBreak → WordBreak → Bool
are_parted left right =
    ((is_gap left && is_inner right) || (is_inner left && is_gap right)) || ((is_mark left && is_extend_num_let right) || (is_extend_num_let left && is_mark right))

-- ---- the kinds of ASCII characters

unfoldable all_below : (ℕ → Bool) → ℕ → Bool
all_below p zero = true
all_below p (suc n) = p n && all_below p n

abbrev agrees : ℕ → WordBreak → Bool
agrees c kind =
    same (is_ascii_alphanumeric c) (is_letter_or_digit kind) && same (c == 95) (is_extend_num_let kind) && same (is_gap kind) (not (is_inner kind))

abbrev all_agree : Bool
all_agree = all_below (λ (c : ℕ). agrees c (word_break c)) 128

all_agree-true : all_agree ≡ true
unfolding all_below ucd_breaks
all_agree-true = refl

below-at : (p : ℕ → Bool) (n c : ℕ) → all_below p n ≡ true → c < n → p c ≡ true
unfolding all_below
below-at p zero c all below = absurd (not-suc-le-zero below)
below-at p (suc n) c all below =
    let parts = and_parts (p n) (all_below p n) all in
    elim (cases_lt c n) [
      | inl less ↦ below-at p n c parts.1 less
      | inr more ↦ let last : n ≡ c = omega (arith, below, more) in subst (λ (k : ℕ). p k ≡ true) last parts.0
    ]

-- the kind of an ASCII character
pub record IsKind (c : ℕ) (kind : WordBreak) : Type 0 where
  pub letter : is_ascii_alphanumeric c ≡ is_letter_or_digit kind
  pub underscore : (c == 95) ≡ is_extend_num_let kind
  pub gap : is_gap kind ≡ not (is_inner kind)

pub kind_of : (c : ℕ) → c < 128 → IsKind c (word_break c)
kind_of c below =
    let agree : agrees c (word_break c) ≡ true = below-at (λ (d : ℕ). agrees d (word_break d)) 128 c all_agree-true below in
    let kind = word_break c in
    let last = and_parts (same (is_ascii_alphanumeric c) (is_letter_or_digit kind) && same (c == 95) (is_extend_num_let kind)) (same (is_gap kind) (not (is_inner kind))) agree in
    let first = and_parts (same (is_ascii_alphanumeric c) (is_letter_or_digit kind)) (same (c == 95) (is_extend_num_let kind)) last.0 in
    record { letter = same-true _ _ first.0; underscore = same-true _ _ first.1; gap = same-true _ _ last.1 }

-- ---- the rules

joins_words : (far_left left right far_right : WordBreak) → is_word_kind left ≡ true → is_word_kind right ≡ true → joins far_left left right far_right ≡ true
joins_words far_left ALetter ALetter far_right l r = refl
joins_words far_left ALetter Numeric far_right l r = simp (and-false, or-false, or-true)
joins_words far_left ALetter ExtendNumLet far_right l r = simp (and-false, or-false, or-true)
joins_words far_left Numeric ALetter far_right l r = simp (and-false, or-false, or-true)
joins_words far_left Numeric Numeric far_right l r = simp (and-false, or-false, or-true)
joins_words far_left Numeric ExtendNumLet far_right l r = simp (and-false, or-false, or-true)
joins_words far_left ExtendNumLet ALetter far_right l r = simp (and-false, or-false, or-true)
joins_words far_left ExtendNumLet Numeric far_right l r = simp (and-false, or-false, or-true)
joins_words far_left ExtendNumLet ExtendNumLet far_right l r = simp (and-false, or-false, or-true)
joins_words far_left _ _ far_right l r = cc

no_pair_rule : (left right : WordBreak) (pictographic : Bool) → is_word_kind left ≡ true → is_word_kind right ≡ true → break_by_pair left right pictographic ≡ None
no_pair_rule ALetter ALetter pictographic l r = refl
no_pair_rule ALetter Numeric pictographic l r = refl
no_pair_rule ALetter ExtendNumLet pictographic l r = refl
no_pair_rule Numeric ALetter pictographic l r = refl
no_pair_rule Numeric Numeric pictographic l r = refl
no_pair_rule Numeric ExtendNumLet pictographic l r = refl
no_pair_rule ExtendNumLet ALetter pictographic l r = refl
no_pair_rule ExtendNumLet Numeric pictographic l r = refl
no_pair_rule ExtendNumLet ExtendNumLet pictographic l r = refl
no_pair_rule _ _ pictographic l r = cc

-- what the rules say of two neighbors between two others
abbrev pub parts : WordBreak → WordBreak → WordBreak → WordBreak → Bool → Bool
parts far_left left right far_right pictographic = unwrap_or (break_by_pair left right pictographic) (not (joins far_left left right far_right || false))

gap_first : (far_left left right far_right : WordBreak) (pictographic : Bool) → is_gap left ≡ true → is_inner right ≡ true → parts far_left left right far_right pictographic ≡ true
gap_first far_left Cr ALetter far_right pictographic l r = refl
gap_first far_left Cr Numeric far_right pictographic l r = refl
gap_first far_left Cr ExtendNumLet far_right pictographic l r = refl
gap_first far_left Cr SingleQuote far_right pictographic l r = refl
gap_first far_left Cr DoubleQuote far_right pictographic l r = refl
gap_first far_left Cr MidLetter far_right pictographic l r = refl
gap_first far_left Cr MidNum far_right pictographic l r = refl
gap_first far_left Cr MidNumLet far_right pictographic l r = refl
gap_first far_left Lf right far_right pictographic l r = refl
gap_first far_left Newline right far_right pictographic l r = refl
gap_first far_left WSegSpace ALetter far_right pictographic l r = simp (and-false, or-false)
gap_first far_left WSegSpace Numeric far_right pictographic l r = simp (and-false, or-false)
gap_first far_left WSegSpace ExtendNumLet far_right pictographic l r = simp (and-false, or-false)
gap_first far_left WSegSpace SingleQuote far_right pictographic l r = simp (and-false, or-false)
gap_first far_left WSegSpace DoubleQuote far_right pictographic l r = simp (and-false, or-false)
gap_first far_left WSegSpace MidLetter far_right pictographic l r = simp (and-false, or-false)
gap_first far_left WSegSpace MidNum far_right pictographic l r = simp (and-false, or-false)
gap_first far_left WSegSpace MidNumLet far_right pictographic l r = simp (and-false, or-false)
gap_first far_left Other ALetter far_right pictographic l r = simp (and-false, or-false)
gap_first far_left Other Numeric far_right pictographic l r = simp (and-false, or-false)
gap_first far_left Other ExtendNumLet far_right pictographic l r = simp (and-false, or-false)
gap_first far_left Other SingleQuote far_right pictographic l r = simp (and-false, or-false)
gap_first far_left Other DoubleQuote far_right pictographic l r = simp (and-false, or-false)
gap_first far_left Other MidLetter far_right pictographic l r = simp (and-false, or-false)
gap_first far_left Other MidNum far_right pictographic l r = simp (and-false, or-false)
gap_first far_left Other MidNumLet far_right pictographic l r = simp (and-false, or-false)
gap_first far_left _ _ far_right pictographic l r = cc

gap_last : (far_left left right far_right : WordBreak) (pictographic : Bool) → is_inner left ≡ true → is_gap right ≡ true → parts far_left left right far_right pictographic ≡ true
gap_last far_left ALetter Cr far_right pictographic l r = refl
gap_last far_left ALetter Lf far_right pictographic l r = refl
gap_last far_left ALetter Newline far_right pictographic l r = refl
gap_last far_left ALetter WSegSpace far_right pictographic l r = simp (and-false, or-false)
gap_last far_left ALetter Other far_right pictographic l r = simp (and-false, or-false)
gap_last far_left Numeric Cr far_right pictographic l r = refl
gap_last far_left Numeric Lf far_right pictographic l r = refl
gap_last far_left Numeric Newline far_right pictographic l r = refl
gap_last far_left Numeric WSegSpace far_right pictographic l r = simp (and-false, or-false)
gap_last far_left Numeric Other far_right pictographic l r = simp (and-false, or-false)
gap_last far_left ExtendNumLet Cr far_right pictographic l r = refl
gap_last far_left ExtendNumLet Lf far_right pictographic l r = refl
gap_last far_left ExtendNumLet Newline far_right pictographic l r = refl
gap_last far_left ExtendNumLet WSegSpace far_right pictographic l r = simp (and-false, or-false)
gap_last far_left ExtendNumLet Other far_right pictographic l r = simp (and-false, or-false)
gap_last far_left SingleQuote Cr far_right pictographic l r = refl
gap_last far_left SingleQuote Lf far_right pictographic l r = refl
gap_last far_left SingleQuote Newline far_right pictographic l r = refl
gap_last far_left SingleQuote WSegSpace far_right pictographic l r = simp (and-false, or-false)
gap_last far_left SingleQuote Other far_right pictographic l r = simp (and-false, or-false)
gap_last far_left DoubleQuote Cr far_right pictographic l r = refl
gap_last far_left DoubleQuote Lf far_right pictographic l r = refl
gap_last far_left DoubleQuote Newline far_right pictographic l r = refl
gap_last far_left DoubleQuote WSegSpace far_right pictographic l r = simp (and-false, or-false)
gap_last far_left DoubleQuote Other far_right pictographic l r = simp (and-false, or-false)
gap_last far_left MidLetter Cr far_right pictographic l r = refl
gap_last far_left MidLetter Lf far_right pictographic l r = refl
gap_last far_left MidLetter Newline far_right pictographic l r = refl
gap_last far_left MidLetter WSegSpace far_right pictographic l r = simp (and-false, or-false)
gap_last far_left MidLetter Other far_right pictographic l r = simp (and-false, or-false)
gap_last far_left MidNum Cr far_right pictographic l r = refl
gap_last far_left MidNum Lf far_right pictographic l r = refl
gap_last far_left MidNum Newline far_right pictographic l r = refl
gap_last far_left MidNum WSegSpace far_right pictographic l r = simp (and-false, or-false)
gap_last far_left MidNum Other far_right pictographic l r = simp (and-false, or-false)
gap_last far_left MidNumLet Cr far_right pictographic l r = refl
gap_last far_left MidNumLet Lf far_right pictographic l r = refl
gap_last far_left MidNumLet Newline far_right pictographic l r = refl
gap_last far_left MidNumLet WSegSpace far_right pictographic l r = simp (and-false, or-false)
gap_last far_left MidNumLet Other far_right pictographic l r = simp (and-false, or-false)
gap_last far_left _ _ far_right pictographic l r = cc

underscore_last : (far_left left right far_right : WordBreak) (pictographic : Bool) → is_mark left ≡ true → is_extend_num_let right ≡ true → parts far_left left right far_right pictographic ≡ true
underscore_last far_left SingleQuote ExtendNumLet far_right pictographic l r = simp (and-false, or-false)
underscore_last far_left DoubleQuote ExtendNumLet far_right pictographic l r = simp (and-false, or-false)
underscore_last far_left MidLetter ExtendNumLet far_right pictographic l r = simp (and-false, or-false)
underscore_last far_left MidNum ExtendNumLet far_right pictographic l r = simp (and-false, or-false)
underscore_last far_left MidNumLet ExtendNumLet far_right pictographic l r = simp (and-false, or-false)
underscore_last far_left _ _ far_right pictographic l r = cc

underscore_first : (far_left left right far_right : WordBreak) (pictographic : Bool) → is_extend_num_let left ≡ true → is_mark right ≡ true → parts far_left left right far_right pictographic ≡ true
underscore_first far_left ExtendNumLet SingleQuote far_right pictographic l r = simp (and-false, or-false)
underscore_first far_left ExtendNumLet DoubleQuote far_right pictographic l r = simp (and-false, or-false)
underscore_first far_left ExtendNumLet MidLetter far_right pictographic l r = simp (and-false, or-false)
underscore_first far_left ExtendNumLet MidNum far_right pictographic l r = simp (and-false, or-false)
underscore_first far_left ExtendNumLet MidNumLet far_right pictographic l r = simp (and-false, or-false)
underscore_first far_left _ _ far_right pictographic l r = cc

-- where a rule speaks of two neighbors, the one before and the one after don't matter
pub parted_breaks : (far_left left right far_right : WordBreak) (pictographic : Bool) → are_parted left right ≡ true → parts far_left left right far_right pictographic ≡ true
parted_breaks far_left left right far_right pictographic parted =
    elim (or_cases ((is_gap left && is_inner right) || (is_inner left && is_gap right)) ((is_mark left && is_extend_num_let right) || (is_extend_num_let left && is_mark right)) parted) [
      | inl first ↦ elim (or_cases (is_gap left && is_inner right) (is_inner left && is_gap right) first) [
        | inl e ↦ let both = and_parts (is_gap left) (is_inner right) e in gap_first far_left left right far_right pictographic both.0 both.1
        | inr e ↦ let both = and_parts (is_inner left) (is_gap right) e in gap_last far_left left right far_right pictographic both.0 both.1
      ]
      | inr last ↦ elim (or_cases (is_mark left && is_extend_num_let right) (is_extend_num_let left && is_mark right) last) [
        | inl e ↦ let both = and_parts (is_mark left) (is_extend_num_let right) e in underscore_last far_left left right far_right pictographic both.0 both.1
        | inr e ↦ let both = and_parts (is_extend_num_let left) (is_mark right) e in underscore_first far_left left right far_right pictographic both.0 both.1
      ]
    ]
  where
    or_cases : (a b : Bool) → (a || b) ≡ true → (a ≡ true) ⊎ (b ≡ true)
    or_cases true b e = inl refl
    or_cases false b e = inr e

kept_kind : (kind : WordBreak) → is_gap kind ≡ not (is_inner kind) → is_ignored kind ≡ false
kept_kind Extend e = cc
kept_kind Format e = cc
kept_kind Zwj e = cc
kept_kind _ e = refl

no_flag : (kind : WordBreak) → is_gap kind ≡ not (is_inner kind) → is_regional kind ≡ false
no_flag RegionalIndicator e = cc
no_flag _ e = refl

-- the rule between two ASCII characters
between : (last : ℕ) (before : List ℕ) (next : ℕ) (after : List ℕ) → last < 128 → next < 128
    → (pictographic : Bool) × (is_word_break (last ∷ before) (next ∷ after) ≡ parts (value_at (significant before) 0) (word_break last) (word_break next) (value_at (significant after) 0) pictographic)
unfolding is_word_break
between last before next after last_ascii next_ascii = (_, shape _)
  where
    known : significant (last ∷ before) ≡ word_break last ∷ significant before
    known = significant-kept last before (kept_kind (word_break last) (kind_of last last_ascii).gap)

    flag : joins_flag (last ∷ before) next ≡ false
    flag = ap (λ (b : Bool). starts_with_half_flag (significant (last ∷ before)) && b) (no_flag (word_break next) (kind_of next next_ascii).gap) ∙ and-false _

    shape : (pictographic : Bool)
        → unwrap_or (break_by_pair (word_break last) (word_break next) pictographic) (not (joins (value_at (significant (last ∷ before)) 1) (value_at (significant (last ∷ before)) 0) (word_break next) (value_at (significant after) 0) || joins_flag (last ∷ before) next))
        ≡ parts (value_at (significant before) 0) (word_break last) (word_break next) (value_at (significant after) 0) pictographic
    shape pictographic =
        ap₂ (λ (values : List WordBreak) (b : Bool). unwrap_or (break_by_pair (word_break last) (word_break next) pictographic) (not (joins (value_at values 1) (value_at values 0) (word_break next) (value_at (significant after) 0) || b))) known flag

-- no text is broken between letters, digits and underscores
pub word_stays : (last : ℕ) (before : List ℕ) (next : ℕ) (after : List ℕ) → last < 128 → next < 128 → is_word_kind (word_break last) ≡ true → is_word_kind (word_break next) ≡ true → is_word_break (last ∷ before) (next ∷ after) ≡ false
word_stays last before next after last_ascii next_ascii left right =
    let here = between last before next after last_ascii next_ascii in
    here.1
    ∙ ap (λ (b : Option Bool). unwrap_or b (not (joins (value_at (significant before) 0) (word_break last) (word_break next) (value_at (significant after) 0) || false))) (no_pair_rule (word_break last) (word_break next) here.0 left right)
    ∙ ap (λ (b : Bool). not (b || false)) (joins_words (value_at (significant before) 0) (word_break last) (word_break next) (value_at (significant after) 0) left right)

-- and each text is broken between parted kinds
pub breaks_here : (last : ℕ) (before : List ℕ) (next : ℕ) (after : List ℕ) → last < 128 → next < 128 → are_parted (word_break last) (word_break next) ≡ true → is_word_break (last ∷ before) (next ∷ after) ≡ true
breaks_here last before next after last_ascii next_ascii parted =
    let here = between last before next after last_ascii next_ascii in
    here.1 ∙ parted_breaks (value_at (significant before) 0) (word_break last) (word_break next) (value_at (significant after) 0) here.0 parted

-- no mark belongs to a word
pub mark_apart : (kind : WordBreak) → is_word_kind kind ≡ true → is_mark kind ≡ false
mark_apart ALetter word = refl
mark_apart Numeric word = refl
mark_apart ExtendNumLet word = refl
mark_apart _ word = cc

-- a word's character that is no letter and no digit is the underscore
pub only_underscore : (kind : WordBreak) → (is_word_kind kind && not (is_letter_or_digit kind)) ≡ is_extend_num_let kind
only_underscore ALetter = refl
only_underscore Numeric = refl
only_underscore ExtendNumLet = refl
only_underscore _ = refl
