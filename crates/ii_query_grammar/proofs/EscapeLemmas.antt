-- Escaped texts: where they end, and what they are without escapes.
use Rattle.std.proofs.Common.{◌≡◌, ◌∙◌, ℕ, suc, ◌-◌, Bool, true, false, ◌&&◌, ◌||◌, ◌==◌, not, List, [], ◌∷◌, ◌++◌, cond, length, refl, sym, ap, arith}
use Rattle.std.proofs.Math.Bool.{and-false, or-true}
use Rattle.std.specs.Prelude.{slice_index}
use Rattle.std.proofs.lemmas.Bool.{and_parts, eqb-true, not-true}
use Rattle.ii_query_grammar.specs.declared.cut.Stop.{Stop}
use Rattle.ii_query_grammar.specs.declared.cut.Stop.TheVariants as stops
use Rattle.ii_query_grammar.specs.Lexemes.{ends_word, is_empty, is_escape, is_special, place_of, stops_at, unescaped}
use Rattle.ii_query_grammar.specs.Spelling.{escaped, is_writable, word_text}
use Rattle.ii_query_grammar.proofs.CutLemmas.{escaped_case, place_case}

-- How what ends a word or a phrase and what is escaped in it fit together.
pub record AreTogether (end quoting : Stop) : Type 0 where
  pub never : (b : ℕ) → stops_at end b true ≡ false
  pub backslash : (f : Bool) → stops_at end 92 f ≡ false
  pub plain : (b : ℕ) (a f : Bool) → stops_at quoting b a ≡ false → stops_at end b f ≡ false
  pub special : (b : ℕ) (a : Bool) → stops_at quoting b a ≡ true → is_special b ≡ true

or_more : (a b c d e f g h : Bool) → a ≡ true → (a || b || c || d || e || f || g || h) ≡ true
or_more a b c d e f g h is = rw is refl

ends_special : (b : ℕ) → ends_word b ≡ true → is_special b ≡ true
ends_special b is = or_more (ends_word b) (b == 45) (b == 43) (b == 47) (b == 60) (b == 62) (b == 93) (b == 125) is

-- a test that is true of what isn't special is false
not_special : (p s q : Bool) → (p ≡ true → s ≡ true) → (s && (p || q)) ≡ false → p ≡ false
not_special true true q is h = absurd (cc)
not_special true false q is h = absurd (let one = is refl in cc)
not_special false s q is h = refl

left_false : (p q : Bool) → p ≡ false → (p && q) ≡ false
left_false p q is = rw is refl

pub words : AreTogether stops.WordEnd stops.WordEscape
words = record {
  never = λ b. and-false (ends_word b);
  backslash = λ f. refl;
  plain = λ b a f h. left_false (ends_word b) (not f) (not_special (ends_word b) (is_special b) a (ends_special b) h);
  special = λ b a h. (and_parts (is_special b) (ends_word b || a) h).0;
}

quote_special : (b : ℕ) → (b == 34) ≡ true → is_special b ≡ true
quote_special b is = rw (eqb-true b 34 is) refl

pub phrases : AreTogether stops.PhraseEnd stops.PhraseEscape
phrases = record {
  never = λ b. and-false (b == 34);
  backslash = λ f. refl;
  plain = λ b a f h. left_false (b == 34) (not f) (not_special (b == 34) (is_special b) a (quote_special b) h);
  special = λ b a h. (and_parts (is_special b) (b == 34 || a) h).0;
}

-- a test that tells two bytes apart
pub differs : (p : ℕ → Bool) (b c : ℕ) → p b ≡ false → p c ≡ true → (b == c) ≡ false
differs p b c no_b is_c = by (b == c) refl
  where
    by : (same : Bool) → (b == c) ≡ same → same ≡ false
    by true is = absurd (let all = ap p (eqb-true b c is) in cc)
    by false is = refl

-- a special byte is no backslash
special_differs : (b : ℕ) → is_special b ≡ true → (b == 92) ≡ false
special_differs b is = by (b == 92) refl
  where
    by : (same : Bool) → (b == 92) ≡ same → same ≡ false
    by true same = absurd (let all = ap is_special (eqb-true b 92 same) in cc)
    by false same = refl

-- whether a text ends after a backslash, by whether one comes before it
abbrev ends_after : Bool → List ℕ → Bool
ends_after f [] = f
ends_after f (b ∷ bs) = ends_after (b == 92) bs

last_is : (f : Bool) (b : ℕ) (bs : List ℕ) → ends_after f (b ∷ bs) ≡ (slice_index (b ∷ bs) (length bs) == 92)
last_is f b [] = refl
last_is f b (c ∷ cs) = last_is (b == 92) c cs

pub writable : (text : List ℕ) → is_writable text ≡ true → ends_after false text ≡ false
writable [] is = refl
writable (b ∷ bs) is =
    let less : length (b ∷ bs) - 1 ≡ length bs = omega arith in
    last_is false b bs ∙ ap (λ (n : ℕ). slice_index (b ∷ bs) n == 92) (sym less) ∙ not-true (slice_index (b ∷ bs) (length (b ∷ bs) - 1) == 92) is

-- an escaped text ends where the text after it begins
pub ends_there : (end quoting : Stop) → AreTogether end quoting → (f a : Bool) (text rest : List ℕ) → ends_after f text ≡ false → place_of end false rest ≡ 0
    → place_of end f (escaped quoting a text ++ rest) ≡ length (escaped quoting a text)
ends_there end quoting are f a [] rest last stop = ap (λ (g : Bool). place_of end g rest) last ∙ stop
ends_there end quoting are f a (b ∷ bs) rest last stop = by (stops_at quoting b a) refl (λ (g h : Bool) (same : ends_after g bs ≡ false). ends_there end quoting are g h bs rest same stop)
  where
    by : (here : Bool) → stops_at quoting b a ≡ here → ((g h : Bool) → ends_after g bs ≡ false → place_of end g (escaped quoting h bs ++ rest) ≡ length (escaped quoting h bs))
        → place_of end f (escaped quoting a (b ∷ bs) ++ rest) ≡ length (escaped quoting a (b ∷ bs))
    by true is later =
        let others = escaped quoting false bs in
        rw (escaped_case quoting a b bs true is)
        (place_case end f 92 (b ∷ (others ++ rest)) false (are.backslash f)
        ∙ ap suc (place_case end true b (others ++ rest) false (are.never b) ∙ ap suc (later (b == 92) false last)))
    by false is later =
        let others = escaped quoting (b == 92) bs in
        rw (escaped_case quoting a b bs false is)
        (place_case end f b (others ++ rest) false (are.plain b a f is) ∙ ap suc (later (b == 92) (b == 92) last))

-- its first byte, after a backslash that isn't one of an quoting, isn't special
no_escape : (quoting : Stop) (b : ℕ) (bs : List ℕ) → ((c : ℕ) → is_special c ≡ true → stops_at quoting c true ≡ true) → is_escape b (escaped quoting (b == 92) bs) ≡ false
no_escape quoting b [] each = refl
no_escape quoting b (c ∷ cs) each = by (b == 92) (is_special c) refl refl
  where
    by : (after special : Bool) → (b == 92) ≡ after → is_special c ≡ special → is_escape b (escaped quoting (b == 92) (c ∷ cs)) ≡ false
    by false special is kind = first (escaped quoting (b == 92) (c ∷ cs))
      where
        first : (text : List ℕ) → is_escape b text ≡ false
        first [] = refl
        first (d ∷ ds) = ap (λ (x : Bool). is_special d && x) is ∙ and-false (is_special d)
    by true true is kind =
        let here : stops_at quoting c (b == 92) ≡ true = ap (stops_at quoting c) is ∙ each c kind in
        ap (is_escape b) (escaped_case quoting (b == 92) c cs true here)
    by true false is kind = plain (stops_at quoting c (b == 92)) refl
      where
        plain : (here : Bool) → stops_at quoting c (b == 92) ≡ here → is_escape b (escaped quoting (b == 92) (c ∷ cs)) ≡ false
        plain true here = ap (is_escape b) (escaped_case quoting (b == 92) c cs true here)
        plain false here = ap (is_escape b) (escaped_case quoting (b == 92) c cs false here) ∙ left_false (is_special c) (b == 92) kind

unescaped_case : (b : ℕ) (bs : List ℕ) (here : Bool) → is_escape b bs ≡ here → unescaped (b ∷ bs) ≡ cond here (unescaped bs) (b ∷ unescaped bs)
unescaped_case b bs here is = ap (λ (h : Bool). cond h (unescaped bs) (b ∷ unescaped bs)) is

special_no_escape : (b : ℕ) (bs : List ℕ) → is_special b ≡ true → is_escape b bs ≡ false
special_no_escape b [] is = refl
special_no_escape b (c ∷ cs) is = ap (λ (x : Bool). is_special c && x) (special_differs b is) ∙ and-false (is_special c)

-- the text of an escaped text
unescapes : (end quoting : Stop) → AreTogether end quoting → ((c : ℕ) → is_special c ≡ true → stops_at quoting c true ≡ true) → (a : Bool) (text : List ℕ) → unescaped (escaped quoting a text) ≡ text
unescapes end quoting are each a [] = refl
unescapes end quoting are each a (b ∷ bs) = by (stops_at quoting b a) refl (λ (h : Bool). unescapes end quoting are each h bs)
  where
    by : (here : Bool) → stops_at quoting b a ≡ here → ((h : Bool) → unescaped (escaped quoting h bs) ≡ bs) → unescaped (escaped quoting a (b ∷ bs)) ≡ b ∷ bs
    by true is later =
        let kind = are.special b a is in
        let others = escaped quoting false bs in
        ap unescaped (escaped_case quoting a b bs true is)
        ∙ unescaped_case 92 (b ∷ others) true (rw kind refl)
        ∙ unescaped_case b others false (special_no_escape b others kind)
        ∙ ap (λ (l : List ℕ). b ∷ l) (later false)
    by false is later =
        let others = escaped quoting (b == 92) bs in
        ap unescaped (escaped_case quoting a b bs false is)
        ∙ unescaped_case b others false (no_escape quoting b bs each)
        ∙ ap (λ (l : List ℕ). b ∷ l) (later (b == 92))

both_true : (p q : Bool) → p ≡ true → q ≡ true → (p && q) ≡ true
both_true p q h i = rw (h, i) refl

pub word_unescapes : (text : List ℕ) → unescaped (word_text text) ≡ text
word_unescapes text = unescapes stops.WordEnd stops.WordEscape words (λ c is. both_true (is_special c) (ends_word c || true) is (or-true (ends_word c))) true text

pub phrase_unescapes : (text : List ℕ) → unescaped (escaped stops.PhraseEscape false text) ≡ text
phrase_unescapes text = unescapes stops.PhraseEnd stops.PhraseEscape phrases (λ c is. both_true (is_special c) (c == 34 || true) is (or-true (c == 34))) false text

-- A word begins with a byte that isn't special.
pub record IsPlain (text : List ℕ) : Type 0 where
  pub first : ℕ
  pub others : List ℕ
  pub text_is : text ≡ first ∷ others
  pub plain : is_special first ≡ false

pub is_plain : (text : List ℕ) → is_empty text ≡ false → IsPlain (word_text text)
is_plain [] some = absurd (cc)
is_plain (b ∷ bs) some = by (is_special b) refl
  where
    by : (special : Bool) → is_special b ≡ special → IsPlain (word_text (b ∷ bs))
    by true is = record {
      first = 92;
      others = b ∷ escaped stops.WordEscape false bs;
      text_is = escaped_case stops.WordEscape true b bs true (both_true (is_special b) (ends_word b || true) is (or-true (ends_word b)));
      plain = refl;
    }
    by false is = record {
      first = b;
      others = escaped stops.WordEscape (b == 92) bs;
      text_is = escaped_case stops.WordEscape true b bs false (left_false (is_special b) (ends_word b || true) is);
      plain = is;
    }
