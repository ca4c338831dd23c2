-- A stem has only letters of its word and of the rules, so it is ASCII.
use Rattle.std.proofs.Common.{◌≡◌, ℕ, ◌-◌, ◌<◌, Bool, true, false, ◌&&◌, List, [], ◌∷◌, ◌++◌, eqb, length, refl, arith, take, nat_lt, nat_le, not, ◌||◌, ◌==◌}
use Rattle.std.specs.Prelude.{IsAscii, if◌then◌else◌, codes}
use Rattle.std.specs.List.{ends_with}
use Rattle.std.proofs.lemmas.Bool.{and_parts, leb-true, ltb-true}
use Rattle.std.proofs.lemmas.Str.{IsAscii-append, IsAscii-take}
use Rattle.std.proofs.lemmas.Str.Ascii.{IsAscii-cons, IsAscii-nil}
use Rattle.ii_stemmer.specs.Letters.{ends_double, ends_cvc, ends_with_one_of, measure}
use Rattle.ii_stemmer.specs.Porter.{are_letters, mended, step_1, step_1b, step_5, steps_2_to_4, without_last}
use Rattle.ii_stemmer.specs.Rules.{Rule, apply_first, holds, replaced, step_1a_rules, step_1b_rules, step_1c_rules, step_2_rules, step_3_rules, step_4_rules, step_5a_rules}

-- one of two ASCII words
either : (b : Bool) (xs ys : List ℕ) → IsAscii xs → IsAscii ys → IsAscii (if b then xs else ys)
either true xs ys first second = first
either false xs ys first second = second

-- whether all bytes of a text are ASCII, as a test
abbrev are_ascii : List ℕ → Bool
are_ascii [] = true
are_ascii (c ∷ cs) = nat_lt c 128 && are_ascii cs

abbrev have_ascii : List Rule → Bool
have_ascii [] = true
have_ascii (r ∷ rs) = are_ascii r.replacement && have_ascii rs

ascii_text : (cs : List ℕ) → are_ascii cs ≡ true → IsAscii cs
ascii_text [] is = IsAscii-nil
ascii_text (c ∷ cs) is =
    let parts = and_parts (nat_lt c 128) (are_ascii cs) is in
    IsAscii-cons c cs (ltb-true c 128 parts.0) (ascii_text cs parts.1)

ascii_rule : (r : Rule) (word : List ℕ) → are_ascii r.replacement ≡ true → IsAscii word → IsAscii (replaced r word)
ascii_rule r word rule_is is =
    let n = length word - length r.suffix in
    either (holds r.condition (take n word)) (take n word ++ r.replacement) word (IsAscii-append (take n word) r.replacement (IsAscii-take word n is) (ascii_text r.replacement rule_is)) is

ascii_first : (rs : List Rule) (word : List ℕ) → have_ascii rs ≡ true → IsAscii word → IsAscii (apply_first rs word)
ascii_first [] word rules_are is = is
ascii_first (r ∷ rs) word rules_are is =
    let parts = and_parts (are_ascii r.replacement) (have_ascii rs) rules_are in
    either (ends_with eqb word r.suffix) (replaced r word) (apply_first rs word) (ascii_rule r word parts.0 is) (ascii_first rs word parts.1 is)

ascii_1a : have_ascii step_1a_rules ≡ true
unfolding step_1a_rules
ascii_1a = refl

ascii_1b : have_ascii step_1b_rules ≡ true
unfolding step_1b_rules
ascii_1b = refl

ascii_1c : have_ascii step_1c_rules ≡ true
unfolding step_1c_rules
ascii_1c = refl

ascii_2 : have_ascii step_2_rules ≡ true
unfolding step_2_rules
ascii_2 = refl

ascii_3 : have_ascii step_3_rules ≡ true
unfolding step_3_rules
ascii_3 = refl

ascii_4 : have_ascii step_4_rules ≡ true
unfolding step_4_rules
ascii_4 = refl

ascii_5a : have_ascii step_5a_rules ≡ true
unfolding step_5a_rules
ascii_5a = refl

with_e : (word : List ℕ) → IsAscii word → IsAscii (word ++ codes "e")
with_e word is = IsAscii-append word (codes "e") is (ascii_text (codes "e") refl)

ascii_mended : (word : List ℕ) → IsAscii word → IsAscii (mended word)
ascii_mended word is =
    let short = either (measure word == 1 && ends_cvc word) (word ++ codes "e") word (with_e word is) is in
    let double = either (ends_double word && not (ends_with_one_of (codes "lsz") word)) (without_last word) _ (IsAscii-take word (length word - 1) is) short in
    either (ends_with eqb word (codes "at") || ends_with eqb word (codes "bl") || ends_with eqb word (codes "iz")) (word ++ codes "e") _ (with_e word is) double

ascii_step_1b : (word : List ℕ) → IsAscii word → IsAscii (step_1b word)
ascii_step_1b word is =
    let shorter = apply_first step_1b_rules word in
    let first = ascii_first step_1b_rules word ascii_1b is in
    either (ends_with eqb word (codes "eed") || length shorter == length word) shorter (mended shorter) first (ascii_mended shorter first)

-- the steps keep a word ASCII
pub ascii_steps : (word : List ℕ) → IsAscii word → IsAscii (step_5 (steps_2_to_4 (step_1 word)))
ascii_steps word is =
    let plural = apply_first step_1a_rules word in
    let past = step_1b plural in
    let one = apply_first step_1c_rules past in
    let two = apply_first step_2_rules one in
    let three = apply_first step_3_rules two in
    let four = apply_first step_4_rules three in
    let five = apply_first step_5a_rules four in
    let after_1 = ascii_first step_1c_rules past ascii_1c (ascii_step_1b plural (ascii_first step_1a_rules word ascii_1a is)) in
    let after_4 = ascii_first step_4_rules three ascii_4 (ascii_first step_3_rules two ascii_3 (ascii_first step_2_rules one ascii_2 after_1)) in
    let after_5a = ascii_first step_5a_rules four ascii_5a after_4 in
    either (nat_lt 1 (measure five) && ends_double five && ends_with_one_of (codes "l") five) (without_last five) five (IsAscii-take five (length five - 1) after_5a) after_5a

pub ascii_letters : (word : List ℕ) → are_letters word ≡ true → IsAscii word
ascii_letters [] are = IsAscii-nil
ascii_letters (c ∷ cs) are =
    let parts = and_parts (nat_le 97 c && nat_le c 122) (are_letters cs) are in
    let at_most = leb-true c 122 (and_parts (nat_le 97 c) (nat_le c 122) parts.0).1 in
    let below : c < 128 = omega (arith, at_most) in
    IsAscii-cons c cs below (ascii_letters cs parts.1)
