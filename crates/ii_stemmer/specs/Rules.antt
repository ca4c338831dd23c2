-- Rules that replace the suffix of a word, and the tables of them in Porter's paper of 1980, in its order.
use Rattle.std.specs.Prelude.{ℕ, ◌-◌, Bool, true, not, ◌&&◌, ◌||◌, ◌++◌, ◌==◌, List, [], ◌∷◌, codes, eqb, length, map, nat_lt, take, if◌then◌else◌}
use Rattle.std.specs.List.{ends_with}
use Rattle.ii_stemmer.specs.Letters.{ends_cvc, ends_with_one_of, has_vowel, measure}
use Rattle.ii_stemmer.specs.declared.rules.Condition.{Condition}
use Rattle.ii_stemmer.specs.declared.rules.Condition.TheVariants.{AfterSOrT, Always, FinalE, HasVowel, MeasureAbove}
use Rattle.ii_stemmer.specs.declared.rules.Rule.{Rule as StaticRule}

-- A rule: the suffix becomes its replacement, if the condition holds for the stem before it.
pub record Rule : Type 0 where
  pub suffix : List ℕ
  pub replacement : List ℕ
  pub condition : Condition

-- a rule, from its parts
abbrev pub rule : List ℕ → List ℕ → Condition → Rule
rule suffix replacement condition = record { suffix = suffix; replacement = replacement; condition = condition }

-- whether a condition holds for a stem
abbrev pub holds : Condition → List ℕ → Bool
holds Always stem = true
holds HasVowel stem = has_vowel stem
holds (MeasureAbove m) stem = nat_lt m (measure stem)
holds AfterSOrT stem = nat_lt 1 (measure stem) && ends_with_one_of (codes "st") stem
holds FinalE stem = nat_lt 1 (measure stem) || (measure stem == 1 && not (ends_cvc stem))

-- a word that has the suffix of a rule, by this rule
abbrev pub replaced : Rule → List ℕ → List ℕ
replaced r word =
    let stem = take (length word - length r.suffix) word in
    if holds r.condition stem then stem ++ r.replacement else word

-- a word by the first rule of a table whose suffix it has; no other rule is tried
abbrev pub apply_first : List Rule → List ℕ → List ℕ
apply_first [] word = word
apply_first (r ∷ rs) word = if ends_with eqb word r.suffix then replaced r word else apply_first rs word

-- a rule of the program
abbrev pub rule_of : StaticRule → Rule
rule_of r = rule r.suffix.now r.replacement.now r.condition

-- a table of the program
abbrev pub rules_of : List StaticRule → List Rule
rules_of rules = map rule_of rules

-- step 1a: the plural
unfoldable pub step_1a_rules : List Rule
step_1a_rules =
    rule (codes "sses") (codes "ss") Always ∷
    rule (codes "ies") (codes "i") Always ∷
    rule (codes "ss") (codes "ss") Always ∷
    rule (codes "s") [] Always ∷
    []

-- step 1b: past forms and participles
unfoldable pub step_1b_rules : List Rule
step_1b_rules =
    rule (codes "eed") (codes "ee") (MeasureAbove 0) ∷
    rule (codes "ed") [] HasVowel ∷
    rule (codes "ing") [] HasVowel ∷
    []

-- step 1c: a final y after a vowel
unfoldable pub step_1c_rules : List Rule
step_1c_rules = rule (codes "y") (codes "i") HasVowel ∷ []

-- step 2: double suffixes
unfoldable pub step_2_rules : List Rule
step_2_rules =
    rule (codes "ational") (codes "ate") (MeasureAbove 0) ∷
    rule (codes "tional") (codes "tion") (MeasureAbove 0) ∷
    rule (codes "enci") (codes "ence") (MeasureAbove 0) ∷
    rule (codes "anci") (codes "ance") (MeasureAbove 0) ∷
    rule (codes "izer") (codes "ize") (MeasureAbove 0) ∷
    rule (codes "abli") (codes "able") (MeasureAbove 0) ∷
    rule (codes "alli") (codes "al") (MeasureAbove 0) ∷
    rule (codes "entli") (codes "ent") (MeasureAbove 0) ∷
    rule (codes "eli") (codes "e") (MeasureAbove 0) ∷
    rule (codes "ousli") (codes "ous") (MeasureAbove 0) ∷
    rule (codes "ization") (codes "ize") (MeasureAbove 0) ∷
    rule (codes "ation") (codes "ate") (MeasureAbove 0) ∷
    rule (codes "ator") (codes "ate") (MeasureAbove 0) ∷
    rule (codes "alism") (codes "al") (MeasureAbove 0) ∷
    rule (codes "iveness") (codes "ive") (MeasureAbove 0) ∷
    rule (codes "fulness") (codes "ful") (MeasureAbove 0) ∷
    rule (codes "ousness") (codes "ous") (MeasureAbove 0) ∷
    rule (codes "aliti") (codes "al") (MeasureAbove 0) ∷
    rule (codes "iviti") (codes "ive") (MeasureAbove 0) ∷
    rule (codes "biliti") (codes "ble") (MeasureAbove 0) ∷
    []

-- step 3: suffixes of adjectives and nouns that are left
unfoldable pub step_3_rules : List Rule
step_3_rules =
    rule (codes "icate") (codes "ic") (MeasureAbove 0) ∷
    rule (codes "ative") [] (MeasureAbove 0) ∷
    rule (codes "alize") (codes "al") (MeasureAbove 0) ∷
    rule (codes "iciti") (codes "ic") (MeasureAbove 0) ∷
    rule (codes "ical") (codes "ic") (MeasureAbove 0) ∷
    rule (codes "ful") [] (MeasureAbove 0) ∷
    rule (codes "ness") [] (MeasureAbove 0) ∷
    []

-- step 4: single suffixes after a long stem
unfoldable pub step_4_rules : List Rule
step_4_rules =
    rule (codes "al") [] (MeasureAbove 1) ∷
    rule (codes "ance") [] (MeasureAbove 1) ∷
    rule (codes "ence") [] (MeasureAbove 1) ∷
    rule (codes "er") [] (MeasureAbove 1) ∷
    rule (codes "ic") [] (MeasureAbove 1) ∷
    rule (codes "able") [] (MeasureAbove 1) ∷
    rule (codes "ible") [] (MeasureAbove 1) ∷
    rule (codes "ant") [] (MeasureAbove 1) ∷
    rule (codes "ement") [] (MeasureAbove 1) ∷
    rule (codes "ment") [] (MeasureAbove 1) ∷
    rule (codes "ent") [] (MeasureAbove 1) ∷
    rule (codes "ion") [] AfterSOrT ∷
    rule (codes "ou") [] (MeasureAbove 1) ∷
    rule (codes "ism") [] (MeasureAbove 1) ∷
    rule (codes "ate") [] (MeasureAbove 1) ∷
    rule (codes "iti") [] (MeasureAbove 1) ∷
    rule (codes "ous") [] (MeasureAbove 1) ∷
    rule (codes "ive") [] (MeasureAbove 1) ∷
    rule (codes "ize") [] (MeasureAbove 1) ∷
    []

-- step 5a: a final e
unfoldable pub step_5a_rules : List Rule
step_5a_rules = rule (codes "e") [] FinalE ∷ []
