-- The examples of Porter's paper of 1980, and complete stems.
use Rattle.std.proofs.Common.{◌≡◌, true, false, [], ◌∷◌, codes, map, refl}
use Rattle.ii_stemmer.specs.Letters.{ends_cvc, ends_double, measure, vowels}
use Rattle.ii_stemmer.specs.Porter.{porter, step_1b, step_5b}
use Rattle.ii_stemmer.specs.Rules.{apply_first, step_1a_rules, step_1b_rules, step_1c_rules, step_2_rules, step_3_rules, step_4_rules, step_5a_rules}

-- in `toy` the y is a consonant, in `syzygy` each is a vowel, in `yes` it is a consonant
pub toy : vowels (codes "toy") ≡ false ∷ true ∷ false ∷ []
toy = refl

pub syzygy : vowels (codes "syzygy") ≡ false ∷ true ∷ false ∷ true ∷ false ∷ true ∷ []
syzygy = refl

pub first_y : vowels (codes "yes") ≡ false ∷ true ∷ false ∷ []
first_y = refl

pub measure_0 : map measure (codes "tr" ∷ codes "ee" ∷ codes "tree" ∷ codes "y" ∷ codes "by" ∷ []) ≡ 0 ∷ 0 ∷ 0 ∷ 0 ∷ 0 ∷ []
measure_0 = refl

pub measure_1 : map measure (codes "trouble" ∷ codes "oats" ∷ codes "trees" ∷ codes "ivy" ∷ []) ≡ 1 ∷ 1 ∷ 1 ∷ 1 ∷ []
measure_1 = refl

pub measure_2 : map measure (codes "troubles" ∷ codes "private" ∷ codes "oaten" ∷ codes "orrery" ∷ []) ≡ 2 ∷ 2 ∷ 2 ∷ 2 ∷ []
measure_2 = refl

-- *o holds of wil, fil and hop, not of snow, box, tray and op
pub endings_cvc : map ends_cvc (codes "wil" ∷ codes "fil" ∷ codes "hop" ∷ codes "snow" ∷ codes "box" ∷ codes "tray" ∷ codes "op" ∷ []) ≡ true ∷ true ∷ true ∷ false ∷ false ∷ false ∷ false ∷ []
endings_cvc = refl

pub endings_double : map ends_double (codes "hopp" ∷ codes "fall" ∷ codes "see" ∷ codes "hop" ∷ codes "b" ∷ []) ≡ true ∷ true ∷ false ∷ false ∷ false ∷ []
endings_double = refl

-- the examples of each step
pub example_1a : map (apply_first step_1a_rules) (codes "caresses" ∷ codes "ponies" ∷ codes "ties" ∷ codes "caress" ∷ codes "cats" ∷ [])
    ≡ codes "caress" ∷ codes "poni" ∷ codes "ti" ∷ codes "caress" ∷ codes "cat" ∷ []
unfolding step_1a_rules
example_1a = refl

pub example_1b : map step_1b (codes "feed" ∷ codes "agreed" ∷ codes "plastered" ∷ codes "bled" ∷ codes "motoring" ∷ codes "sing" ∷ codes "conflated" ∷ codes "troubled" ∷ codes "sized" ∷ codes "hopping" ∷ codes "tanned" ∷ codes "falling" ∷ codes "hissing" ∷ codes "fizzed" ∷ codes "failing" ∷ codes "filing" ∷ [])
    ≡ codes "feed" ∷ codes "agree" ∷ codes "plaster" ∷ codes "bled" ∷ codes "motor" ∷ codes "sing" ∷ codes "conflate" ∷ codes "trouble" ∷ codes "size" ∷ codes "hop" ∷ codes "tan" ∷ codes "fall" ∷ codes "hiss" ∷ codes "fizz" ∷ codes "fail" ∷ codes "file" ∷ []
unfolding step_1b_rules
example_1b = refl

pub example_1c : map (apply_first step_1c_rules) (codes "happy" ∷ codes "sky" ∷ [])
    ≡ codes "happi" ∷ codes "sky" ∷ []
unfolding step_1c_rules
example_1c = refl

pub example_2 : map (apply_first step_2_rules) (codes "relational" ∷ codes "conditional" ∷ codes "rational" ∷ codes "valenci" ∷ codes "hesitanci" ∷ codes "digitizer" ∷ codes "conformabli" ∷ codes "radicalli" ∷ codes "differentli" ∷ codes "vileli" ∷ codes "analogousli" ∷ codes "vietnamization" ∷ codes "predication" ∷ codes "operator" ∷ codes "feudalism" ∷ codes "decisiveness" ∷ codes "hopefulness" ∷ codes "callousness" ∷ codes "formaliti" ∷ codes "sensitiviti" ∷ codes "sensibiliti" ∷ [])
    ≡ codes "relate" ∷ codes "condition" ∷ codes "rational" ∷ codes "valence" ∷ codes "hesitance" ∷ codes "digitize" ∷ codes "conformable" ∷ codes "radical" ∷ codes "different" ∷ codes "vile" ∷ codes "analogous" ∷ codes "vietnamize" ∷ codes "predicate" ∷ codes "operate" ∷ codes "feudal" ∷ codes "decisive" ∷ codes "hopeful" ∷ codes "callous" ∷ codes "formal" ∷ codes "sensitive" ∷ codes "sensible" ∷ []
unfolding step_2_rules
example_2 = refl

pub example_3 : map (apply_first step_3_rules) (codes "triplicate" ∷ codes "formative" ∷ codes "formalize" ∷ codes "electriciti" ∷ codes "electrical" ∷ codes "hopeful" ∷ codes "goodness" ∷ [])
    ≡ codes "triplic" ∷ codes "form" ∷ codes "formal" ∷ codes "electric" ∷ codes "electric" ∷ codes "hope" ∷ codes "good" ∷ []
unfolding step_3_rules
example_3 = refl

pub example_4 : map (apply_first step_4_rules) (codes "revival" ∷ codes "allowance" ∷ codes "inference" ∷ codes "airliner" ∷ codes "gyroscopic" ∷ codes "adjustable" ∷ codes "defensible" ∷ codes "irritant" ∷ codes "replacement" ∷ codes "adjustment" ∷ codes "dependent" ∷ codes "adoption" ∷ codes "homologou" ∷ codes "communism" ∷ codes "activate" ∷ codes "angulariti" ∷ codes "homologous" ∷ codes "effective" ∷ codes "bowdlerize" ∷ [])
    ≡ codes "reviv" ∷ codes "allow" ∷ codes "infer" ∷ codes "airlin" ∷ codes "gyroscop" ∷ codes "adjust" ∷ codes "defens" ∷ codes "irrit" ∷ codes "replac" ∷ codes "adjust" ∷ codes "depend" ∷ codes "adopt" ∷ codes "homolog" ∷ codes "commun" ∷ codes "activ" ∷ codes "angular" ∷ codes "homolog" ∷ codes "effect" ∷ codes "bowdler" ∷ []
unfolding step_4_rules
example_4 = refl

pub example_5a : map (apply_first step_5a_rules) (codes "probate" ∷ codes "rate" ∷ codes "cease" ∷ [])
    ≡ codes "probat" ∷ codes "rate" ∷ codes "ceas" ∷ []
unfolding step_5a_rules
example_5a = refl

pub example_5b : map step_5b (codes "controll" ∷ codes "roll" ∷ [])
    ≡ codes "control" ∷ codes "roll" ∷ []
example_5b = refl

-- complete stems: the paper takes apart the first two
pub examples : map porter (codes "generalizations" ∷ codes "oscillators" ∷ codes "caresses" ∷ codes "ponies" ∷ codes "ties" ∷ codes "cats" ∷ codes "feed" ∷ codes "agreed" ∷ codes "plastered" ∷ codes "motoring" ∷ codes "sing" ∷ codes "hopping" ∷ codes "falling" ∷ codes "filing" ∷ codes "happy" ∷ codes "sky" ∷ codes "relational" ∷ codes "sailing" ∷ codes "seas" ∷ [])
    ≡ codes "gener" ∷ codes "oscil" ∷ codes "caress" ∷ codes "poni" ∷ codes "ti" ∷ codes "cat" ∷ codes "feed" ∷ codes "agre" ∷ codes "plaster" ∷ codes "motor" ∷ codes "sing" ∷ codes "hop" ∷ codes "fall" ∷ codes "file" ∷ codes "happi" ∷ codes "sky" ∷ codes "relat" ∷ codes "sail" ∷ codes "sea" ∷ []
unfolding step_1a_rules step_1b_rules step_1c_rules step_2_rules step_3_rules step_4_rules step_5a_rules
examples = refl

-- what is not stemmed: fewer than three letters, a capital, a digit, and `né` (195, 169) with an s
pub unchanged : map porter (codes "be" ∷ codes "as" ∷ codes "Seas" ∷ codes "seas2" ∷ (110 ∷ 195 ∷ 169 ∷ 115 ∷ []) ∷ []) ≡ codes "be" ∷ codes "as" ∷ codes "Seas" ∷ codes "seas2" ∷ (110 ∷ 195 ∷ 169 ∷ 115 ∷ []) ∷ []
unchanged = refl
