-- The runs of an ASCII text, one after the other.
use Rattle.std.proofs.Common.{◌≡◌, ℕ, suc, ◌+◌, ◌-◌, ◌<◌, ◌≤◌, Bool, true, false, not, List, [], ◌∷◌, ◌++◌, length, drop, take, refl, ap, ◌∙◌, arith, length-drop, take_all}
use Rattle.std.specs.Prelude.{⊤, IsAscii}
use Rattle.std.specs.Char.{is_ascii_alphanumeric, len_utf8}
use Rattle.std.specs.List.{list_any, prefix_len, take_while}
use Rattle.std.proofs.lemmas.Bool.{lt-ltb}
use Rattle.std.proofs.lemmas.List.{drop_all}
use Rattle.std.proofs.lemmas.List.Folds.{length-prefix_len}
use Rattle.ii_base.specs.Parts.{Part, ascii_parts, in_front, is_word_character, parts_between, spoken_parts}

-- the characters are all ASCII
abbrev pub AllAscii : List ℕ → Type 0
AllAscii [] = ⊤
AllAscii (c ∷ cs) = (c < 128) × AllAscii cs

pub one_byte : (c : ℕ) → c < 128 → len_utf8 c ≡ 1
one_byte c below = rw (lt-ltb c 128 below) refl

pub AllAscii-is : (cs : List ℕ) → IsAscii cs → AllAscii cs
AllAscii-is [] ascii = tt
AllAscii-is (c ∷ cs) ascii = (ascii 0, AllAscii-is cs (λ (i : ℕ). ascii (suc i)))

abbrev out : ℕ → Bool
out c = not (is_word_character c)

spoken_first : (p : Part) (ps : List Part) → spoken_parts (p ∷ ps) ≡ spoken_parts (p ∷ []) ++ spoken_parts ps
spoken_first p ps = by_case (list_any is_ascii_alphanumeric p.characters) refl
  where
    by_case : (b : Bool) → list_any is_ascii_alphanumeric p.characters ≡ b → spoken_parts (p ∷ ps) ≡ spoken_parts (p ∷ []) ++ spoken_parts ps
    by_case true is = rw is refl
    by_case false is = rw is refl

-- the run at the start, and what follows the character after it
abbrev StartsWithRun : ℕ → List ℕ → Type 0
StartsWithRun n cs =
    (ps : List Part) × (parts_between out n cs ≡ record { offset = n; characters = take_while is_word_character cs } ∷ ps)
    × (spoken_parts ps ≡ ascii_parts (n + suc (prefix_len is_word_character cs)) (drop (suc (prefix_len is_word_character cs)) cs))

first_run : (n : ℕ) (cs : List ℕ) → AllAscii cs → StartsWithRun n cs
unfolding parts_between
first_run n [] low = ([], refl, refl)
first_run n (c ∷ cs) low = by_case (is_word_character c) refl (first_run (n + len_utf8 c) cs low.1)
  where
    by_case : (b : Bool) → is_word_character c ≡ b → StartsWithRun (n + len_utf8 c) cs → StartsWithRun n (c ∷ cs)
    by_case true is run =
        let k = prefix_len is_word_character cs in
        let more : 1 + k ≡ suc k = omega arith in
        let size : n + len_utf8 c + suc k ≡ n + suc (suc k) = omega (arith, one_byte c low.0) in
        rw (is, more) (run.0, ap (in_front n c) run.1, run.2 ∙ ap (λ (m : ℕ). ascii_parts m (drop (suc k) cs)) size)
    by_case false is run =
        let size : n + len_utf8 c ≡ n + 1 = omega (arith, one_byte c low.0) in
        rw is (parts_between out (n + len_utf8 c) cs, refl, ap (λ (m : ℕ). ascii_parts m cs) size)

-- the parts from a place on: the run there, and those after the next character
pub run_first : (n : ℕ) (cs : List ℕ) → IsAscii cs → ascii_parts n cs ≡ spoken_parts (record { offset = n; characters = take_while is_word_character cs } ∷ []) ++ ascii_parts (n + suc (prefix_len is_word_character cs)) (drop (suc (prefix_len is_word_character cs)) cs)
run_first n cs ascii =
    let run = first_run n cs (AllAscii-is cs ascii) in
    ap spoken_parts run.1 ∙ spoken_first (record { offset = n; characters = take_while is_word_character cs }) run.0
    ∙ ap (λ (ps : List Part). spoken_parts (record { offset = n; characters = take_while is_word_character cs } ∷ []) ++ ps) run.2

-- the length of a run in the bytes from a place on
pub run_size : (text bytes : List ℕ) (start n : ℕ) → bytes ≡ text → n ≡ length (take_while is_word_character (take (length bytes - start) (drop start bytes))) → n ≡ prefix_len is_word_character (drop start text)
run_size text bytes start n same is =
    is
    ∙ ap (λ (bs : List ℕ). length (take_while is_word_character (take (length bs - start) (drop start bs)))) same
    ∙ ap (λ (bs : List ℕ). length (take_while is_word_character bs)) (take_all (length text - start) (drop start text) (omega (arith, length-drop start text)))
    ∙ length-prefix_len is_word_character (drop start text)

-- past the end there are no parts
pub no_more : (n i : ℕ) (text : List ℕ) → length text ≤ i → ascii_parts n (drop i text) ≡ []
unfolding parts_between
no_more n i text past = ap (ascii_parts n) (drop_all i text past)
