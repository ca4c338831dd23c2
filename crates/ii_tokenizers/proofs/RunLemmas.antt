-- What a loop over the runs of an ASCII text keeps.
use Rattle.std.proofs.Common.{◌≡◌, ℕ, suc, ◌+◌, ◌-◌, Bool, true, cond, List, [], ◌∷◌, ◌++◌, length, drop, nat_lt, take, sym, ap, ap₂, ◌∙◌, arith, drop-drop}
use Rattle.std.specs.Prelude.{IsAscii, chars}
use Rattle.std.specs.Char.{is_ascii_alphanumeric}
use Rattle.std.specs.List.{list_any, prefix_len, take_while}
use Rattle.std.proofs.lemmas.Bool.{lt-ltb}
use Rattle.std.proofs.lemmas.Str.{IsAscii-drop, chars-IsAscii}
use Rattle.ii_base.specs.Words.{Word}
use Rattle.ii_base.proofs.RunLemmas.{run_first}
use Rattle.ii_base.specs.Parts.{Part, ascii_parts, is_word_character, part_words, spoken_parts}
use Rattle.ii_tokenizers.specs.Analyzers.{nonempty_parts}
use Rattle.ii_tokenizers.proofs.PartLemmas.{added_parts}

-- a run that has a letter is a part that has characters
pub spoken_one : (n : ℕ) (run : List ℕ) → IsAscii run → list_any is_ascii_alphanumeric run ≡ true → nonempty_parts (record { offset = n; characters = chars run } ∷ []) ≡ record { offset = n; characters = run } ∷ []
spoken_one n [] ascii has = absurd (cc has)
spoken_one n (c ∷ cs) ascii has =
    let some : nat_lt 0 (suc (length cs)) ≡ true = lt-ltb 0 (suc (length cs)) (omega arith) in
    ap (λ (run : List ℕ). nonempty_parts (record { offset = n; characters = run } ∷ [])) (chars-IsAscii (c ∷ cs) ascii)
    ∙ ap (λ (b : Bool). cond b (record { offset = n; characters = c ∷ cs } ∷ []) []) some

-- the tokens of a run were added
pub run_step : (old new : List Word) (n m at start end : ℕ) (text run : List ℕ) → IsAscii text → end ≡ start + prefix_len is_word_character (drop start text) → run ≡ take (end - start) (drop start text)
    → new ≡ old ++ part_words n (spoken_parts (record { offset = at + start; characters = run } ∷ [])) → n ≡ length old → m ≡ length new
    → new ++ part_words m (ascii_parts (at + (end + 1)) (drop (end + 1) text)) ≡ old ++ part_words n (ascii_parts (at + start) (drop start text))
run_step old new n m at start end text run ascii ends is added before after =
    let k = prefix_len is_word_character (drop start text) in
    let size : end - start ≡ k = omega (arith, ends) in
    let place : at + (end + 1) ≡ at + start + suc k = omega (arith, ends) in
    let past : start + suc k ≡ end + 1 = omega (arith, ends) in
    let same : run ≡ take_while is_word_character (drop start text) = is ∙ ap (λ (i : ℕ). take i (drop start text)) size in
    let rest : ascii_parts (at + (end + 1)) (drop (end + 1) text) ≡ ascii_parts (at + start + suc k) (drop (suc k) (drop start text)) =
    ap₂ ascii_parts place (sym (drop-drop (suc k) start text ∙ ap (λ (i : ℕ). drop i text) past)) in
    added_parts old new n m (spoken_parts (record { offset = at + start; characters = run } ∷ [])) (ascii_parts (at + (end + 1)) (drop (end + 1) text)) added before after
    ∙ ap₂ (λ (cs : List ℕ) (ps : List Part). old ++ part_words n (spoken_parts (record { offset = at + start; characters = cs } ∷ []) ++ ps)) same rest
    ∙ ap (λ (ps : List Part). old ++ part_words n ps) (sym (run_first (at + start) (drop start text) (IsAscii-drop text start ascii)))
