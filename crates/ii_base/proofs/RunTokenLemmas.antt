-- The runs of an ASCII text as tokens, one after the other.
use Rattle.std.proofs.Common.{◌≡◌, ℕ, zero, suc, ◌+◌, ◌-◌, ◌<◌, ◌≤◌, Bool, true, false, List, [], ◌∷◌, ◌++◌, length, drop, cond, nat_lt, take, refl, sym, ap, ap₂, ◌∙◌, arith, drop-drop, length-drop}
use Rattle.std.specs.Prelude.{IsAscii, IsSome, None, Some, encode_utf8_all, if◌then◌else◌}
use Rattle.std.specs.Char.{is_ascii_alphanumeric}
use Rattle.std.specs.List.{list_any, prefix_len, slice_range, take_while}
use Rattle.std.proofs.lemmas.List.{length-take-le}
use Rattle.std.proofs.lemmas.List.Sums.{prefix_len-le-length}
use Rattle.std.proofs.lemmas.Str.{IsAscii-drop, IsAscii-take, encodes-IsAscii}
use Rattle.ii_base.specs.Parts.{Part, ascii_parts, is_word_character, part_word, part_words, spoken_parts}
use Rattle.ii_base.specs.RunTokens.{current_run, token_of_run, words_to_come}
use Rattle.ii_base.specs.declared.tokenizer.run_tokens.Run.{Run}
use Rattle.ii_base.specs.Words.{Word, remove_long}
use Rattle.ii_base.proofs.RunLemmas.{run_first}

module _ (limit : ℕ) (text : List ℕ) (start n p : ℕ) (ascii : IsAscii text) (size : n ≡ prefix_len is_word_character (drop start text)) where
  abbrev run : List ℕ
  run = slice_range text start (start + n)

  abbrev here : Part
  here = record { offset = start; characters = run }

  run_is : take_while is_word_character (drop start text) ≡ run
  run_is = ap (λ (k : ℕ). take k (drop start text)) (omega (arith, size))

  parts : ascii_parts start (drop start text) ≡ spoken_parts (here ∷ []) ++ ascii_parts (start + n + 1) (drop (start + n + 1) text)
  parts =
      let k = prefix_len is_word_character (drop start text) in
      let place : start + suc k ≡ start + n + 1 = omega (arith, size) in
      run_first start (drop start text) (IsAscii-drop text start ascii)
      ∙ ap₂ (λ (cs : List ℕ) (ps : List Part). spoken_parts (record { offset = start; characters = cs } ∷ []) ++ ps) run_is
      (ap₂ ascii_parts place (drop-drop (suc k) start text ∙ ap (λ (i : ℕ). drop i text) place))

  -- the bytes of a run are its characters
  pub run_encoded : encode_utf8_all run ≡ run
  run_encoded = encodes-IsAscii run (IsAscii-take (drop start text) (start + n - start) (IsAscii-drop text start ascii))

  run_length : length (encode_utf8_all run) ≡ n
  run_length =
      let most = prefix_len-le-length is_word_character (drop start text) in
      ap length run_encoded ∙ length-take-le (start + n - start) (drop start text) (omega (arith, size, most)) ∙ omega arith

  -- a run without a letter or a digit
  pub silent_run : list_any is_ascii_alphanumeric run ≡ false → words_to_come limit text p (start + n + 1) ≡ words_to_come limit text p start
  silent_run has =
      let none : spoken_parts (here ∷ []) ≡ [] = rw has refl in
      sym (ap (λ (ps : List Part). remove_long limit (part_words p ps)) (parts ∙ ap (λ (ps : List Part). ps ++ ascii_parts (start + n + 1) (drop (start + n + 1) text)) none))

  spoken : list_any is_ascii_alphanumeric run ≡ true → words_to_come limit text p start ≡ remove_long limit (part_word p here ∷ part_words (p + 1) (ascii_parts (start + n + 1) (drop (start + n + 1) text)))
  spoken has =
      let one : spoken_parts (here ∷ []) ≡ here ∷ [] = rw has refl in
      ap (λ (ps : List Part). remove_long limit (part_words p ps)) (parts ∙ ap (λ (ps : List Part). ps ++ ascii_parts (start + n + 1) (drop (start + n + 1) text)) one)

  -- a long run
  pub long_run : list_any is_ascii_alphanumeric run ≡ true → nat_lt n limit ≡ false → words_to_come limit text (p + 1) (start + n + 1) ≡ words_to_come limit text p start
  long_run has long =
      let out : nat_lt (length (encode_utf8_all run)) limit ≡ false = ap (λ (k : ℕ). nat_lt k limit) run_length ∙ long in
      sym (spoken has ∙ by_bit (nat_lt (length (encode_utf8_all run)) limit) out)
    where
      by_bit : (b : Bool) → b ≡ false → cond b (part_word p here ∷ words_to_come limit text (p + 1) (start + n + 1)) (words_to_come limit text (p + 1) (start + n + 1)) ≡ words_to_come limit text (p + 1) (start + n + 1)
      by_bit b is = rw is refl

  -- a short run
  pub short_run : list_any is_ascii_alphanumeric run ≡ true → nat_lt n limit ≡ true → words_to_come limit text p start ≡ part_word p here ∷ words_to_come limit text (p + 1) (start + n + 1)
  short_run has short =
      let in_ : nat_lt (length (encode_utf8_all run)) limit ≡ true = ap (λ (k : ℕ). nat_lt k limit) run_length ∙ short in
      spoken has ∙ by_bit (nat_lt (length (encode_utf8_all run)) limit) in_
    where
      by_bit : (b : Bool) → b ≡ true → cond b (part_word p here ∷ words_to_come limit text (p + 1) (start + n + 1)) (words_to_come limit text (p + 1) (start + n + 1)) ≡ part_word p here ∷ words_to_come limit text (p + 1) (start + n + 1)
      by_bit b is = rw is refl

  -- it has characters
  pub some_run : list_any is_ascii_alphanumeric run ≡ true → 0 < n
  some_run has = by_size n refl
    where
      by_size : (k : ℕ) → n ≡ k → 0 < n
      by_size zero is =
          let none : start + n - start ≡ 0 = omega (arith, is) in
          let empty : run ≡ [] = ap (λ (k : ℕ). take k (drop start text)) none in
          absurd (cc (ap (list_any is_ascii_alphanumeric) (sym empty) ∙ has))
      by_size (suc k) is = omega (arith, is)

  -- it lies in the text
  pub run_ends : start ≤ length text → start + n ≤ length text
  run_ends inside = omega (arith, size, prefix_len-le-length is_word_character (drop start text), length-drop start text, inside)

-- the token of a run, borrowed
pub run_seen : (text cs : List ℕ) (r : Run) (position : ℕ) → IsAscii text → r.start ≤ r.end → r.end ≤ length text → IsSome (current_run text r) → cs ≡ slice_range text r.start r.end → position ≡ r.passed - 1
    → current_run text r ≡ Some (record { offset_from = r.start; offset_to = r.end; position = position; text = cs; position_length = 1 })
run_seen text cs r position ascii order within some is place = by_bit (nat_lt r.start r.end) refl some
  where
    bytes : encode_utf8_all (slice_range text r.start r.end) ≡ cs
    bytes = encodes-IsAscii (slice_range text r.start r.end) (IsAscii-take (drop r.start text) (r.end - r.start) (IsAscii-drop text r.start ascii)) ∙ sym is

    end : r.start + length (encode_utf8_all (slice_range text r.start r.end)) ≡ r.end
    end =
        let left : r.end - r.start ≤ length (drop r.start text) = omega (arith, length-drop r.start text, order, within) in
        omega (arith, ap length (bytes ∙ is), length-take-le (r.end - r.start) (drop r.start text) left, order)

    word : token_of_run text r ≡ record { offset_from = r.start; offset_to = r.end; position = position; text = cs; position_length = 1 }
    word =
        ap (λ (k : ℕ). record (token_of_run text r) { position = k }) (sym place)
        ∙ ap₂ (λ (to : ℕ) (bs : List ℕ). record { offset_from = r.start; offset_to = to; position = position; text = bs; position_length = 1 }) end bytes

    by_bit : (b : Bool) → nat_lt r.start r.end ≡ b → IsSome (if b then Some (token_of_run text r) else None) → (if nat_lt r.start r.end then Some (token_of_run text r) else None) ≡ Some (record { offset_from = r.start; offset_to = r.end; position = position; text = cs; position_length = 1 })
    by_bit true known found = rw known (ap (λ (w : Word). Some w) word)
    by_bit false known found = absurd (cc found)
