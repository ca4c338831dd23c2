-- Texts that are cut into runs of letters, and numbers, are in order and few.
use Rattle.std.proofs.Common.{◌≡◌, ℕ, ◌+◌, ◌≤◌, Bool, true, false, List, [], ◌∷◌, ◌++◌, length, map, max, refl, ap, arith, length-append}
use Rattle.std.specs.Prelude.{fold, nat_le, string_bytes}
use Rattle.std.specs.List.{AllByRecursion, enumerate_from, range_with_len, sum_by}
use Rattle.std.proofs.lemmas.List.{length-map}
use Rattle.std.proofs.lemmas.List.Concat.{flat_map-cons}
use Rattle.std.proofs.lemmas.List.FromFn.{length-range_with_len}
use Rattle.std.proofs.lemmas.List.Sums.{count_by-le-length, length-filter, sum_by-append, sum_by-cons}
use Rattle.ii_base.specs.AsciiWords.{ascii_words, begins_run, run_starts, run_word}
use Rattle.ii_base.specs.Schema.{SchemaEntry}
use Rattle.ii_base.specs.Words.{Word}
use Rattle.ii_definitions.specs.IndexCalls.{call_of}
use Rattle.ii_definitions.specs.Tokens.{Call, Piece, begin_after, call_pieces, end_after, kept_words, max_token_len, pieces_of, text_at, tokens_after, tokens_of, word_token}
use Rattle.ii_definitions.proofs.PieceLaws.{tokens_after-append}
use Rattle.ii_definitions.specs.declared.index_call.IndexCall.{IndexCall}
use Rattle.ii_definitions.specs.declared.index_call.IndexCall.TheVariants.{Text, Tokens, U64, I64, Bool as Truth, Date, Bytes, Ip, Json}
use Rattle.ii_promises.specs.OrderlyCalls.{AreInOrder, IsOrderly, num_positions_of}
use Rattle.ii_promises.specs.PlainCalls.{IsTextOrNumber, call_size}

-- words in order from a greater position on are so from a lesser one on
ordered_from : (least later : ℕ) (ws : List Word) → least ≤ later → AreInOrder later ws → AreInOrder least ws
ordered_from least later [] low ordered = tt
ordered_from least later (w ∷ ws) low ordered = (omega (arith, low, ordered.0), ordered.1)

-- the words at runs, the first of them at a position
abbrev runs_from : List ℕ → ℕ → List ℕ → List Word
runs_from text position runs = map (λ (run : ℕ × ℕ). run_word text run.0 run.1) (enumerate_from position runs)

runs_ordered : (text : List ℕ) (position : ℕ) (runs : List ℕ) → AreInOrder position (kept_words (runs_from text position runs))
runs_ordered text position [] = tt
runs_ordered text position (run ∷ runs) = by_case (nat_le (length (run_word text position run).text) max_token_len) refl (runs_ordered text (position + 1) runs)
  where
    by_case : (b : Bool) → nat_le (length (run_word text position run).text) max_token_len ≡ b → AreInOrder (position + 1) (kept_words (runs_from text (position + 1) runs)) → AreInOrder position (kept_words (runs_from text position (run ∷ runs)))
    by_case true is rest = rw is (omega arith, ordered_from position (position + 1) (kept_words (runs_from text (position + 1) runs)) (omega arith) rest)
    by_case false is rest = rw is (ordered_from position (position + 1) (kept_words (runs_from text (position + 1) runs)) (omega arith) rest)

abbrev end_from : ℕ → List Word → ℕ
end_from least ws = fold (λ (end : ℕ) (w : Word). max end (0 + w.position + w.position_length)) least ws

runs_end : (text : List ℕ) (least position : ℕ) (runs : List ℕ) → least ≤ position → end_from least (kept_words (runs_from text position runs)) ≤ position + length runs
runs_end text least position [] low = omega (arith, low)
runs_end text least position (run ∷ runs) low =
    by_case (nat_le (length (run_word text position run).text) max_token_len) refl (runs_end text (max least (0 + position + 1)) (position + 1) runs (omega (arith, low))) (runs_end text least (position + 1) runs (omega (arith, low)))
  where
    by_case : (b : Bool) → nat_le (length (run_word text position run).text) max_token_len ≡ b → end_from (max least (0 + position + 1)) (kept_words (runs_from text (position + 1) runs)) ≤ position + 1 + length runs
        → end_from least (kept_words (runs_from text (position + 1) runs)) ≤ position + 1 + length runs → end_from least (kept_words (runs_from text position (run ∷ runs))) ≤ position + length (run ∷ runs)
    by_case true is kept dropped = rw is (omega (arith, kept))
    by_case false is kept dropped = rw is (omega (arith, dropped))

few_runs : (text : List ℕ) → length (run_starts text) ≤ length text
few_runs text = omega (arith, length-filter (begins_run text) (range_with_len 0 (length text)), count_by-le-length (begins_run text) (range_with_len 0 (length text)), length-range_with_len 0 (length text))

ascii_end : (text : List ℕ) → end_after 0 (ascii_words text) ≤ length text + 1
ascii_end text = omega (arith, runs_end text 0 0 (run_starts text) (omega arith), few_runs text)

few_words : (text : List ℕ) (position : ℕ) (runs : List ℕ) → length (kept_words (runs_from text position runs)) ≤ length runs
few_words text position [] = omega arith
few_words text position (run ∷ runs) = by_case (nat_le (length (run_word text position run).text) max_token_len) refl (few_words text (position + 1) runs)
  where
    by_case : (b : Bool) → nat_le (length (run_word text position run).text) max_token_len ≡ b → length (kept_words (runs_from text (position + 1) runs)) ≤ length runs → length (kept_words (runs_from text position (run ∷ runs))) ≤ length (run ∷ runs)
    by_case true is rest = rw is (omega (arith, rest))
    by_case false is rest = rw is (omega (arith, rest))

module _ (entries : List SchemaEntry) where
  plain_is_orderly : (c : IndexCall) → IsTextOrNumber c → IsOrderly ascii_words (call_of entries c).content
  plain_is_orderly (Text doc field t) plain = runs_ordered (string_bytes t) 0 (run_starts (string_bytes t))
  plain_is_orderly (Tokens doc field tokens) plain = absurd plain
  plain_is_orderly (U64 doc field n) plain = omega arith
  plain_is_orderly (I64 doc field n) plain = omega arith
  plain_is_orderly (Truth doc field b) plain = omega arith
  plain_is_orderly (Date doc field date) plain = omega arith
  plain_is_orderly (Bytes doc field bytes) plain = absurd plain
  plain_is_orderly (Ip doc field address) plain = omega arith
  plain_is_orderly (Json doc field v) plain = absurd plain

  -- What a call takes at most.
  record IsSmall (size : ℕ) (ps : List Piece) : Type 0 where
    pub positions : sum_by (λ (p : Piece). end_after 0 p.words) ps ≤ size
    pub tokens : (earlier : List Piece) → length (tokens_after earlier ps) ≤ size

  call_is_small : (c : IndexCall) → IsTextOrNumber c → IsSmall (call_size c) (call_pieces ascii_words (call_of entries c))
  call_is_small (Text doc field t) plain =
      let bytes = string_bytes t in
      let p = text_at doc field [] (ascii_words bytes) in
      record {
        positions = omega (arith, ascii_end bytes);
        tokens = λ earlier.
            omega (
              arith,
              length-append (map (word_token p (begin_after earlier p)) (kept_words p.words)) [],
              length-map (kept_words p.words) (word_token p (begin_after earlier p)),
              few_words bytes 0 (run_starts bytes),
              few_runs bytes,
            );
      }
  call_is_small (Tokens doc field tokens) plain = absurd plain
  call_is_small (U64 doc field n) plain = record { positions = omega arith; tokens = λ earlier. omega arith }
  call_is_small (I64 doc field n) plain = record { positions = omega arith; tokens = λ earlier. omega arith }
  call_is_small (Truth doc field b) plain = record { positions = omega arith; tokens = λ earlier. omega arith }
  call_is_small (Date doc field date) plain = record { positions = omega arith; tokens = λ earlier. omega arith }
  call_is_small (Bytes doc field bytes) plain = absurd plain
  call_is_small (Ip doc field address) plain = record { positions = omega arith; tokens = λ earlier. omega arith }
  call_is_small (Json doc field v) plain = absurd plain

  calls_are_small : (cs : List IndexCall) → AllByRecursion IsTextOrNumber cs → IsSmall (sum_by call_size cs) (pieces_of ascii_words (map (call_of entries) cs))
  calls_are_small [] plain = record { positions = omega arith; tokens = λ earlier. omega arith }
  calls_are_small (c ∷ cs) plain =
      let first = call_pieces ascii_words (call_of entries c) in
      let others = pieces_of ascii_words (map (call_of entries) cs) in
      let own = call_is_small c plain.0 in
      let rest = calls_are_small cs plain.1 in
      let whole = flat_map-cons (call_pieces ascii_words) (call_of entries c) (map (call_of entries) cs) in
      record {
        positions =
            omega (
              arith,
              own.positions,
              rest.positions,
              sum_by-cons call_size c cs,
              sum_by-append (λ (p : Piece). end_after 0 p.words) first others,
              ap (λ (ps : List Piece). sum_by (λ (p : Piece). end_after 0 p.words) ps) whole,
            );
        tokens = λ earlier.
            omega (
              arith,
              own.tokens earlier,
              rest.tokens (earlier ++ first),
              sum_by-cons call_size c cs,
              ap (λ (ps : List Piece). length (tokens_after earlier ps)) whole,
              ap length (tokens_after-append earlier first others),
              length-append (tokens_after earlier first) (tokens_after (earlier ++ first) others),
            );
      }

  all_orderly : (cs : List IndexCall) → AllByRecursion IsTextOrNumber cs → AllByRecursion (λ (c : Call). IsOrderly ascii_words c.content) (map (call_of entries) cs)
  all_orderly [] plain = tt
  all_orderly (c ∷ cs) plain = (plain_is_orderly c plain.0, all_orderly cs plain.1)

  -- small calls of texts and numbers are in order, and their tokens and positions are few
  pub plain_calls : (cs : List IndexCall) → AllByRecursion IsTextOrNumber cs → sum_by call_size cs ≤ 1000000
      → AllByRecursion (λ (c : Call). IsOrderly ascii_words c.content) (map (call_of entries) cs) × (num_positions_of ascii_words (map (call_of entries) cs) ≤ 1000000) × (length (tokens_of ascii_words (map (call_of entries) cs)) ≤ 1000000)
  plain_calls cs plain few =
      let small = calls_are_small cs plain in
      (all_orderly cs plain, omega (arith, few, small.positions), omega (arith, few, small.tokens []))
