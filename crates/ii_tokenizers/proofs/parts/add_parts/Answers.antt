use Rattle.std.proofs.Common.{refl, ◌≡◌, ◌++◌, ◌+◌, ◌-◌, [], chars, drop, length, sym, ap, ◌∙◌, arith, take, List, ℕ}
use Rattle.std.specs.List.{slice_range}
use Rattle.std.specs.Str.Iter.{chars_rest}
use Rattle.std.specs.Char.{encode_utf8, len_utf8}
use Rattle.std.proofs.lemmas.Str.{IsCharBoundary-start, IsUtf8-between, IsUtf8-drop}
use Rattle.unicode_segmentation.proofs.TextLemmas.{length-slice_range, slice_range_split}
use Rattle.ii_base.specs.Parts.{Part, part_words}
use Rattle.ii_tokenizers.specs.Analyzers.{cuts_at, nonempty_parts}
use Rattle.ii_tokenizers.proofs.PartLemmas.{added_part, cut_step, end_step, ok_then, parts_of, passes, plain_step, start_step}
use Rattle.ii_tokenizers.proofs.parts.add_parts.Goals as goal

no_range : (text : List ℕ) (i : ℕ) → slice_range text i i ≡ []
no_range text i =
    let none : i - i ≡ 0 = omega arith in
    ap (λ (n : ℕ). take n (drop i text)) none

pub loop-c-init : goal.loop-c-init
loop-c-init c =
    let rest : chars_rest c.into_iter-c-iterator.result ≡ c.args.piece.now = ap chars_rest c.into_iter-c-iterator.ensures.into_iter_gives ∙ c.chars-c-items.ensures.rest in
    let at : c.args.at + 0 ≡ c.args.at = omega arith in (
      ap (λ (n : ℕ). c.args.tokens.now ++ part_words (length c.args.tokens.now) (nonempty_parts (parts_of (cuts_at c.args.cut) n [] c.args.piece.now))) at
          ∙ ap (λ (ps : List Part). c.args.tokens.now ++ part_words (length c.args.tokens.now) (nonempty_parts ps)) (start_step (cuts_at c.args.cut) c.args.at [] c.args.piece.now refl),
      rest,
      omega arith,
      IsCharBoundary-start c.args.piece.now c.utf8.piece,
      IsCharBoundary-start c.args.piece.now c.utf8.piece,
    )

pub loop-c-preserved-in_ok-add_part : goal.loop-c-preserved-in_ok-add_part
loop-c-preserved-in_ok-add_part c =
    let text = c.args.piece.now in
    let start = c.loop-c.start in
    let end = c.loop-c.end in
    let next = end + c.len_utf8.result in
    let front = slice_range text start end in
    let size : c.len_utf8.result ≡ len_utf8 c.in-Some.c = c.len_utf8.ensures.value in
    let past = passes text (chars_rest c.loop-c.c-iterator) (chars_rest c.next.new.self) end next c.in-Some.c c.utf8.piece c.loop-c.invariant.4 c.loop-c.invariant.1 c.in-Some.ensures.steps.0 (ap (λ (n : ℕ). end + n) size) in
    let step : drop end text ≡ encode_utf8 c.in-Some.c ++ drop next text = sym c.loop-c.invariant.1 ∙ c.in-Some.ensures.steps.0 ∙ ap (λ (bs : List ℕ). encode_utf8 c.in-Some.c ++ bs) (sym past.rest_is) in
    let place : c.args.at + next ≡ c.args.at + start + length front + len_utf8 c.in-Some.c = omega (arith, size, length-slice_range text start end c.loop-c.invariant.4.0, c.loop-c.invariant.2) in
    let nothing : slice_range text next next ≡ [] = no_range text next in
    let cut = cut_step (cuts_at c.args.cut) (c.args.at + start) (c.args.at + next) front (slice_range text next next) (drop end text) (drop next text) c.in-Some.c
    (IsUtf8-drop text end c.utf8.piece c.loop-c.invariant.4) step nothing place (sym c.cuts_at.ensures ∙ c.if-cuts_at.true) in
    let part : c.range.result.now ≡ front = c.range.ensures.value in
    let added = rw part at c.in_ok-add_part.ensures.ok in (
      added_part c.loop-c.tokens c.add_part.new.tokens (length c.loop-c.tokens) (length c.add_part.new.tokens) (record { offset = c.args.at + start; characters = chars front })
          (parts_of (cuts_at c.args.cut) (c.args.at + next) (slice_range text next next) (drop next text)) added refl refl
          ∙ ap (λ (ps : List Part). c.loop-c.tokens ++ part_words (length c.loop-c.tokens) (nonempty_parts ps)) (sym cut) ∙ c.loop-c.invariant.0,
      sym past.rest_is,
      omega arith,
      past.boundary,
      past.boundary,
    )

pub loop-c-preserved : goal.loop-c-preserved
loop-c-preserved c =
    let text = c.args.piece.now in
    let start = c.loop-c.start in
    let end = c.loop-c.end in
    let next = end + c.len_utf8.result in
    let front = slice_range text start end in
    let size : c.len_utf8.result ≡ len_utf8 c.in-Some.c = c.len_utf8.ensures.value in
    let past = passes text (chars_rest c.loop-c.c-iterator) (chars_rest c.next.new.self) end next c.in-Some.c c.utf8.piece c.loop-c.invariant.4 c.loop-c.invariant.1 c.in-Some.ensures.steps.0 (ap (λ (n : ℕ). end + n) size) in
    let step : drop end text ≡ encode_utf8 c.in-Some.c ++ drop next text = sym c.loop-c.invariant.1 ∙ c.in-Some.ensures.steps.0 ∙ ap (λ (bs : List ℕ). encode_utf8 c.in-Some.c ++ bs) (sym past.rest_is) in
    let longer : slice_range text start next ≡ front ++ encode_utf8 c.in-Some.c = slice_range_split text start end next c.loop-c.invariant.2 (omega arith) ∙ ap (λ (bs : List ℕ). front ++ bs) past.character in
    let plain = plain_step (cuts_at c.args.cut) (c.args.at + start) front (slice_range text start next) (drop end text) (drop next text) c.in-Some.c
    (IsUtf8-between text start end c.utf8.piece c.loop-c.invariant.2 c.loop-c.invariant.3 c.loop-c.invariant.4) (IsUtf8-drop text end c.utf8.piece c.loop-c.invariant.4) step longer (sym c.cuts_at.ensures ∙ c.if-cuts_at.false) in (
      ap (λ (ps : List Part). c.loop-c.tokens ++ part_words (length c.loop-c.tokens) (nonempty_parts ps)) (sym plain) ∙ c.loop-c.invariant.0,
      sym past.rest_is,
      omega (arith, c.loop-c.invariant.2),
      c.loop-c.invariant.3,
      past.boundary,
    )

pub returns-clause-ok : goal.returns-clause-ok
returns-clause-ok c =
    let text = c.args.piece.now in
    let rest_len : length (drop c.loop-c.end text) ≡ 0 = ap length (sym c.loop-c.invariant.1) ∙ c.in-None.ensures.steps.0.0 in
    let end = end_step (cuts_at c.args.cut) (c.args.at + c.loop-c.start) (slice_range text c.loop-c.start c.loop-c.end) (drop c.loop-c.end text) rest_len in
    let part : c.range-2.result.now ≡ slice_range text c.loop-c.start c.loop-c.end = c.range-2.ensures.value in
    let whole = ap (λ (ps : List Part). c.loop-c.tokens ++ part_words (length c.loop-c.tokens) (nonempty_parts ps)) (sym end) ∙ c.loop-c.invariant.0 in
    ok_then c.add_part-2.result (λ ok. (rw part at ok) ∙ whole) c.add_part-2.ensures.ok
