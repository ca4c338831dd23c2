use Rattle.std.proofs.Common.{ℕ, List, ◌∙◌, ◌++◌, ap, arith, length, refl, sym}
use Rattle.std.specs.List.{flat_map}
use Rattle.std.proofs.lemmas.List.{append-nil}
use Rattle.std.proofs.lemmas.List.Elements.{All-filter, All-head, All-rest}
use Rattle.unicode_segmentation.proofs.SegmentsLemmas.{IsPieceOf, All-IsPieceOf}
use Rattle.unicode_segmentation.specs.Iter.{unicode_word_indices_left}
use Rattle.ii_base.specs.Parts.{Part, part_words}
use Rattle.ii_tokenizers.specs.Analyzers.{piece_parts}
use Rattle.ii_tokenizers.specs.declared.parts.Cut.TheVariants.{AtMarks}
use Rattle.ii_tokenizers.proofs.AsciiWordLemmas.{ascii_rule_parts}
use Rattle.ii_tokenizers.proofs.PartLemmas.{added_parts, ok_then}
use Rattle.ii_tokenizers.proofs.SpaceLemmas.{moved, shifted_parts}
use Rattle.ii_tokenizers.proofs.parts.add_stretch.Goals as goal

pub loop-place-init : goal.loop-place-init
loop-place-init c = (
  rw (c.into_iter-place-iterator.ensures.into_iter_gives, c.unicode_word_indices-place-items.ensures.left)
      (All-filter _ (IsPieceOf c.args.stretch.now) _ (All-IsPieceOf _ _ c.utf8.stretch)),
  rw (c.into_iter-place-iterator.ensures.into_iter_gives, c.unicode_word_indices-place-items.ensures.left)
      (ap (λ (ps : List Part). c.args.tokens.now ++ part_words (length c.args.tokens.now) ps) (sym (shifted_parts c.args.at c.args.stretch.now))),
)

pub add_parts-requires : goal.add_parts-requires
add_parts-requires c =
    let piece : IsPieceOf c.args.stretch.now (c.in-Some.place, c.in-Some.word.now) = All-head (IsPieceOf c.args.stretch.now) (c.in-Some.place, c.in-Some.word.now) (unicode_word_indices_left c.next.new.self) (rw c.in-Some.ensures.steps at c.loop-place.invariant.0) in
    record { room = omega (arith, piece.end.0, c.requires.room) }

pub loop-place-preserved : goal.loop-place-preserved
loop-place-preserved c = (
  All-rest (IsPieceOf c.args.stretch.now) _ _ _ c.in-Some.ensures.steps c.loop-place.invariant.0,
  added_parts c.loop-place.tokens c.add_parts.new.tokens (length c.loop-place.tokens) (length c.add_parts.new.tokens) (piece_parts AtMarks (moved c.args.at (c.in-Some.place, c.in-Some.word.now)))
      (flat_map (λ (piece : ℕ × List ℕ). piece_parts AtMarks (moved c.args.at piece)) (unicode_word_indices_left c.next.new.self)) c.in_ok-add_parts.ensures.ok refl refl
      ∙ (rw c.in-Some.ensures.steps at c.loop-place.invariant.1),
)

pub returns-clause-ok : goal.returns-clause-ok
returns-clause-ok c = rw (c.in-None.ensures.steps.0, append-nil) at c.loop-place.invariant.1

pub returns-then-is_ascii-clause-ok : goal.returns-then-is_ascii-clause-ok
returns-then-is_ascii-clause-ok c =
    ok_then c.add_ascii_words.result (λ ok. ok ∙ ap (λ (ps : List Part). c.args.tokens.now ++ part_words (length c.args.tokens.now) ps) (sym (ascii_rule_parts c.args.at c.args.stretch.now c.if-is_ascii.ensures.cases))) c.add_ascii_words.ensures.ok
