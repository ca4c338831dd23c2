use Rattle.std.proofs.Common.{◌≡◌, ◌++◌, ℕ, List, length}
use Rattle.std.specs.List.{All, flat_map}
use Rattle.unicode_segmentation.specs.Iter.{unicode_word_indices_left}
use Rattle.unicode_segmentation.proofs.SegmentsLemmas.{IsPieceOf}
use Rattle.ii_base.specs.Parts.{part_words}
use Rattle.ii_tokenizers.specs.Analyzers.{piece_parts, rule_parts}
use Rattle.ii_tokenizers.specs.declared.parts.Cut.TheVariants.{AtMarks}
use Rattle.ii_tokenizers.proofs.SpaceLemmas.{moved}
use Rattle.ii_tokenizers.proofs.parts.add_stretch.Given as goal

abbrev pub invariant-loop-place : goal.invariant-loop-place
invariant-loop-place l =
    All (IsPieceOf l.stretch) (unicode_word_indices_left l.place-iterator)
    × (l.tokens ++ part_words (length l.tokens) (flat_map (λ (piece : ℕ × List ℕ). piece_parts AtMarks (moved l.at piece)) (unicode_word_indices_left l.place-iterator))
    ≡ l.fn.tokens ++ part_words (length l.fn.tokens) (rule_parts l.at l.stretch))
