use Rattle.std.proofs.Common.{◌≡◌, ◌+◌, ◌≤◌, ◌++◌, drop, length}
use Rattle.std.specs.Prelude.{IsCharBoundary}
use Rattle.std.specs.List.{slice_range}
use Rattle.std.specs.Str.Iter.{chars_rest}
use Rattle.ii_base.specs.Parts.{part_words}
use Rattle.ii_tokenizers.specs.Analyzers.{cuts_at, nonempty_parts, piece_parts}
use Rattle.ii_tokenizers.proofs.PartLemmas.{parts_of}
use Rattle.ii_tokenizers.proofs.parts.add_parts.Given as goal

abbrev pub invariant-loop-c : goal.invariant-loop-c
invariant-loop-c l =
    (l.tokens ++ part_words (length l.tokens) (nonempty_parts (parts_of (cuts_at l.cut) (l.at + l.start) (slice_range l.piece l.start l.end) (drop l.end l.piece)))
    ≡ l.fn.tokens ++ part_words (length l.fn.tokens) (piece_parts l.cut (l.at, l.piece)))
    × (chars_rest l.c-iterator ≡ drop l.end l.piece)
    × (l.start ≤ l.end) × IsCharBoundary l.piece l.start × IsCharBoundary l.piece l.end
