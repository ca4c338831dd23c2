use Rattle.std.proofs.Common.{◌≡◌, ◌++◌, drop, map, string_bytes}
use Rattle.ii_snippet.specs.Fragments.{piece_of}
use Rattle.ii_snippet.specs.Marks.{written}
use Rattle.ii_snippet.proofs.fragments.Snippet.to_text.Given as goal

abbrev pub invariant-loop-piece : goal.invariant-loop-piece
invariant-loop-piece l = string_bytes l.out ++ written l.style (map piece_of (drop l.piece-index l.piece-items)) ≡ written l.style (map piece_of l.self.pieces.items)
