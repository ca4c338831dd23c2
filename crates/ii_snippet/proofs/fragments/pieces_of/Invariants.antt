use Rattle.std.proofs.Common.{◌≡◌, ◌++◌, drop, map}
use Rattle.ii_snippet.specs.Fragments.{piece_of, pieces_between, pieces_of, wanted_tokens}
use Rattle.ii_snippet.proofs.fragments.pieces_of.Given as goal

abbrev pub invariant-loop-token : goal.invariant-loop-token
invariant-loop-token l = map piece_of l.pieces.items ++ pieces_between l.text l.from l.to (wanted_tokens (drop l.token-index l.tokens)) ≡ pieces_of l.text l.tokens
