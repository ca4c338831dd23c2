use Rattle.std.proofs.Common.{◌≡◌, ◌++◌, length, map}
use Rattle.ii_snippet.specs.Wanted.{snippet_token, wanted_of}
use Rattle.ii_snippet.proofs.wanted.snippet_tokens.Given as goal

abbrev pub invariant-loop-field : goal.invariant-loop-field
invariant-loop-field g l = l.tokens.items ++ map (snippet_token (map wanted_of l.words) l.field) (g.S.TokenStream.to_come l.stream) ≡ map (snippet_token (map wanted_of l.words) l.field) (g.S.TokenStream.to_come l.fn.stream)

abbrev pub decreases-loop-field : goal.decreases-loop-field
decreases-loop-field g l = length (g.S.TokenStream.to_come l.stream)
