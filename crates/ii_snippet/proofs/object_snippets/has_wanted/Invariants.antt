use Rattle.std.proofs.Common.{◌≡◌, drop}
use Rattle.ii_snippet.specs.ObjectSnippets.{has_wanted}
use Rattle.ii_snippet.proofs.object_snippets.has_wanted.Given as goal

abbrev pub invariant-loop-token : goal.invariant-loop-token
invariant-loop-token l = has_wanted (drop l.token-index l.tokens) ≡ has_wanted l.tokens
