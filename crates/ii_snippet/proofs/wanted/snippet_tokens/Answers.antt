use Rattle.std.proofs.Common.{◌≡◌, ◌++◌, true, nat_lt, length, ◌∷◌, [], map, ap, sym, ◌∙◌}
use Rattle.ii_base.specs.Words.{seen_word}
use Rattle.ii_snippet.specs.declared.windows.SnippetToken.{SnippetToken}
use Rattle.ii_snippet.specs.Wanted.{snippet_token, wanted_of}
use Rattle.ii_snippet.proofs.TokenLemmas.{token_marked}
use Rattle.ii_snippet.proofs.wanted.snippet_tokens.Goals as goal

pub loop-field-preserved : goal.loop-field-preserved
loop-field-preserved g c =
    let some : nat_lt 0 (length (g.S.TokenStream.to_come c.loop-field.stream)) ≡ true = sym c.advance.ensures.found ∙ c.loop-field-test.true in
    let added = c.in_ok-push.ensures.items ∙ ap (λ (t : SnippetToken). c.loop-field.tokens.items ++ t ∷ []) c.snippet_token.ensures in
    token_marked (snippet_token (map wanted_of c.args.words.now) c.args.field) c.loop-field.tokens.items c.push.new.self.items _ (g.S.TokenStream.to_come c.loop-field.stream) _ _ (seen_word c.token.result) some (c.advance.ensures.current c.loop-field-test.true) c.token.ensures c.advance.ensures.rest added c.loop-field.invariant
