use Rattle.std.proofs.Common.{◌∙◌, refl, sym}
use Rattle.ii_base.specs.Words.{seen_word}
use Rattle.ii_query_parser.proofs.WordsLemmas.{takes_more}
use Rattle.ii_query_parser.proofs.phrase_words.other_words.Goals as goal

pub loop-alloc-preserved : goal.loop-alloc-preserved
loop-alloc-preserved g c =
    let step = c.loop-alloc-test.ensures in
    takes_more c.args.prefix.now c.args.first c.in-Some.distance (g.S.TokenStream.to_come c.args.tokens.now) (g.S.TokenStream.to_come c.loop-alloc.tokens) (g.S.TokenStream.to_come c.advance.new.self) c.loop-alloc.others.items c.push.new.self.items
    (seen_word c.token-token.result) c.in_ok-term.term c.loop-alloc.invariant (sym (step.current refl) ∙ c.token-token.ensures) step.rest c.in-Some.ensures c.in_ok-term.ensures.ok c.in_ok-push.ensures.items
