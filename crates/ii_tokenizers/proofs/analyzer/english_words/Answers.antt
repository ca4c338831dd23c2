use Rattle.std.proofs.Common.{List, ◌++◌, ap, refl, sym, ◌∙◌}
use Rattle.ii_base.specs.TextTokens.{current_of, to_come_of}
use Rattle.ii_base.specs.Words.{Word, seen_word}
use Rattle.ii_tokenizers.specs.Analyzers.{remove_stop, stem}
use Rattle.ii_tokenizers.proofs.FilterLemmas.{english_next, first_to_come}
use Rattle.ii_tokenizers.proofs.analyzer.english_words.Goals as goal

pub loop-alloc-preserved : goal.loop-alloc-preserved
loop-alloc-preserved c =
    let stops = c.args.stop_words.now in
    let ws = to_come_of c.loop-alloc.words in
    let rest = to_come_of c.advance.new.self in
    let w = seen_word c.token.result in
    let first = first_to_come ws rest w (current_of c.advance.new.self) (c.loop-alloc-test.ensures.current refl) c.token.ensures c.loop-alloc-test.ensures.rest in
    ap (λ (vs : List Word). vs ++ stem (remove_stop stops rest)) c.in_ok-push_unless_stop.ensures.ok
    ∙ english_next stops c.loop-alloc.stems w rest
    ∙ ap (λ (vs : List Word). c.loop-alloc.stems ++ stem (remove_stop stops vs)) (sym first)
    ∙ c.loop-alloc.invariant
