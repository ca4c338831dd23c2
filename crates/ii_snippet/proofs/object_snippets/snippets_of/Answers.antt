use Rattle.std.proofs.Common.{map, string_bytes}
use Rattle.ii_snippet.specs.ObjectSnippets.{rules_of}
use Rattle.ii_snippet.proofs.ObjectSnippetLemmas.{all_shown, text_shown}
use Rattle.ii_snippet.proofs.object_snippets.snippets_of.Goals as goal

pub loop-text-preserved : goal.loop-text-preserved
loop-text-preserved c = text_shown (rules_of c.args.rules.now) c.args.texts.now c.loop-text.text-index _ (map string_bytes c.loop-text.snippets.items) (map string_bytes c.push_snippet.new.snippets.items) c.loop-text-test.true c.in_ok-push_snippet.ensures.shown c.loop-text.invariant

pub returns-clause-shown : goal.returns-clause-shown
returns-clause-shown c = all_shown (rules_of c.args.rules.now) c.args.texts.now c.loop-text.text-index (map string_bytes c.loop-text.snippets.items) c.loop-text-test.false c.loop-text.invariant
