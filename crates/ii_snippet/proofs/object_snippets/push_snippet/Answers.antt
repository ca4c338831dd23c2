use Rattle.std.proofs.Common.{◌≡◌, ◌∙◌, ◌∷◌, [], true, ap, map, string_bytes, rules}
use Rattle.std.proofs.lemmas.List.{map-append}
use Rattle.ii_snippet.specs.Fragments.{piece_of}
use Rattle.ii_snippet.specs.FieldTexts.{field_text}
use Rattle.ii_snippet.specs.ObjectSnippets.{IsTextSnippet, has_wanted, rules_of, tokens_of}
use Rattle.ii_snippet.proofs.ObjectSnippetLemmas.{one_shown, some_tokens}
use Rattle.ii_snippet.proofs.object_snippets.push_snippet.Goals as goal

pub returns-clause-shown : goal.returns-clause-shown
returns-clause-shown c =
    let r = rules_of c.args.rules.now in
    let t = field_text c.args.text in
    let tokens : c.deref-2.result.now ≡ tokens_of r t = c.deref-2.ensures.value ∙ c.in_ok-tokens.ensures.tokens in
    let here : has_wanted c.deref-2.result.now ≡ true = search rules in
    let wanted : has_wanted (tokens_of r t) ≡ true = rw tokens at here in
    let shown : IsTextSnippet r t (string_bytes c.in_ok-shown.shown) = record {
      pieces = map piece_of c.in_ok-snippet.snippet.pieces.items;
      shown = rw tokens at (c.in_ok-snippet.ensures.shown (some_tokens c.deref-2.result.now here));
      is_written = c.in_ok-shown.ensures.ok;
    } in
    one_shown r t (map string_bytes c.args.snippets.now.items) (map string_bytes c.push.new.self.items) (string_bytes c.in_ok-shown.shown) wanted shown
    (ap (map string_bytes) c.in_ok-push.ensures.items ∙ map-append string_bytes c.args.snippets.now.items (c.in_ok-shown.shown ∷ []))
