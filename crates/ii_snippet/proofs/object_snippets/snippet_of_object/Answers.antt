use Rattle.std.proofs.Common.{◌∙◌, map, string_bytes}
use Rattle.ii_snippet.specs.ObjectSnippets.{gap}
use Rattle.ii_snippet.proofs.ObjectSnippetLemmas.{bytes_joined}
use Rattle.ii_snippet.proofs.object_snippets.snippet_of_object.Goals as goal

pub returns-clause-shown : goal.returns-clause-shown
unfolding lib.Utf8.encode
returns-clause-shown c = record {
  snippets = map string_bytes c.in_ok-snippets.snippets.items;
  are_snippets = rw (c.deref.ensures.value, c.in_ok-texts.ensures.texts) at c.in_ok-snippets.ensures.shown;
  are_joined = rw c.as_slice.ensures.value at c.in_ok-join.ensures.ok ∙ bytes_joined gap c.in_ok-snippets.snippets.items;
}
