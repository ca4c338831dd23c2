use Rattle.ii_snippet.proofs.object_snippets.tokens_of.Goals as goal

pub returns-clause-tokens : goal.returns-clause-tokens
returns-clause-tokens c = rw (c.in_ok-stream.ensures.ok, c.analyzer-analyzer.ensures, c.from_field_id-field.ensures) at c.snippet_tokens.ensures.ok
