use Rattle.std.proofs.Common.{map, string_bytes, ap, ◌∙◌}
use Rattle.std.specs.Char.{to_ascii_lowercase}
use Rattle.ii_tokenizers.proofs.LowercaseLemmas.{ascii_default, lower_is_ascii}
use Rattle.ii_tokenizers.proofs.analyzer.default_tokens.Goals as goal

pub new-requires : goal.new-requires
new-requires c = lower_is_ascii c.args.text.now (string_bytes c.make_ascii_lowercase.new.self) c.if-is_ascii.ensures.cases (c.make_ascii_lowercase.ensures.bytes ∙ ap (map to_ascii_lowercase) c.in_ok-lower.ensures.ok)

pub returns-then-is_ascii-clause-ok : goal.returns-then-is_ascii-clause-ok
returns-then-is_ascii-clause-ok c =
    ap (λ s. s.to_come) c.new.ensures
    ∙ ascii_default c.args.text.now (string_bytes c.make_ascii_lowercase.new.self) c.if-is_ascii.ensures.cases (c.make_ascii_lowercase.ensures.bytes ∙ ap (map to_ascii_lowercase) c.in_ok-lower.ensures.ok)
