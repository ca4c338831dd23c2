use Rattle.std.proofs.Common.{◌∙◌, ap, map, string_bytes}
use Rattle.ii_base.specs.Words.{lowercase_word}
use Rattle.ii_base.proofs.BufferLemmas.{all_lower, words_lower}
use Rattle.ii_base.proofs.tokenizer.token_buffer.TokenBuffer.make_ascii_lowercase.Goals as goal

pub returns : goal.returns
returns c = words_lower (string_bytes c.self.inside.texts) (string_bytes c.make_ascii_lowercase.new.self) c.self.inside.places.items c.make_ascii_lowercase.ensures.bytes ∙ ap (map lowercase_word) c.self.view_is

pub invariant_of-self : goal.invariant_of-self
invariant_of-self c = all_lower (string_bytes c.self.inside.texts) (string_bytes c.make_ascii_lowercase.new.self) c.self.inside.places.items c.make_ascii_lowercase.ensures.bytes c.self.invariant
