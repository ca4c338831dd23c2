use Rattle.std.proofs.Common.{string_bytes, subst}
use Rattle.std.specs.Prelude.{IsAscii}
use Rattle.std.specs.List.{All}
use Rattle.ii_base.specs.Words.{Word}
use Rattle.ii_base.proofs.BufferLemmas.{ascii_words}
use Rattle.ii_base.proofs.tokenizer.token_buffer.TokenBuffer.is_ascii.Goals as goal

pub returns : goal.returns
returns c = λ is. subst (All (λ (w : Word). IsAscii w.text)) c.self.view_is (ascii_words (string_bytes c.self.inside.texts) c.self.inside.places.items (subst IsAscii c.as_str.ensures.value (rw is at c.is_ascii.ensures.cases)))
