-- The tokens of a text, owned or borrowed.
use Rattle.std.specs.Prelude.{◌-◌, List, Option, Some, None, if◌then◌else◌}
use Rattle.ii_base.specs.Words.{Word}
use Rattle.ii_base.specs.AsciiWords.{is_run, run_word, words_from}
use Rattle.ii_base.specs.declared.tokenizer.text_tokens.TextTokens.{TextTokens}
use Rattle.ii_base.specs.declared.tokenizer.text_tokens.TextTokens.TheVariants.{Ascii, Buffered, Owned, Runs}

-- the remaining tokens
abbrev pub to_come_of : TextTokens → List Word
to_come_of (Owned tokens) = tokens.to_come
to_come_of (Buffered tokens) = tokens.to_come
to_come_of (Runs tokens) = tokens.to_come
to_come_of (Ascii tokens) = words_from tokens.text.now tokens.passed tokens.end

-- the current token
abbrev pub current_of : TextTokens → Option Word
current_of (Owned tokens) = tokens.current
current_of (Buffered tokens) = tokens.current
current_of (Runs tokens) = tokens.current
current_of (Ascii tokens) = if is_run tokens.text.now tokens.start tokens.end then Some (run_word tokens.text.now (tokens.passed - 1) tokens.start) else None
