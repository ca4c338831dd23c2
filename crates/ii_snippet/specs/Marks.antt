-- How a snippet is written.
use Rattle.std.specs.Prelude.{ℕ, ◌==◌, List, [], ◌∷◌, ◌++◌, chars, codes, if◌then◌else◌}
use Rattle.std.specs.Char.{encode_utf8, is_control}
use Rattle.std.specs.List.{flat_map}
use Rattle.ii_snippet.specs.declared.marks.MarkStyle.{MarkStyle}
use Rattle.ii_snippet.specs.declared.marks.MarkStyle.TheVariants.{Html, Plain, Terminal}
use Rattle.ii_snippet.specs.Fragments.{Piece}

-- a character as HTML
abbrev pub html_char : ℕ → List ℕ
html_char c =
    if c == 38 then codes "&amp;"
    else if c == 60 then codes "&lt;"
    else if c == 62 then codes "&gt;"
    else if c == 34 then codes "&quot;"
    else if c == 39 then codes "&#x27;"
    else encode_utf8 c

-- a character as a terminal may show it: U+FFFD in place of a control character
abbrev pub terminal_char : ℕ → List ℕ
terminal_char c = if is_control c then encode_utf8 65533 else encode_utf8 c

-- a character as it is written
abbrev pub written_char : MarkStyle → ℕ → List ℕ
written_char Html c = html_char c
written_char Terminal c = terminal_char c
written_char Plain c = terminal_char c

-- what is written before a wanted word
abbrev pub opening : MarkStyle → List ℕ
opening Html = codes "<b>"
opening Terminal = 27 ∷ codes "[1m"
opening Plain = []

-- what is written after a wanted word
abbrev pub closing : MarkStyle → List ℕ
closing Html = codes "</b>"
closing Terminal = 27 ∷ codes "[0m"
closing Plain = []

-- a text as it is written
abbrev pub written_text : MarkStyle → List ℕ → List ℕ
written_text style text = flat_map (written_char style) (chars text)

-- a piece as it is written
abbrev pub written_piece : MarkStyle → Piece → List ℕ
written_piece style p = if p.is_wanted then opening style ++ written_text style p.text ++ closing style else written_text style p.text

-- a snippet as it is written
abbrev pub written : MarkStyle → List Piece → List ℕ
written style pieces = flat_map (written_piece style) pieces
