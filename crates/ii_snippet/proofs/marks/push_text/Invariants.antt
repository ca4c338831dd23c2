use Rattle.std.proofs.Common.{◌≡◌, ◌++◌, chars, string_bytes}
use Rattle.std.specs.List.{flat_map}
use Rattle.std.specs.Str.{IsUtf8}
use Rattle.std.specs.Str.Iter.{chars_rest}
use Rattle.ii_snippet.specs.Marks.{written_char, written_text}
use Rattle.ii_snippet.proofs.marks.push_text.Given as goal

abbrev pub invariant-loop-c : goal.invariant-loop-c
invariant-loop-c l =
    (string_bytes l.out ++ flat_map (written_char l.style) (chars (chars_rest l.c-iterator)) ≡ string_bytes l.fn.out ++ written_text l.style l.text)
    × IsUtf8 (chars_rest l.c-iterator)
