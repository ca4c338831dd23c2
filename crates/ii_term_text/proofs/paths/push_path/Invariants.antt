use Rattle.std.proofs.Common.{◌≡◌, ◌++◌, string_bytes}
use Rattle.std.specs.Str.Iter.{chars_rest}
use Rattle.ii_term_text.specs.PathTexts.{path_text}
use Rattle.ii_term_text.proofs.paths.push_path.Given as goal

abbrev pub invariant-loop-c : goal.invariant-loop-c
invariant-loop-c l = string_bytes l.fn.text ++ path_text l.fn.path ≡ string_bytes l.text ++ path_text (chars_rest l.c-iterator)
