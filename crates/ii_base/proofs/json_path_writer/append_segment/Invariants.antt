use Rattle.std.proofs.Common.{string_bytes}
use Rattle.std.specs.Str.Iter.{chars_rest}
use Rattle.ii_base.proofs.CharLemmas.{IsExpanding}
use Rattle.ii_base.proofs.json_path_writer.append_segment.Given as goal

abbrev pub invariant-loop-c : goal.invariant-loop-c
invariant-loop-c l = IsExpanding (string_bytes l.fn.path) l.segment (string_bytes l.path) (chars_rest l.c-iterator)
