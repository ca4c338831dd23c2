use Rattle.std.specs.Str.Iter.{chars_rest}
use Rattle.std.proofs.lemmas.Str.{IsUtf8-past_char}
use Rattle.ii_snippet.specs.Marks.{written_char}
use Rattle.ii_snippet.proofs.MarkLemmas.{char_written, text_written}
use Rattle.ii_snippet.proofs.marks.push_text.Goals as goal

pub loop-c-preserved : goal.loop-c-preserved
loop-c-preserved c =
    let step = c.in-Some.ensures.steps.0 in (
      char_written (written_char c.args.style) _ _ (chars_rest c.loop-c.c-iterator) (chars_rest c.next.new.self) _ c.in-Some.c c.loop-c.invariant.1 step c.in_ok-push_char.ensures.ok c.loop-c.invariant.0,
      IsUtf8-past_char (chars_rest c.loop-c.c-iterator) (chars_rest c.next.new.self) c.in-Some.c c.loop-c.invariant.1 step,
    )

pub returns-clause-ok : goal.returns-clause-ok
returns-clause-ok c = text_written (written_char c.args.style) _ (chars_rest c.loop-c.c-iterator) _ c.in-None.ensures.steps.0.0 c.loop-c.invariant.0
