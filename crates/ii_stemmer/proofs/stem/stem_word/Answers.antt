use Rattle.std.proofs.Common.{◌∙◌, ap, subst, sym}
use Rattle.std.specs.Prelude.{IsAscii}
use Rattle.std.proofs.lemmas.Str.{IsUtf8-from_ascii}
use Rattle.ii_stemmer.specs.Porter.{step_1, step_5, steps_2_to_4}
use Rattle.ii_stemmer.proofs.StemLemmas.{ascii_letters, ascii_steps}
use Rattle.ii_stemmer.proofs.stem.stem_word.Goals as goal

pub unwrap-requires : goal.unwrap-requires
unwrap-requires c =
    let word = c.as_bytes-letters.result.now in
    let stem = c.in_ok-step_5.ensures ∙ ap step_5 (c.in_ok-steps_2_to_4.ensures ∙ ap steps_2_to_4 (c.in_ok-step_1.ensures ∙ ap step_1 c.in_ok-stem.ensures.items)) in
    let ascii = ascii_steps word (ascii_letters word (sym c.are_letters.ensures ∙ c.if-not-are_letters.false)) in
    c.from_utf8.ensures.succeeds (IsUtf8-from_ascii _ (subst IsAscii (sym stem) ascii))
