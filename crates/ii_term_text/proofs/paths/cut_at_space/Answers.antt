use Rattle.std.proofs.Common.{◌∙◌, ap, arith, false}
use Rattle.ii_term_text.specs.PathTexts.{space_place}
use Rattle.ii_term_text.proofs.CutLemmas.{after_space, before_space}
use Rattle.ii_term_text.proofs.paths.cut_at_space.Goals as goal

pub split_at-requires : goal.split_at-requires
split_at-requires c = before_space c.args.text.now c.space_in-place.result (c.space_in-place.ensures ∙ ap (space_place false) c.as_bytes.ensures.value) (omega (arith, c.if-place-text.false))

pub split_at-requires-2 : goal.split_at-requires-2
split_at-requires-2 c = after_space c.args.text.now c.space_in-place.result c.utf8.text (c.space_in-place.ensures ∙ ap (space_place false) c.as_bytes.ensures.value) (omega (arith, c.if-place-text.false))
