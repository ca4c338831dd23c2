-- What a row unfolds to compute the words of a text.
use Rattle.std.specs.Prelude.{⊤}
use Rattle.caseless.proofs.Computing.{caseless}
use Rattle.unicode_segmentation.proofs.Computing.{unicode_segmentation}
use Rattle.ii_stemmer.specs.Rules.{step_1a_rules, step_1b_rules, step_1c_rules, step_2_rules, step_3_rules, step_4_rules, step_5a_rules}
use Rattle.ii_base.specs.Parts.{parts_between}

unfoldable pub words_on_literals : ⊤
unfolding caseless unicode_segmentation parts_between step_1a_rules step_1b_rules step_1c_rules step_2_rules step_3_rules step_4_rules step_5a_rules
words_on_literals = tt
