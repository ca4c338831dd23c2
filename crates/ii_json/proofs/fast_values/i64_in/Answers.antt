use Rattle.std.proofs.Common.{◌∙◌}
use Rattle.ii_json.proofs.ParseLemmas.{parsed_signed}
use Rattle.ii_json.proofs.fast_values.i64_in.Goals as goal

pub returns : goal.returns
returns c = c.ok.ensures.value ∙ parsed_signed c.args.text.now c.parse.result c.parse.ensures.value.0
