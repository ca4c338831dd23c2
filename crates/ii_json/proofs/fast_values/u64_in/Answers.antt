use Rattle.std.proofs.Common.{◌∙◌}
use Rattle.ii_json.proofs.ParseLemmas.{parsed_unsigned}
use Rattle.ii_json.proofs.fast_values.u64_in.Goals as goal

pub returns : goal.returns
returns c = c.ok.ensures.value ∙ parsed_unsigned c.args.text.now c.parse.result c.parse.ensures.value.0
