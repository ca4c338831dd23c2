use Rattle.std.proofs.Common.{◌∙◌, rules}
use Rattle.ii_query_grammar.proofs.SlopLemmas.{parsed_slop}
use Rattle.ii_query_grammar.proofs.slop.slop_of.Goals as goal

pub returns : goal.returns
returns c = c.ok.ensures.value ∙ parsed_slop c.args.word.now c.parse.result (search rules) c.parse.ensures.value.0
