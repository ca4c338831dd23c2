use Rattle.std.proofs.Common.{sym, ap, ◌∙◌}
use Rattle.std.specs.Option.{option_map}
use Rattle.ii_base.specs.Json.{leaf_of}
use Rattle.ii_json.proofs.NumberLeaves.{leaf_taken}
use Rattle.ii_json.proofs.leaf_sink.visit_leaf.Goals as goal

pub take_leaf-requires-clause-value : goal.take_leaf-requires-clause-value
take_leaf-requires-clause-value g c = leaf_taken c.args.value.now c.in-Some.leaf (sym (ap (option_map leaf_of) c.in-Some.is) ∙ c.leaf.ensures)
