use Rattle.std.proofs.Common.{◌≡◌, drop}
use Rattle.std.specs.List.{list_all}
use Rattle.ii_query_parser.specs.declared.query.PhraseTerm.{PhraseTerm}
use Rattle.ii_query_parser.specs.Queries.{has_positions_in}
use Rattle.ii_query_parser.proofs.query.have_positions_in.Given as goal

abbrev pub invariant-loop-other : goal.invariant-loop-other
invariant-loop-other l = list_all (λ (o : PhraseTerm). has_positions_in l.schema o.term) l.others ≡ list_all (λ (o : PhraseTerm). has_positions_in l.schema o.term) (drop l.other-index l.others)
