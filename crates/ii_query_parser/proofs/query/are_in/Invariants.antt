use Rattle.std.proofs.Common.{◌≡◌, drop, length, nat_lt}
use Rattle.std.specs.List.{list_all}
use Rattle.ii_query_parser.specs.declared.query.PhraseTerm.{PhraseTerm}
use Rattle.ii_query_parser.proofs.query.are_in.Given as goal

abbrev pub invariant-loop-other : goal.invariant-loop-other
invariant-loop-other l = list_all (λ (o : PhraseTerm). nat_lt o.term.field (length l.schema)) l.others ≡ list_all (λ (o : PhraseTerm). nat_lt o.term.field (length l.schema)) (drop l.other-index l.others)
