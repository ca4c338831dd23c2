use Rattle.std.proofs.Common.{◌∙◌, ℕ, ap}
use Rattle.ii_query.specs.BitSet.{docs_between, is_in}
use Rattle.ii_query.proofs.SetLemmas.{first_from}
use Rattle.ii_query.proofs.bit_set.BitSetDocSet.new.Goals as goal

pub returns-clause-rest : goal.returns-clause-rest
returns-clause-rest c =
    first_from (is_in c.args.docs) 0 c.num_bits-end.result c.first_from-next.result c.first_from-next.ensures
    ∙ ap (λ (end : ℕ). docs_between c.args.docs 0 end) c.num_bits-end.ensures
