use Rattle.std.proofs.Common.{◌∙◌, List, ap, refl}
use Rattle.ii_ranking.specs.declared.statistics.TermCount.{TermCount}
use Rattle.ii_ranking.specs.Statistics.{doc_freq_in}
use Rattle.ii_ranking.proofs.StatisticsLemmas.{count_pushed}
use Rattle.ii_ranking.proofs.statistics.GatheredStatistics.add_term.Goals as goal

pub returns-clause-set : goal.returns-clause-set
returns-clause-set c = λ field key.
    ap (λ (cs : List TermCount). doc_freq_in cs field key) c.in_ok-push.ensures.items
    ∙ count_pushed c.args.self.now.terms.items _ c.args.term.now c.args.doc_freq field key c.field.ensures (c.in_ok-key.ensures.items ∙ c.serialized_value_bytes.ensures) refl
