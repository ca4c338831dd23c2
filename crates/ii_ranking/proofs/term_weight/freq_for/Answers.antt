use Rattle.ii_ranking.specs.NormIds.{id_among}
use Rattle.ii_ranking.proofs.term_weight.freq_for.Goals as goal

pub returns : goal.returns
returns c = λ doc count few. c.least_term_freq.ensures.bounds (id_among c.args.norms.now doc) count (c.requires doc).0 (c.requires doc).1 few
