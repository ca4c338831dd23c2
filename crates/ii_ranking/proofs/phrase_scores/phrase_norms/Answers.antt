use Rattle.std.proofs.Common.{◌≡◌, ◌∙◌, ℕ, ap}
use Rattle.std.specs.Option.{option_map}
use Rattle.ii_io.specs.Composite.{body_of}
use Rattle.ii_fieldnorm.specs.Readers.{norms_of_ids}
use Rattle.ii_ranking.proofs.phrase_scores.phrase_norms.Goals as goal

pub returns-clause-norms : goal.returns-clause-norms
returns-clause-norms g c = c.in_ok-norms.ensures.found ∙ ap (λ (field : ℕ). option_map norms_of_ids (body_of field c.args.index.now.fieldnorms)) c.field.ensures

pub returns-clause-weight : goal.returns-clause-weight
returns-clause-weight g c =
    let s = g.S.Bm25StatisticsProvider.statistics c.args.statistics.now in
    let tokens : c.total_num_tokens-num_tokens.result ≡ s.num_tokens c.args.first.now.field = c.total_num_tokens-num_tokens.ensures ∙ ap s.num_tokens c.field-2.ensures in
    rw (← c.sum_of_idfs-idfs.ensures, ← c.total_num_docs-num_docs.ensures, ← tokens) c.in_ok-weight.ensures.made

pub returns-clause-sound : goal.returns-clause-sound
returns-clause-sound g c = rw (← c.field.ensures) c.in_ok-norms.ensures.sound
