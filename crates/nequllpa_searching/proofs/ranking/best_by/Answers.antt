use Rattle.std.proofs.Common.{map, string_bytes}
use Rattle.ii_ranking.specs.Segments.{segment_of, segments_damage}
use Rattle.ii_scorer.specs.declared.top_docs.TopDocs.{TopDocs}
use Rattle.ii_statistics.specs.Statistics.{query_statistics, query_terms, segments_statistics, terms_damage}
use Rattle.ii_statistics.proofs.DamageLemmas.{damaged_before, damaged_later, sound_both}
use Rattle.nequllpa_searching.specs.OpenedNumbers.{totals_of}
use Rattle.nequllpa_opening.specs.RowFormats.{is_json}
use Rattle.nequllpa_searching.proofs.RankingLemmas.{best_alike, explained_alike}
use Rattle.nequllpa_searching.proofs.ranking.best_by.Goals as goal

pub returns-in-Err-clause-fault : goal.returns-in-Err-clause-fault
returns-in-Err-clause-fault c =
    let segments = map segment_of c.args.segments.now in
    damaged_before (terms_damage segments (query_terms c.args.query.now)) (segments_damage c.args.query.now segments) c.in-Err.fault c.in-Err.ensures.fault

pub returns-in-Ok-best_of-clause-best : goal.returns-in-Ok-best_of-clause-best
returns-in-Ok-best_of-clause-best c =
    let segments = map segment_of c.args.segments.now in
    let how : TopDocs = record { limit = c.args.how.now.limit; offset = 0 } in
    best_alike (query_statistics c.in-Ok.statistics) (segments_statistics (totals_of c.args.totals.now) segments) c.in-Ok.ensures.docs c.args.query.now c.in-Ok.ensures.same segments how c.in-Ok-best_of.best.docs.items c.in-Ok-best_of.ensures.best

pub returns-in-Ok-best_of-clause-explained : goal.returns-in-Ok-best_of-clause-explained
returns-in-Ok-best_of-clause-explained c = λ wanted.
    let segments = map segment_of c.args.segments.now in
    explained_alike (query_statistics c.in-Ok.statistics) (segments_statistics (totals_of c.args.totals.now) segments) c.in-Ok.ensures.docs c.args.query.now c.in-Ok.ensures.same segments (is_json c.args.how.now.format) c.args.schema.now
    c.in-Ok-best_of.best.docs.items (map string_bytes c.in-Ok-best_of.best.explanations.items) (c.in-Ok-best_of.ensures.explained wanted)

pub returns-in-Ok-best_of-clause-sound : goal.returns-in-Ok-best_of-clause-sound
returns-in-Ok-best_of-clause-sound c =
    let segments = map segment_of c.args.segments.now in
    sound_both (terms_damage segments (query_terms c.args.query.now)) (segments_damage c.args.query.now segments) c.in-Ok.ensures.sound c.in-Ok-best_of.ensures.sound

pub returns-clause-fault : goal.returns-clause-fault
returns-clause-fault c =
    let segments = map segment_of c.args.segments.now in
    damaged_later (terms_damage segments (query_terms c.args.query.now)) (segments_damage c.args.query.now segments) c.in-Err-best_of.fault c.in-Ok.ensures.sound c.in-Err-best_of.ensures.fault
