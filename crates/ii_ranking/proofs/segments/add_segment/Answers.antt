use Rattle.std.proofs.Common.{◌∙◌, ◌++◌, ◌<◌, ◌^◌, ℕ, List, ap, arith, length, map, rules, subst}
use Rattle.std.specs.List.{range_with_len}
use Rattle.std.proofs.lemmas.Result.{err_from_is_err_and}
use Rattle.std.proofs.lemmas.List.FromFn.{length-map-range_with_len}
use Rattle.ii_ranking.specs.Scores.{query_score, scored_in}
use Rattle.ii_scorer.specs.TopNComputer.{KeepsBest}
use Rattle.ii_ranking.proofs.SegmentLemmas.{err_then, rows_scored}
use Rattle.ii_ranking.proofs.TokenLaws.{memory_alone}
use Rattle.ii_ranking.proofs.segments.add_segment.Goals as goal

pub push_living-requires-clause-many : goal.push_living-requires-clause-many
push_living-requires-clause-many g c =
    let f = query_score (scored_in c.args.index.now (g.S.Bm25StatisticsProvider.statistics c.args.statistics.now)) c.args.query.now in
    ap length c.in_ok-scores.ensures.scored ∙ length-map-range_with_len f 0 c.num_docs-num_docs.result ∙ c.num_docs-num_docs.ensures

pub returns-clause-kept : goal.returns-clause-kept
returns-clause-kept g c = λ scored h.
    let f = query_score (scored_in c.args.index.now (g.S.Bm25StatisticsProvider.statistics c.args.statistics.now)) c.args.query.now in
    let scores = c.in_ok-scores.ensures.scored ∙ ap (λ (n : ℕ). map f (range_with_len 0 n)) c.num_docs-num_docs.ensures in
    subst (λ (row : List (ℕ × ℕ)). KeepsBest (scored ++ row) c.push_living.new.computer) (rows_scored c.args.base c.args.alive.now f c.in_ok-scores.scores.items scores) (c.in_ok-push_living.ensures.kept scored h)

pub returns-in_err-scores-clause-memory : goal.returns-in_err-scores-clause-memory
returns-in_err-scores-clause-memory g c =
    let p = err_from_is_err_and c.from_residual.result c.from_residual.ensures.1 in
    let many = c.num_docs-num_docs.ensures in
    let small : c.num_docs-num_docs.result < 2 ^ 32 = search rules in
    rw (p.1, p.2) (λ schema tokens holds fields. c.in_err-scores.ensures.holds schema (length c.args.alive.now) tokens holds (omega (arith, many)) (omega (arith, many, small)) fields)

pub returns-then-goes_by_document-clause-memory : goal.returns-then-goes_by_document-clause-memory
returns-then-goes_by_document-clause-memory g c =
    let many = c.num_docs-num_docs.ensures in
    let small : c.num_docs-num_docs.result < 2 ^ 32 = search rules in
    err_then c.add_one_by_one.result c.add_one_by_one.ensures.fault
    (λ fault is schema tokens holds fields. memory_alone schema (length c.args.alive.now) c.args.index.now tokens c.args.query.now fault holds (omega (arith, many, small)) fields is)
