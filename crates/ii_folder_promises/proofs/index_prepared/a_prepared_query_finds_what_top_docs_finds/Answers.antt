use Rattle.std.proofs.Common.{ℕ, List, subst, sym}
use Rattle.ii_index.specs.Statistics.{index_statistics}
use Rattle.ii_ranking.specs.Segments.{segments_scored}
use Rattle.ii_scorer.specs.TopDocs.{AreBest}
use Rattle.ii_folder_promises.proofs.SameBestLaws.{same_best}
use Rattle.ii_folder_promises.proofs.index_prepared.a_prepared_query_finds_what_top_docs_finds.Goals as goal

pub returns-clause-first : goal.returns-clause-first
returns-clause-first c =
    let scored = segments_scored (index_statistics c.args.searcher.now) c.args.query.now 0 c.args.searcher.now.segments in
    same_best c.args.docs.now scored c.in_ok-first.first.items c.in_ok-top_docs.top_docs.items (subst (λ (row : List (ℕ × ℕ)). AreBest c.args.docs.now row c.in_ok-first.first.items) c.in_ok-prepared.ensures.scores c.in_ok-first.ensures.best) c.in_ok-top_docs.ensures.best

pub returns-clause-second : goal.returns-clause-second
returns-clause-second c =
    let scored = segments_scored (index_statistics c.args.searcher.now) c.args.query.now 0 c.args.searcher.now.segments in
    same_best c.args.docs.now scored c.in_ok-second.second.items c.in_ok-top_docs.top_docs.items (subst (λ (row : List (ℕ × ℕ)). AreBest c.args.docs.now row c.in_ok-second.second.items) c.in_ok-prepared.ensures.scores c.in_ok-second.ensures.best) c.in_ok-top_docs.ensures.best
