use Rattle.std.proofs.Common.{◌≡◌, ℕ, List, ap, length, subst, sym, true}
use Rattle.ii_index.specs.Ranking.{SearcherHolds}
use Rattle.ii_index.specs.Searching.{SearcherState}
use Rattle.ii_index.specs.Statistics.{token_statistics}
use Rattle.ii_query_parser.specs.Queries.{has_fields}
use Rattle.ii_ranking.specs.TokenScores.{token_score}
use Rattle.ii_scorer.specs.TopDocs.{AreBest, scored_docs}
use Rattle.ii_scorer.specs.declared.top_docs.TopDocs.{TopDocs}
use Rattle.ii_folder_promises.proofs.index_ranking.best_of.Goals as goal

pub top_docs-requires : goal.top_docs-requires
top_docs-requires c = subst (λ (s : SearcherState). has_fields s.num_fields c.args.query.now ≡ true) (sym c.searcher.ensures) c.requires.fields

pub returns : goal.returns
returns c = λ entries n ts holds ask.
    let scored = scored_docs n (token_score entries ts (token_statistics n ts) c.args.query.now) in
    subst (λ (docs : TopDocs). AreBest docs scored c.in-Ok.best.items) c.with_limit-docs.ensures
    (c.in-Ok.ensures.holds entries n ts (subst (λ (s : SearcherState). SearcherHolds entries s n ts) (sym c.searcher.ensures) holds) ask c.requires.covers)
