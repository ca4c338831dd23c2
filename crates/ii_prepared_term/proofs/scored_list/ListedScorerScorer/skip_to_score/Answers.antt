use Rattle.ii_ranking.proofs.LeafLemmas.{keeps_later, leaf_next}
use Rattle.ii_prepared_term.specs.ScoredLists.{listed_state}
use Rattle.ii_prepared_term.proofs.ScoredListLemmas.{list_row, listed_went, score_by_entries}
use Rattle.ii_prepared_term.proofs.scored_list.ListedScorerScorer.skip_to_score.Goals as goal

pub returns-clause-next : goal.returns-clause-next
returns-clause-next c = leaf_next score_by_entries list_row c.args.self.now.most c.args.target c.args._least c.go_to.result c.args.self.now.rest c.go_to.new.self.rest c.requires c.go_to.ensures.rest c.go_to.ensures.ascending c.go_to.ensures.doc

pub returns-clause-kept : goal.returns-clause-kept
returns-clause-kept c =
    let next = leaf_next score_by_entries list_row c.args.self.now.most c.args.target c.args._least c.go_to.result c.args.self.now.rest c.go_to.new.self.rest c.requires c.go_to.ensures.rest c.go_to.ensures.ascending c.go_to.ensures.doc in
    keeps_later c.args.target c.go_to.result (listed_state c.args.self.now) (listed_state c.go_to.new.self) next.low (listed_went c.args.target c.args.self.now c.go_to.new.self c.go_to.ensures.rest c.go_to.ensures.most)
