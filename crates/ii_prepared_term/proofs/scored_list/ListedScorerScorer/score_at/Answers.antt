use Rattle.std.proofs.Common.{◌≤◌, List, arith, drop, subst, sym}
use Rattle.ii_base.specs.Entries.{Entry}
use Rattle.ii_docset.specs.Cursor.{doc_at}
use Rattle.ii_docset.proofs.IntersectionLemmas.{doc_at-from_doc}
use Rattle.ii_ranking.proofs.LeafLemmas.{leaf_here, leaf_went}
use Rattle.ii_prepared_term.specs.ScoredLists.{entries_of}
use Rattle.ii_prepared_term.proofs.ScoredListLemmas.{list_row, score_by_entries}
use Rattle.ii_prepared_term.proofs.scored_list.ListedScorerScorer.score_at.Goals as goal

pub invariant_of-self : goal.invariant_of-self
invariant_of-self c = (c.self.invariant.0, c.first_from-place.ensures.within)

pub score_in-requires-clause-up_to : goal.score_in-requires-clause-up_to
score_in-requires-clause-up_to c =
    let es = entries_of c.self.inside.docs.now.items in
    let low = c.requires in
    subst (λ (row : List Entry). c.args.doc ≤ doc_at row) (sym c.first_from-place.ensures.rest) (doc_at-from_doc c.args.doc (drop c.self.inside.place es) (omega (arith, low)))

pub returns-clause-score : goal.returns-clause-score
returns-clause-score c =
    rw (← c.self.view_is) (let es = entries_of c.self.inside.docs.now.items in
    leaf_here score_by_entries list_row c.self.inside.most c.args.doc c.args.least (drop c.self.inside.place es) (drop c.first_from-place.result es) c.if_at_least.result c.score_in.result c.requires c.first_from-place.ensures.rest c.if_at_least.ensures (sym c.score_in.ensures))

pub returns-clause-kept : goal.returns-clause-kept
returns-clause-kept c =
    rw (← c.self.view_is) (let es = entries_of c.self.inside.docs.now.items in
    leaf_went score_by_entries list_row c.self.inside.most c.args.doc (drop c.self.inside.place es) (drop c.first_from-place.result es) c.first_from-place.ensures.rest)
