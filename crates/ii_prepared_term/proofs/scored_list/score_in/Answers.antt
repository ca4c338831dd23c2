use Rattle.std.proofs.Common.{◌≡◌, ◌<◌, ℕ, Some, drop, length, rules, subst}
use Rattle.ii_prepared_term.specs.ScoredLists.{entries_of}
use Rattle.ii_prepared_term.proofs.ScoredListLemmas.{none_place, score_by_entries, score_place}
use Rattle.ii_prepared_term.proofs.scored_list.score_in.Goals as goal

pub returns-then-found-doc : goal.returns-then-found-doc
returns-then-found-doc c =
    let docs = c.args.docs.now.items in
    let inside : c.args.place < length docs = search rules in
    none_place docs c.args.place c.args.doc c.index.result.now c.requires.ascending c.requires.up_to inside c.index.ensures c.if-found-doc.true

pub returns : goal.returns
returns c =
    let docs = c.args.docs.now.items in
    let inside : c.args.place < length docs = search rules in
    subst (λ (d : ℕ). Some c.index.result.now.0 ≡ score_by_entries (drop c.args.place (entries_of docs)) d) c.if-found-doc.false (score_place docs c.args.place c.index.result.now inside c.index.ensures)
