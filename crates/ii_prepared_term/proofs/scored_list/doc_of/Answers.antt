use Rattle.std.proofs.Common.{◌<◌, length, rules}
use Rattle.ii_prepared_term.proofs.ScoredListLemmas.{doc_place}
use Rattle.ii_prepared_term.proofs.scored_list.doc_of.Goals as goal

pub returns : goal.returns
returns c =
    let docs = c.args.docs.now.items in
    let inside : c.args.place < length docs = search rules in
    doc_place docs c.args.place c.index.result.now inside c.index.ensures
