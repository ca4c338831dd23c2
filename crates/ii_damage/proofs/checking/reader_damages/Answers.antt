use Rattle.std.proofs.Common.{◌≡◌, length, rules}
use Rattle.std.proofs.lemmas.Result.{on_ok_weaker}
use Rattle.ii_damage.proofs.checking.reader_damages.Goals as goal

pub returns-clause-totals : goal.returns-clause-totals
returns-clause-totals c =
    let terms : c.num_terms.result ≡ length c.args.reader.now.terms = search rules in
    on_ok_weaker c.walked_damages-found.result (λ walked rs h. c.add.ensures c.args.files.now.num_docs rs c.args.reader.now terms walked h) c.walked_damages-found.ensures.walked
