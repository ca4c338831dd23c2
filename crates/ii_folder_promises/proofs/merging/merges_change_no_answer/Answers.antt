use Rattle.ii_folder_promises.proofs.MergingLaws.{same_found}
use Rattle.ii_folder_promises.proofs.merging.merges_change_no_answer.Goals as goal

pub returns-in-Ok-search : goal.returns-in-Ok-search
returns-in-Ok-search c = record {
  same = λ entries ss ts before after tokens docs ask first second. same_found c.args.query.now ss ts c.search.result c.search-2.result c.in-Ok.found c.in-Ok-search.later c.in-Ok.is c.in-Ok-search.is
      (c.search.ensures.holds entries ss before ask first) (c.search-2.ensures.holds entries ts after ask second) tokens docs;
}
