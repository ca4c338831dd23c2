use Rattle.std.proofs.Common.{List, ap, subst, sym}
use Rattle.ii_io.specs.Composite.{Body}
use Rattle.ii_reader.specs.OpenIndex.{NormsHold, OpenIndexState}
use Rattle.ii_reader.proofs.IndexLemmas.{norms_answered}
use Rattle.ii_reader.proofs.index_files.OpenIndex.get_fieldnorms_reader.Goals as goal

pub returns-clause-holds : goal.returns-clause-holds
returns-clause-holds c = λ schema num_docs tokens few holds.
    let same = ap (λ (index : OpenIndexState). index.fieldnorms) (sym c.self.view_is) in
    norms_answered schema num_docs c.args.field c.self.inside.fieldnorms tokens c.get_field.result few (subst (λ (bodies : List Body). NormsHold schema num_docs bodies tokens) same holds) c.get_field.ensures.found c.get_field.ensures.damaged
    c.get_field.ensures.only
