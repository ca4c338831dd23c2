use Rattle.std.proofs.Common.{◌≡◌, [], Some, Ok, refl, subst}
use Rattle.std.specs.Prelude.{IfErr, IfOk, Result}
use Rattle.ii_io.specs.declared.faults.Part.{Part}
use Rattle.ii_io.specs.Composite.{composite}
use Rattle.ii_reader.specs.InvertedIndexReader.{IsRefusal}
use Rattle.ii_reader.specs.OpenIndex.{OpenIndexState}
use Rattle.ii_reader.proofs.IndexLemmas.{no_bodies, without_norms}
use Rattle.ii_reader.proofs.index_files.open_index.Goals as goal

pub returns-clause-ok : goal.returns-clause-ok
returns-clause-ok c =
    let none : composite c.from_static-fieldnorms.result ≡ Some [] = rw c.from_static-fieldnorms.ensures no_bodies in
    subst (λ (r : Result OpenIndexState Part). IfOk c.open_index_with_norms.result (λ index. r ≡ Ok index)) (without_norms c.args.terms c.args.postings c.args.positions c.from_static-fieldnorms.result c.args.schema.now none) c.open_index_with_norms.ensures.ok

pub returns-clause-err : goal.returns-clause-err
returns-clause-err c =
    let none : composite c.from_static-fieldnorms.result ≡ Some [] = rw c.from_static-fieldnorms.ensures no_bodies in
    subst (λ (r : Result OpenIndexState Part). IfErr c.open_index_with_norms.result (IsRefusal r)) (without_norms c.args.terms c.args.postings c.args.positions c.from_static-fieldnorms.result c.args.schema.now none) c.open_index_with_norms.ensures.err

pub returns-clause-holds : goal.returns-clause-holds
returns-clause-holds c = λ tokens holds.
    let none : composite c.from_static-fieldnorms.result ≡ Some [] = rw c.from_static-fieldnorms.ensures no_bodies in
    c.open_index_with_norms.ensures.holds tokens holds (rw none refl)
