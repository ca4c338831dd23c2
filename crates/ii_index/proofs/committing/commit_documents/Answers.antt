use Rattle.std.proofs.Common.{◌≡◌, ◌∙◌, [], length, sym}
use Rattle.std.proofs.lemmas.Bool.{eqb-true}
use Rattle.std.proofs.lemmas.List.{nil_from_length}
use Rattle.std.proofs.lemmas.Result.{IfErr-weaker, on_ok_weaker}
use Rattle.ii_index.proofs.ChangeLemmas.{nothing_deleted_of, nothing_deleted_or}
use Rattle.ii_index.proofs.CommitLemmas.{commit_fault}
use Rattle.ii_index.proofs.committing.commit_documents.Goals as goal

pub returns-then-is_empty-clause-changed : goal.returns-then-is_empty-clause-changed
returns-then-is_empty-clause-changed g c = λ known k us pending n ts holds.
    let none : c.args.deletes.now ≡ [] = nil_from_length c.args.deletes.now (eqb-true (length c.args.deletes.now) 0 (sym c.is_empty.ensures ∙ c.if-is_empty.true)) in
    on_ok_weaker c.add_documents.result (nothing_deleted_of c.args.schema.now.schema n ts k us (g.D.Directory.seen c.add_documents.new.directory) c.args.deletes.now none) (c.add_documents.ensures.added known k us pending n ts holds)

pub returns-then-is_empty-clause-leaves_one : goal.returns-then-is_empty-clause-leaves_one
returns-then-is_empty-clause-leaves_one g c = λ known k us pending n ts holds files left.
    let none : c.args.deletes.now ≡ [] = nil_from_length c.args.deletes.now (eqb-true (length c.args.deletes.now) 0 (sym c.is_empty.ensures ∙ c.if-is_empty.true)) in
    nothing_deleted_or c.args.schema.now.schema n ts k us files c.args.deletes.now none (c.add_documents.ensures.leaves_one known k us pending n ts holds files left)

pub returns-clause-fault : goal.returns-clause-fault
returns-clause-fault g c = λ known k us pending.
    IfErr-weaker c.delete_and_add.result _ _ (λ e why. commit_fault e c.args.schema.now c.args.flushed c.args.documents c.args.deletes.now (g.D.Directory.seen c.args.directory.now) (sym c.is_empty.ensures ∙ c.if-is_empty.false) why)
    (c.delete_and_add.ensures.fault known k us pending)
