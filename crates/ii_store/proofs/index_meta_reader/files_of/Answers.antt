use Rattle.std.proofs.Common.{◌≡◌, ◌++◌, ◌∷◌, []}
use Rattle.std.proofs.lemmas.Result.{err_from_is_err_and}
use Rattle.ii_store.specs.IndexMeta.{file_at, items_at}
use Rattle.ii_store.proofs.ListLoop.{ends, goes_on, is_done}
use Rattle.ii_store.proofs.index_meta_reader.files_of.Goals as goal

pub returns-in_err-file-clause-answers : goal.returns-in_err-file-clause-answers
returns-in_err-file-clause-answers c =
    let p = err_from_is_err_and c.from_residual.result c.from_residual.ensures.1 in
    rw (p.1, p.2) (ends (file_at c.args.version) c.in_err-file.field-0.0 c.loop.files.items c.args.count c.loop.counter c.loop.rest.now (items_at (file_at c.args.version) c.args.count c.args.bytes.now) c.loop-test.true c.in_err-file.ensures.answers c.loop.invariant)

pub loop-preserved : goal.loop-preserved
loop-preserved c =
    let e : c.push.new.self.items ≡ c.loop.files.items ++ c.in_ok-file.file ∷ [] = c.in_ok-push.ensures.items in
    rw e (goes_on (file_at c.args.version) c.loop.files.items c.args.count c.loop.counter c.loop.rest.now c.in_ok-file.file c.in_ok-file.after.now (items_at (file_at c.args.version) c.args.count c.args.bytes.now) c.loop-test.true c.in_ok-file.ensures.answers c.loop.invariant)

pub returns-clause-answers : goal.returns-clause-answers
returns-clause-answers c = is_done (file_at c.args.version) c.loop.files.items c.args.count c.loop.counter c.loop.rest.now (items_at (file_at c.args.version) c.args.count c.args.bytes.now) c.loop-test.false c.loop.invariant
