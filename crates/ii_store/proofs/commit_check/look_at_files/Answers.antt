use Rattle.std.proofs.lemmas.Result.{err_from_is_err_and}
use Rattle.ii_store.proofs.CheckLaws.{file_fails, has_nothing, more_files}
use Rattle.ii_store.proofs.commit_check.look_at_files.Goals as goal

pub loop-file-init : goal.loop-file-init
loop-file-init g c = λ known. has_nothing (g.D.Directory.seen c.args.directory.now)

pub loop-file-preserved : goal.loop-file-preserved
loop-file-preserved g c = λ known.
    more_files c.args.id c.args.files.now c.loop-file.file-index _ (g.D.Directory.seen c.args.directory.now) c.loop-file-test.true (c.loop-file.invariant known) (c.in_ok-look_at_file.ensures.reports known)

pub returns-in_err-look_at_file-clause-reports : goal.returns-in_err-look_at_file-clause-reports
returns-in_err-look_at_file-clause-reports g c = λ known.
    let p = err_from_is_err_and c.from_residual.result c.from_residual.ensures.1 in
    rw (p.1, p.2) (file_fails c.in_err-look_at_file.field-0.0 c.args.id c.args.files.now c.loop-file.file-index _ (g.D.Directory.seen c.args.directory.now) c.loop-file-test.true (c.loop-file.invariant known) (c.in_err-look_at_file.ensures.reports known))
