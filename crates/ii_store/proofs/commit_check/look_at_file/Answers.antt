use Rattle.std.proofs.lemmas.Result.{err_from_is_err_and}
use Rattle.ii_store.proofs.CheckLaws.{fails_one, has_one}
use Rattle.ii_store.proofs.commit_check.look_at_file.Goals as goal

pub returns-clause-reports : goal.returns-clause-reports
returns-clause-reports g c = λ known. has_one (record { id = c.args.id; file = c.args.file.now }) (g.D.Directory.seen c.args.directory.now) c.in_ok-_bytes._bytes.items (c.in_ok-_bytes.ensures.answers known)

pub returns-in_err-_bytes-clause-reports : goal.returns-in_err-_bytes-clause-reports
returns-in_err-_bytes-clause-reports g c = λ known.
    let p = err_from_is_err_and c.from_residual.result c.from_residual.ensures.1 in
    rw (p.1, p.2) (fails_one c.in_err-_bytes.field-0.0 (record { id = c.args.id; file = c.args.file.now }) (g.D.Directory.seen c.args.directory.now) (c.in_err-_bytes.ensures.answers known))
