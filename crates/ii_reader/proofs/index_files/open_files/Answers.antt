use Rattle.std.proofs.lemmas.Result.{err_from_is_err_and}
use Rattle.ii_reader.proofs.IndexLemmas.{fields_refused}
use Rattle.ii_reader.proofs.index_files.open_files.Goals as goal

pub returns-in_err-readers-clause-err : goal.returns-in_err-readers-clause-err
returns-in_err-readers-clause-err c =
    let p = err_from_is_err_and c.from_residual-in_err-readers.result c.from_residual-in_err-readers.ensures.1 in
    rw (p.1, p.2)
    (fields_refused c.args.terms c.args.postings c.args.positions c.args.fieldnorms c.args.schema.now c.in_ok-files.files c.in_ok-fieldnorms.fieldnorms _ c.in_ok-files.ensures.ok c.in_ok-fieldnorms.ensures.ok c.in_err-readers.ensures.err)
