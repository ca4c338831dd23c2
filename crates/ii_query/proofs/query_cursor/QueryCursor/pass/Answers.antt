use Rattle.std.proofs.Common.{◌+◌, sym, arith}
use Rattle.ii_docset.proofs.CursorLemmas.{from_doc_here}
use Rattle.ii_query.specs.WorkLaws.{none_went}
use Rattle.ii_query.proofs.query_cursor.QueryCursor.pass.Goals as goal

pub returns-then-doc-passed-clause-rest : goal.returns-then-doc-passed-clause-rest
returns-then-doc-passed-clause-rest g c =
    let here = c.requires.here in
    let least = c.requires.least in
    let other = c.if-doc-passed.true in
    sym (from_doc_here (c.args.passed + 1) c.args.self.now.rest c.current-doc.ensures.sound.ascending (omega (arith, here, least, other)))

pub returns-then-doc-passed-clause-work : goal.returns-then-doc-passed-clause-work
returns-then-doc-passed-clause-work g c = none_went g.T.DocSet.went g.met.T.DocSet.went_nowhere c.args.self.now.cursors
