use Rattle.std.proofs.Common.{Err, ap}
use Rattle.ii_warmup.proofs.FieldPartLemmas.{table_there}
use Rattle.ii_warmup.proofs.index_parts.IndexTables.open.Goals as goal

pub returns-in-Err-clause-part : goal.returns-in-Err-clause-part
returns-in-Err-clause-part g c = λ bodies k.
    table_there (g.H.FileHandle.bytes c.args.files.now.terms.now) bodies.terms c.in-Err.fault k.terms_are c.in-Err.ensures.part (λ is. c.in-Err.ensures.damaged k.terms_are.bytes k.terms_are.known_is (ap Err is))

pub returns-in-Err-open-clause-part : goal.returns-in-Err-open-clause-part
returns-in-Err-open-clause-part g c = λ bodies k.
    table_there (g.H.FileHandle.bytes c.args.files.now.postings.now) bodies.postings c.in-Err-open.fault k.postings_are c.in-Err-open.ensures.part (λ is. c.in-Err-open.ensures.damaged k.postings_are.bytes k.postings_are.known_is (ap Err is))

pub returns-clause-part : goal.returns-clause-part
returns-clause-part g c = λ bodies k.
    table_there (g.H.FileHandle.bytes c.args.files.now.positions.now) bodies.positions c.in-Err-open-2.fault k.positions_are c.in-Err-open-2.ensures.part (λ is. c.in-Err-open-2.ensures.damaged k.positions_are.bytes k.positions_are.known_is (ap Err is))
