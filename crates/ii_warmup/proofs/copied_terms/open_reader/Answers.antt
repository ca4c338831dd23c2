use Rattle.std.proofs.Common.{◌≡◌, None, Some}
use Rattle.ii_reader.specs.InvertedIndexReader.{reader_over}
use Rattle.ii_warmup.proofs.FinishLemmas.{reader_is, reader_is_there}
use Rattle.ii_warmup.proofs.copied_terms.open_reader.Goals as goal

pub returns-in-Ok-clause-ok : goal.returns-in-Ok-clause-ok
returns-in-Ok-clause-ok c =
    let a = c.args in
    let is : reader_over a.terms a.postings.items a.positions.items a.option ≡ Some c.in-Ok.reader = rw (← c.in_ok-postings.ensures.ok, ← c.in_ok-positions.ensures.ok) c.in-Ok.ensures.ok in
    reader_is a.terms a.postings.items a.positions.items a.option c.in-Ok.reader c.requires is

pub returns-in-Err-clause-only : goal.returns-in-Err-clause-only
returns-in-Err-clause-only c =
    let a = c.args in
    let none : reader_over a.terms a.postings.items a.positions.items a.option ≡ None = rw (← c.in_ok-postings.ensures.ok, ← c.in_ok-positions.ensures.ok) c.in-Err.ensures.err.1 in
    absurd (reader_is_there a.terms a.postings.items a.positions.items a.option c.requires none)
