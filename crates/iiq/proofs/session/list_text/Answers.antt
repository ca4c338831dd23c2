use Rattle.std.proofs.Common.{◌≡◌, Some}
use Rattle.iiq.proofs.SessionLemmas.{listed_text}
use Rattle.iiq.proofs.session.list_text.Goals as goal

pub returns-in_ok-push_list-in-Ok-Some : goal.returns-in_ok-push_list-in-Ok-Some
returns-in_ok-push_list-in-Ok-Some c = λ ts o.
    let inner : c.in-Ok-Some.field-0 ≡ Some c.in-Ok-Some.cursor = c.in-Ok-Some.field-0-is in
    listed_text c.args.requested c.args.term.now.field c.args.term.now.value c.args.index.now ts c.reader-reader.result.now c.in-Ok-Some.cursor _ c.requires.field o (rw c.field.ensures at c.reader-reader.ensures)
    (rw (c.in-Ok-Some.is, inner) at c.read_postings.ensures.holds) (rw (c.downgrade-option.ensures, c.record_option.ensures, c.new-text.ensures.bytes) at c.in_ok-push_list-in-Ok-Some.ensures)
