use Rattle.ii_promises.proofs.OpenedLaws.{field_trusted, first_found, trusted_found}
use Rattle.ii_promises.proofs.indexing.what_is_indexed_opens_without_validation.Goals as goal

pub returns-clause-no_validation : goal.returns-clause-no_validation
returns-clause-no_validation g c =
    let trusted = field_trusted c.in_ok-index.index.readers c.field.result c.reader.result.now c.in_ok-index.ensures.trusted c.reader.ensures in
    trusted_found c.reader.result.now c.args.term.now.value c.args.requested c.read_postings.result trusted c.read_postings.ensures.none c.read_postings.ensures.ok

pub returns-clause-decodes : goal.returns-clause-decodes
returns-clause-decodes g c = first_found c.reader.result.now c.args.term.now.value c.args.requested c.read_postings.result c.read_postings.ensures.none c.read_postings.ensures.ok
