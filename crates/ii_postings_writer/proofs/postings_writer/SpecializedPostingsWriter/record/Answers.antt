use Rattle.ii_postings_writer.specs.IndexingContext.{IsRecorded}
use Rattle.ii_postings_writer.specs.IndexingTerm.{term_bytes}
use Rattle.ii_postings_writer.proofs.RecordsLaws.{all_end}
use Rattle.ii_postings_writer.proofs.postings_writer.SpecializedPostingsWriter.record.Goals as goal

pub returns-clause-ends : goal.returns-clause-ends
returns-clause-ends c =
    let recorded : IsRecorded c.args.option c.args.doc c.args.pos (term_bytes c.args.term.now) c.args.terms.now c.record.new.self = rw (← c.serialized_term.ensures.bytes) c.in_ok-record.ensures.ok in
    all_end c.args.option c.args.doc c.args.pos (term_bytes c.args.term.now) c.args.terms.now c.record.new.self recorded c.requires.ends c.requires.low
