use Rattle.ii_base.specs.declared.schema.index_record_option.IndexRecordOption.TheVariants.{WithFreqsAndPositions}
use Rattle.ii_termdict.specs.Dictionary.{info_under}
use Rattle.ii_search.proofs.PartLemmas.{refused_kept}
use Rattle.nequllpa_searching.proofs.finding.positions_cursor.Goals as goal

pub returns-in-Err-clause-refused : goal.returns-in-Err-clause-refused
returns-in-Err-clause-refused c =
    let reader = c.reader-reader.result.now in
    rw (← c.field.ensures, c.reader-reader.ensures) (refused_kept WithFreqsAndPositions reader (info_under c.args.term.now.value reader.terms) c.read_postings.result c.in-Err.fault c.in-Err.is c.read_postings.ensures.none c.read_postings.ensures.err)
