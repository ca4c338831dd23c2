use Rattle.std.proofs.Common.{[]}
use Rattle.ii_tokenizers.specs.Tokenizers.{analyzed_in}
use Rattle.ii_index.proofs.SegmentLemmas.{files_hold}
use Rattle.ii_definitions.specs.Fields.{option_of}
use Rattle.nequllpa_indexing.specs.FieldTokens.{calls_fault_by}
use Rattle.ii_index.proofs.FaultLemmas.{build_fault}
use Rattle.ii_index.proofs.segments.segment_of.Goals as goal

pub returns-in-Ok-clause-holds : goal.returns-in-Ok-clause-holds
returns-in-Ok-clause-holds c =
    files_hold (analyzed_in c.args.tokenizers.now) c.args.documents c.in-Ok.files c.num_docs-num_docs.ensures.calls c.requires
    (record { num_docs = c.in-Ok.ensures.docs; tokens = c.in-Ok.ensures.holds; norms = c.in-Ok.ensures.norms; counts = c.in-Ok.ensures.counts; lines = c.in-Ok.ensures.lines })

pub returns-in-Err-clause-fault : goal.returns-in-Err-clause-fault
returns-in-Err-clause-fault c =
    let words = analyzed_in c.args.tokenizers.now in
    build_fault (calls_fault_by words (option_of c.args.documents.schema) [] c.args.documents.calls) words c.args.documents c.in-Err.fault c.into_segment.result c.in-Err.is c.into_segment.ensures.refused c.into_segment.ensures.fault
