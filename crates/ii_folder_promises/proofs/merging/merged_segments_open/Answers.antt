use Rattle.std.proofs.Common.{◌≡◌, List, Result, length, map, subst}
use Rattle.std.specs.Prelude.{OnOk}
use Rattle.ii_io.specs.declared.faults.Fault.{Fault}
use Rattle.ii_segments.specs.Segments.{Segment, index_tokens, num_docs_of}
use Rattle.ii_indexing.specs.IndexFiles.{WroteIndex}
use Rattle.ii_merger.specs.MergedFiles.{num_tokens_by_field}
use Rattle.ii_merger.specs.MergedIndex.{MergeSourcesHold, opened_segment}
use Rattle.ii_ram.proofs.RamLaws.{GivesAll, in_ram}
use Rattle.ii_folder_promises.proofs.MergingLaws.{opened_holds, opened_undamaged}
use Rattle.ii_folder_promises.proofs.merging.merged_segments_open.Goals as goal

gives : (c : goal.After-open_in_ram) (ss : List Segment) → MergeSourcesHold c.args.schema.now (map opened_segment c.args.sources.now) ss → c.args.num_tokens.now ≡ num_tokens_by_field (length c.args.schema.now) (index_tokens ss)
    → GivesAll c.args.schema.now (num_docs_of ss) (index_tokens ss) c.open_in_ram.result
gives c ss hold counts =
    let entries = c.args.schema.now in
    let files = c.in_memory-files.result in
    let new = c.merge-files.result.0 in
    let n = num_docs_of ss in
    let ts = index_tokens ss in
    let wrote : WroteIndex entries n files new ts = subst (λ (r : Result (Unit {0}) Fault). OnOk r (WroteIndex entries n files new ts)) c.in-Ok.is (c.merge-files.ensures.holds ss hold counts) in
    let ram = in_ram entries n files new ts c.in_memory-files.ensures wrote in
    c.open_in_ram.ensures.holds wrote.terms.terms wrote.terms.postings wrote.terms.positions wrote.norms.fieldnorms n ts ram.0 ram.1 ram.2 ram.3 wrote.terms.hold wrote.norms.hold

pub returns-in-Ok-clause-holds : goal.returns-in-Ok-clause-holds
returns-in-Ok-clause-holds c ss hold counts = opened_holds c.args.schema.now (num_docs_of ss) (index_tokens ss) c.open_in_ram.result (gives c ss hold counts)

pub returns-in-Ok-clause-undamaged : goal.returns-in-Ok-clause-undamaged
returns-in-Ok-clause-undamaged c ss hold counts = opened_undamaged c.args.schema.now (num_docs_of ss) (index_tokens ss) c.open_in_ram.result (gives c ss hold counts)
