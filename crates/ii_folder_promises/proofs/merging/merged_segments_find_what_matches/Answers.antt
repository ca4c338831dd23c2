use Rattle.ii_segments.specs.Segments.{index_tokens, num_docs_of}
use Rattle.ii_folder_promises.proofs.MergingLaws.{merged_found}
use Rattle.ii_folder_promises.proofs.merging.merged_segments_find_what_matches.Goals as goal

pub returns-in-Ok : goal.returns-in-Ok
returns-in-Ok c = record {
  found = λ ss hold counts. merged_found c.args.query.now (index_tokens ss) c.search.result
      (c.search.ensures.holds c.args.schema.now (num_docs_of ss) (index_tokens ss) (c.in-Ok.ensures.holds ss hold counts) c.requires.asked c.requires.positions);
}
