use Rattle.std.proofs.Common.{◌∙◌, ℕ, List, Option, ap, length, map, replicate, subst, sym}
use Rattle.std.specs.Prelude.{true}
use Rattle.std.proofs.lemmas.List.{length-replicate}
use Rattle.ii_definitions.specs.Norms.{HoldNorms}
use Rattle.ii_segments.specs.Segments.{index_tokens, merged, num_docs_of}
use Rattle.ii_segment_store.specs.NewSegments.{new_file}
use Rattle.nequllpa_merging.specs.HeldSegments.{HasCountsOf}
use Rattle.nequllpa_merging.specs.MergedSegments.{HasMergedCounts, counts_sources}
use Rattle.nequllpa_merging.specs.OpenedSegments.{opened_view}
use Rattle.nequllpa_merging.proofs.FileLemmas.{file_is, is_counted, lists_hold, norms_hold}
use Rattle.nequllpa_merging.proofs.MergeLemmas.{all_tokens_are, docs_held}
use Rattle.nequllpa_merging.proofs.merging.merge_files.Goals as goal

pub returns-clause-written : goal.returns-clause-written
returns-clause-written g c = λ known.
    let files = c.in-Ok-merge_lists.files in
    let wrote = c.in-Ok-merge_lists.ensures.wrote known in
    record {
      terms = is_counted files.terms _ wrote.files.terms.wrote;
      postings = is_counted files.postings _ wrote.files.postings.wrote;
      positions = is_counted files.positions _ wrote.files.positions.wrote;
      fieldnorms = is_counted files.fieldnorms _ wrote.wrote_norms;
      counts = c.in-Ok-write_if_some.ensures.written known;
      store = tt;
    }

pub returns-clause-merged : goal.returns-clause-merged
returns-clause-merged g c = λ known.
    let entries = c.args.schema.now in
    let os = map opened_view c.args.segments.now in
    let files = c.in-Ok-merge_lists.files in
    let wrote = c.in-Ok-merge_lists.ensures.wrote known in
    record {
      num_docs = c.requires.docs;
      parts = wrote.files.parts;
      are = wrote.files.are;
      terms = sym (file_is files.terms _ wrote.files.terms.wrote);
      postings = sym (file_is files.postings _ wrote.files.postings.wrote);
      positions = sym (file_is files.positions _ wrote.files.positions.wrote);
      have_norms = wrote.norms;
      fieldnorms = sym (file_is files.fieldnorms _ wrote.wrote_norms);
      counts = subst (λ (x : Option (List ℕ)). HasMergedCounts (length entries) (counts_sources os) x) (sym (c.in-Ok-write_if_some.ensures.bytes known)) c.in-Ok.ensures.merged;
    }

pub returns-clause-holds : goal.returns-clause-holds
returns-clause-holds g c = λ known ss hold.
    let entries = c.args.schema.now in
    let os = map opened_view c.args.segments.now in
    let files = c.in-Ok-merge_lists.files in
    let n = num_docs_of ss in
    let ts = index_tokens ss in
    let wrote = c.in-Ok-merge_lists.ensures.holds known ss hold in
    record {
      lists = lists_hold entries n files ts wrote;
      norms = subst (λ (k : ℕ). HoldNorms entries k (new_file files.fieldnorms) ts) (sym (length-replicate n true)) (norms_hold entries n files ts wrote);
      counts = subst (λ (x : Option (List ℕ)). HasCountsOf entries x (merged ss)) (sym (c.in-Ok-write_if_some.ensures.bytes known)) (c.in-Ok.ensures.holds ss hold);
      store = tt;
      alive = ap (λ (k : ℕ). replicate k true) (c.requires.docs ∙ docs_held entries os ss hold);
      are = c.merged_is_segment.ensures entries ss (all_tokens_are entries os ss hold);
    }
