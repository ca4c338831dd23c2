use Rattle.std.proofs.Common.{◌∙◌, ℕ, inr, length, map, replicate, subst, sym}
use Rattle.std.specs.Prelude.{true}
use Rattle.std.proofs.lemmas.List.{length-replicate}
use Rattle.ii_counts_merger.specs.CountsSources.{opened_counts}
use Rattle.ii_segments.specs.HoldCounts.{HoldCounts}
use Rattle.ii_segments.specs.Segments.{index_tokens, num_docs_of}
use Rattle.nequllpa_merging.specs.OpenedSegments.{opened_view}
use Rattle.nequllpa_merging.proofs.MergeLemmas.{all_have_counts, counts_fault, counts_hold, given_counts, same_docs}
use Rattle.nequllpa_merging.proofs.merging.merge_all_counts.Goals as goal

pub merge_counts-requires : goal.merge_counts-requires
merge_counts-requires g c =
    let os = map opened_view c.args.segments.now in
    let given = map opened_counts c.as_slice.result.now in
    let are = given_counts os c.in-Ok-Some.field-0 c.in-Ok-Some.sources c.as_slice.result.now c.in-Ok-Some.ensures.ok c.in-Ok-Some.field-0-is c.as_slice.ensures.value in
    record { docs = c.requires.docs ∙ sym (same_docs os given are) }

pub returns-in-Ok-clause-holds : goal.returns-in-Ok-clause-holds
returns-in-Ok-clause-holds g c ss hold =
    let entries = c.args.schema.now in
    let os = map opened_view c.args.segments.now in
    let given = map opened_counts c.as_slice.result.now in
    let are = given_counts os c.in-Ok-Some.field-0 c.in-Ok-Some.sources c.as_slice.result.now c.in-Ok-Some.ensures.ok c.in-Ok-Some.field-0-is c.as_slice.ensures.value in
    let held = c.in-Ok.ensures.holds ss (counts_hold entries os given ss are hold) in
    let many : HoldCounts entries (length (replicate (num_docs_of ss) true)) c.in-Ok.merged.bytes.items (index_tokens ss) = subst (λ (n : ℕ). HoldCounts entries n c.in-Ok.merged.bytes.items (index_tokens ss)) (sym (length-replicate (num_docs_of ss) true)) held in
    rw c.bytes_of.ensures many

pub returns-clause-fault : goal.returns-clause-fault
returns-clause-fault g c =
    let os = map opened_view c.args.segments.now in
    let given = map opened_counts c.as_slice.result.now in
    let are = given_counts os c.in-Ok-Some.field-0 c.in-Ok-Some.sources c.as_slice.result.now c.in-Ok-Some.ensures.ok c.in-Ok-Some.field-0-is c.as_slice.ensures.value in
    inr (counts_fault (length c.args.schema.now) os given c.in-Err-merge_counts.fault are (all_have_counts c.args.schema.now os given are c.requires.opened) c.in-Err-merge_counts.ensures.fault)
