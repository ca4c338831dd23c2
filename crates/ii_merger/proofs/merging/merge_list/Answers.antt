use Rattle.std.proofs.Common.{◌≡◌, ◌∙◌, [], List, Result, sym, ap, subst}
use Rattle.std.specs.List.{AllByRecursion}
use Rattle.std.specs.Result.{result_unwrap_or}
use Rattle.ii_io.specs.declared.faults.Part.{Part}
use Rattle.ii_base.specs.Entries.{Entry}
use Rattle.ii_segments.specs.Segments.{living_entries}
use Rattle.ii_postings_writer.proofs.TermIndexLemmas.{on_ok}
use Rattle.ii_merger.specs.MergeSources.{entries_under, source_of}
use Rattle.ii_merger.specs.MergedTerm.{IsReadableEntry}
use Rattle.ii_merger.proofs.ListLemmas.{opened_listed}
use Rattle.ii_merger.proofs.ReadableLemmas.{readable_living}
use Rattle.ii_merger.proofs.merging.merge_list.Goals as goal

pub push_list-requires-clause-plain : goal.push_list-requires-clause-plain
push_list-requires-clause-plain g c =
    (opened_listed c.args.source.reader.now c.args.term.kind c.in-Some.info c.in-Ok.postings.rest c.in-Ok.ensures.ok.list).plain

pub returns-clause-readable : goal.returns-clause-readable
returns-clause-readable g c =
    let kind = c.args.term.kind in
    let base = c.args.base in
    let alive = c.args.source.alive.now in
    let es = c.in-Ok.postings.rest in
    let listed = opened_listed c.args.source.reader.now kind c.in-Some.info es c.in-Ok.ensures.ok.list in
    let own : entries_under kind (source_of c.args.source) c.args.info.now ≡ es =
    ap (entries_under kind (source_of c.args.source)) c.in-Some.is ∙ ap (λ (r : Result (List Entry) Part). result_unwrap_or r []) c.in-Ok.ensures.ok.list in
    on_ok c.push_list.result _ _ (λ sound. subst (λ (fs : List Entry). AllByRecursion (IsReadableEntry kind) (living_entries base alive fs)) (sym own) (readable_living kind base alive es sound listed c.push_list.ensures.fits)) c.push_list.ensures.sound
