use Rattle.std.proofs.Common.{◌+◌, ◌<◌, arith, drop, length, map}
use Rattle.std.proofs.lemmas.List.{drop_all}
use Rattle.ii_segment_search.specs.Searcher.{OpenSegmentState}
use Rattle.ii_definitions.proofs.ListLaws.{mapped_at}
use Rattle.ii_statistics.proofs.CountLemmas.{dropped_at}
use Rattle.ii_statistics.proofs.ListedLemmas.{all_dropped}
use Rattle.nequllpa_searching.specs.OpenedNumbers.{open_segment}
use Rattle.nequllpa_searching.proofs.TotalsLemmas.{tokens_all, tokens_known, tokens_next, tokens_refused}
use Rattle.nequllpa_searching.proofs.field_totals.sum_of_tokens.Goals as goal

pub num_tokens-requires : goal.num_tokens-requires
num_tokens-requires c =
    let l = c.loop-place in
    let os = c.args.segments.now in
    let o = c.index-segments-place.result in
    let known : c.args.field < length o.index.readers =
    all_dropped (λ (s : OpenSegmentState). c.args.field < length s.index.readers) (map open_segment os) l.place (open_segment o) (drop (l.place + 1) (map open_segment os)) c.requires
    (mapped_at open_segment os l.place o c.loop-place-test.true c.index-segments-place.is) in
    let many = o.many in
    omega (arith, known, many)

pub returns-in-Err-clause-fault : goal.returns-in-Err-clause-fault
returns-in-Err-clause-fault c =
    let l = c.loop-place in
    let os = c.args.segments.now in
    let o = c.index-segments-place.result in
    tokens_refused os c.args.field (drop l.place os) (drop (l.place + 1) os) o (dropped_at os l.place o c.loop-place-test.true c.index-segments-place.is) l.sum l.invariant c.in-Err.fault c.in-Err.ensures.err

pub loop-place-preserved : goal.loop-place-preserved
loop-place-preserved c =
    let l = c.loop-place in
    let os = c.args.segments.now in
    let o = c.index-segments-place.result in
    tokens_next os c.args.field (drop l.place os) (drop (l.place + 1) os) o (dropped_at os l.place o c.loop-place-test.true c.index-segments-place.is) l.sum l.invariant c.in-Ok.num_tokens c.saturating_add-sum.result c.in-Ok.ensures.ok c.saturating_add-sum.ensures

pub returns-clause-counted : goal.returns-clause-counted
returns-clause-counted c =
    let l = c.loop-place in
    let os = c.args.segments.now in
    tokens_all os c.args.field (drop l.place os) (drop_all l.place os c.loop-place-test.false) l.sum l.invariant

pub returns-clause-known : goal.returns-clause-known
returns-clause-known c =
    let l = c.loop-place in
    let os = c.args.segments.now in
    tokens_known os c.args.field (drop l.place os) (drop_all l.place os c.loop-place-test.false) l.sum l.invariant
