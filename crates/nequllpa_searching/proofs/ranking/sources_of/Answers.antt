use Rattle.std.proofs.Common.{◌∙◌, ◌+◌, List, [], ◌∷◌, ◌++◌, append-nil, append_assoc, ap, drop, map, sym}
use Rattle.std.proofs.lemmas.List.{drop_all, map-append}
use Rattle.ii_ranking.specs.Segments.{segment_of}
use Rattle.ii_ranking.specs.declared.segments.RankedSegment.{RankedSegment}
use Rattle.ii_segment_search.specs.Searcher.{OpenSegmentState}
use Rattle.ii_statistics.proofs.CountLemmas.{dropped_at}
use Rattle.nequllpa_searching.specs.OpenedNumbers.{open_segment}
use Rattle.nequllpa_opening.specs.declared.opened.Opened.{Opened}
use Rattle.nequllpa_searching.proofs.ranking.sources_of.Goals as goal

pub loop-place-preserved : goal.loop-place-preserved
loop-place-preserved c =
    let l = c.loop-place in
    let all = c.args.segments.now in
    let left : List OpenSegmentState = map open_segment (drop (l.place + 1) all) in
    let made = c.source_of.result in
    let at = dropped_at all l.place c.index-segments-place.result c.loop-place-test.true c.index-segments-place.is in
    let same = c.source_of.ensures in
    ap (λ (row : List RankedSegment). map segment_of row ++ left) c.in_ok-push.ensures.items
    ∙ ap (λ (row : List OpenSegmentState). row ++ left) (map-append segment_of l.sources.items (made ∷ []))
    ∙ append_assoc (map segment_of l.sources.items) (segment_of made ∷ []) left
    ∙ (λ j. map segment_of l.sources.items ++ same j ∷ left)
    ∙ ap (λ (row : List Opened). map segment_of l.sources.items ++ map open_segment row) (sym at)
    ∙ l.invariant

pub returns-clause-same : goal.returns-clause-same
returns-clause-same c =
    let l = c.loop-place in
    let ranked = map segment_of l.sources.items in
    sym (append-nil ranked) ∙ ap (λ (row : List Opened). ranked ++ map open_segment row) (sym (drop_all l.place c.args.segments.now c.loop-place-test.false)) ∙ l.invariant
