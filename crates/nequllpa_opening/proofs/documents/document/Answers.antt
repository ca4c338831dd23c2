use Rattle.std.proofs.Common.{◌≡◌, ◌∙◌, ◌+◌, Err, List, Ok, Result, ap, arith, drop, map, subst, sym, ℕ}
use Rattle.std.specs.Prelude.{MatchResult}
use Rattle.std.proofs.lemmas.List.{length-map}
use Rattle.nequllpa_opening.specs.declared.faults.DocumentFault.{DocumentFault}
use Rattle.nequllpa_opening.specs.Documents.{StoredSegmentState, document_from, stored_segment}
use Rattle.nequllpa_opening.proofs.DocumentLemmas.{in_later, in_this, none_left, segment_at, stored_result}
use Rattle.nequllpa_opening.proofs.documents.document.Goals as goal

pub returns-then-left-living-clause-value : goal.returns-then-left-living-clause-value
returns-then-left-living-clause-value c =
    let xs = c.args.segments.now in
    let x = c.index-segments-place.result in
    let place = c.loop-place.place in
    let left = c.loop-place.left in
    let at = segment_at xs place x c.loop-place-test.true c.index-segments-place.is in
    let is = sym c.loop-place.invariant ∙ ap (λ (ss : List StoredSegmentState). document_from place ss left) at ∙ in_this place (stored_segment x) (drop (place + 1) (map stored_segment xs)) left (omega (arith, c.if-left-living.true, c.num_living-living.ensures)) in
    subst (λ (r : Result (List ℕ) DocumentFault). MatchResult c.document_in.result (λ d. r ≡ Ok d.now) (λ e. r ≡ Err e)) (sym is) c.document_in.ensures

pub returns-then-left-living-clause-stored : goal.returns-then-left-living-clause-stored
returns-then-left-living-clause-stored c ds hold low =
    let xs = c.args.segments.now in
    let x = c.index-segments-place.result in
    let place = c.loop-place.place in
    let left = c.loop-place.left in
    let at = segment_at xs place x c.loop-place-test.true c.index-segments-place.is in
    let is = sym c.loop-place.invariant ∙ ap (λ (ss : List StoredSegmentState). document_from place ss left) at ∙ in_this place (stored_segment x) (drop (place + 1) (map stored_segment xs)) left (omega (arith, c.if-left-living.true, c.num_living-living.ensures)) in
    let value = subst (λ (r : Result (List ℕ) DocumentFault). MatchResult c.document_in.result (λ d. r ≡ Ok d.now) (λ e. r ≡ Err e)) (sym is) c.document_in.ensures in
    stored_result (map stored_segment xs) ds c.args.number c.document_in.result hold low value

pub loop-place-preserved : goal.loop-place-preserved
loop-place-preserved c =
    let xs = c.args.segments.now in
    let x = c.index-segments-place.result in
    let place = c.loop-place.place in
    let left = c.loop-place.left in
    let at = segment_at xs place x c.loop-place-test.true c.index-segments-place.is in
    let past = in_later place (stored_segment x) (drop (place + 1) (map stored_segment xs)) left (omega (arith, c.if-left-living.false, c.num_living-living.ensures)) in
    ap (λ (k : ℕ). document_from (place + 1) (drop (place + 1) (map stored_segment xs)) k) (omega (arith, c.num_living-living.ensures))
    ∙ sym past ∙ ap (λ (ss : List StoredSegmentState). document_from place ss left) (sym at) ∙ c.loop-place.invariant

pub returns-clause-stored : goal.returns-clause-stored
returns-clause-stored c ds hold low =
    none_left (map stored_segment c.args.segments.now) c.loop-place.place c.loop-place.left c.args.number ds (omega (arith, c.loop-place-test.false, length-map c.args.segments.now stored_segment)) c.loop-place.invariant hold low
