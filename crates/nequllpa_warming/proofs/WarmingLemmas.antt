-- Segments that are opened one after the other.
use Rattle.std.proofs.Common.{◌≡◌, List, ◌∷◌, ◌++◌, ap, sym, ◌∙◌}
use Rattle.ii_open_segments.specs.OpenSegments.{OpenSegmentState}
use Rattle.nequllpa_opening.specs.declared.opened.Opened.{Opened}
use Rattle.nequllpa_opening.proofs.OpenLemmas.{IsMaking}
use Rattle.nequllpa_warming.specs.WarmedSegments.{HoldsOfOne}

-- a property of the segment after those that were opened
pub holds_of_next : (R : OpenSegmentState → Opened → Type 0) (P : OpenSegmentState → Type 0) (all taken before rest : List OpenSegmentState) (made : List Opened) (s : OpenSegmentState)
    → before ≡ s ∷ rest → P s → IsMaking R all taken before made → HoldsOfOne P all
holds_of_next R P all taken before rest made s step holds so_far = record {
  before = taken;
  segment = s;
  after = rest;
  whole = ap (λ (r : List OpenSegmentState). taken ++ r) (sym step) ∙ so_far.whole;
  holds = holds;
}
