mod OpenLaws
mod OpenSegmentLaws
