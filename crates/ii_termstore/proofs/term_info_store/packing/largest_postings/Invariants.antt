use Rattle.std.proofs.Common.{◌≡◌, map, take}
use Rattle.ii_termstore.specs.Written.{largest, postings_after}
use Rattle.ii_termstore.proofs.term_info_store.packing.largest_postings.Given as goal

abbrev pub invariant-loop-info : goal.invariant-loop-info
invariant-loop-info l = l.most ≡ largest (map (postings_after l.first) (take l.info-index l.others))
