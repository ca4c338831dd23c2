use Rattle.std.proofs.Common.{◌≡◌, map, take}
use Rattle.ii_termstore.specs.declared.term_info.TermInfo.{TermInfo}
use Rattle.ii_termstore.specs.Written.{largest}
use Rattle.ii_termstore.proofs.term_info_store.packing.largest_doc_freq.Given as goal

abbrev pub invariant-loop-info : goal.invariant-loop-info
invariant-loop-info l = l.most ≡ largest (map (λ (i : TermInfo). i.doc_freq) (take l.info-index l.others))
