use Rattle.std.proofs.Common.{◌∙◌, ℕ, max, ap, arith}
use Rattle.ii_termstore.specs.TermInfos.{term_info_from}
use Rattle.ii_termstore.specs.Written.{postings_after}
use Rattle.ii_termstore.proofs.PackLemmas.{largest_more}
use Rattle.ii_termstore.proofs.term_info_store.packing.largest_postings.Goals as goal

pub loop-info-preserved : goal.loop-info-preserved
loop-info-preserved c =
    largest_more (postings_after c.args.first.now) c.args.others.now c.loop-info.info-index (term_info_from 0 0 0 0 0) c.loop-info.most c.max-most.result (omega arith) c.loop-info.invariant
    (c.max-most.ensures ∙ ap (λ (n : ℕ). max c.loop-info.most n) c.postings_of.ensures)
