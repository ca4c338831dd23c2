use Rattle.ii_termdict.proofs.SearchLemmas.{length-entries_of, value_found}
use Rattle.ii_termdict.proofs.key_parts.value_at.Goals as goal

pub get-requires : goal.get-requires
get-requires c =
    let size = length-entries_of c.opened-parts.result.num_terms c.opened-parts.result.ends.now c.opened-parts.result.body.now c.opened-parts.ensures.valid in
    let within = rw c.opened-parts.ensures.entries at c.requires in
    rw c.view_of.ensures.count (rw (← size) within)

pub returns : goal.returns
returns c =
    rw c.opened-parts.ensures.entries
    (value_found c.opened-parts.result.num_terms c.opened-parts.result.ends.now c.opened-parts.result.body.now c.args.ord c.get.result c.opened-parts.ensures.valid (rw c.view_of.ensures.value c.get.ensures))
