use Rattle.ii_termdict.proofs.SearchLemmas.{info_hit, info_miss}
use Rattle.ii_termdict.proofs.key_parts.get.Goals as goal

pub get-requires : goal.get-requires
get-requires c = rw c.view_of.ensures.count c.in-Some.ensures.within

pub returns-in-Some : goal.returns-in-Some
returns-in-Some c =
    rw c.opened-parts.ensures.entries
    (info_hit c.opened-parts.result.num_terms c.opened-parts.result.ends.now c.opened-parts.result.body.now c.args.key.now c.in-Some.ord c.get.result c.opened-parts.ensures.valid c.in-Some.ensures.within c.in-Some.ensures.found (rw c.view_of.ensures.value c.get.ensures))

pub returns-in-None : goal.returns-in-None
returns-in-None c = rw c.opened-parts.ensures.entries (info_miss c.opened-parts.result.num_terms c.opened-parts.result.ends.now c.opened-parts.result.body.now c.args.key.now c.in-None.ensures.none)
