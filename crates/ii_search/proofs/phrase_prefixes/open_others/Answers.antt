use Rattle.std.proofs.Common.{◌<◌, ◌+◌, ◌∙◌, Ok, ap, drop, length, map, refl, rules}
use Rattle.ii_search.specs.PhrasePrefixes.{part_of}
use Rattle.ii_search.proofs.PartLemmas.{listing_first, listing_next, listing_refused, term_at}
use Rattle.ii_search.proofs.PhrasePrefixLemmas.{opened_pushed}
use Rattle.ii_search.proofs.phrase_prefixes.open_others.Goals as goal

pub returns-in-Err-clause-refused : goal.returns-in-Err-clause-refused
returns-in-Err-clause-refused c =
    let l = c.loop-other in
    let all = c.args.others.now in
    let inside : l.other-index < length all = search rules in
    listing_refused c.args.index.now all (drop l.other-index all) (drop (l.other-index + 1) all) (map part_of l.terms.items) c.other-item.result c.in-Err.fault l.invariant (term_at all l.other-index c.other-item.result inside c.other-item.is) c.in-Err.ensures.refused

pub loop-other-preserved : goal.loop-other-preserved
loop-other-preserved c =
    let l = c.loop-other in
    let all = c.args.others.now in
    let o = c.other-item.result in
    let inside : l.other-index < length all = search rules in
    listing_next c.args.index.now all (drop l.other-index all) (drop (l.other-index + 1) all) (map part_of l.terms.items) (map part_of c.push.new.self.items) o (record { distance = o.distance; rest = c.in-Ok.cursor.rest }) l.invariant
    (term_at all l.other-index o inside c.other-item.is) refl c.in-Ok.ensures.listed
    (ap (map part_of) c.in_ok-push.ensures.items ∙ opened_pushed l.terms.items (record { distance = o.distance; cursor = c.in-Ok.cursor }))

pub loop-other-init : goal.loop-other-init
loop-other-init c = rw (c.new-terms.ensures.items) (listing_first c.args.index.now c.args.others.now c.requires.others)
