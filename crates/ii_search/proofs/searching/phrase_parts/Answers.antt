use Rattle.std.proofs.Common.{◌<◌, ◌+◌, ◌∙◌, Ok, List, ap, sym, drop, length, rules}
use Rattle.ii_base.specs.Entries.{Entry}
use Rattle.ii_query.specs.Phrase.{parts_in}
use Rattle.ii_search.proofs.PartLemmas.{lazy_pushed, listing_first, listing_next, listing_refused, parts_pushed, term_at}
use Rattle.ii_search.proofs.searching.phrase_parts.Goals as goal

pub returns-in-Err-clause-refused : goal.returns-in-Err-clause-refused
returns-in-Err-clause-refused c =
    let l = c.loop-other in
    let all = c.args.others.now in
    let inside : l.other-index < length all = search rules in
    listing_refused c.args.index.now all (drop l.other-index all) (drop (l.other-index + 1) all) (parts_in l.parts.items) c.other-item.result c.in-Err.fault l.invariant.listing (term_at all l.other-index c.other-item.result inside c.other-item.is) c.in-Err.ensures.refused

pub loop-other-preserved : goal.loop-other-preserved
loop-other-preserved c =
    let l = c.loop-other in
    let all = c.args.others.now in
    let inside : l.other-index < length all = search rules in
    record {
      listing = listing_next c.args.index.now all (drop l.other-index all) (drop (l.other-index + 1) all) (parts_in l.parts.items) (parts_in c.push.new.self.items) c.other-item.result c.new.result.part l.invariant.listing (term_at all l.other-index c.other-item.result inside c.other-item.is)
          c.new.ensures.distance (c.in-Ok.ensures.listed ∙ ap (λ (es : List Entry). Ok es) (sym c.new.ensures.rest)) (ap parts_in c.in_ok-push.ensures.items ∙ parts_pushed l.parts.items c.new.result);
      lazy = rw (c.in_ok-push.ensures.items) (lazy_pushed l.parts.items c.new.result l.invariant.lazy (rw (c.new.ensures.cursor) c.in-Ok.ensures.lazy));
    }

pub loop-other-init : goal.loop-other-init
loop-other-init c = record {
  listing = rw (c.new-parts.ensures.items) (listing_first c.args.index.now c.args.others.now c.requires.others);
  lazy = rw (c.new-parts.ensures.items) tt;
}
