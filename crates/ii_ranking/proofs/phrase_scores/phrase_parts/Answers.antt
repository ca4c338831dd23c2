use Rattle.std.proofs.Common.{◌∙◌, ◌<◌, ◌+◌, Ok, List, ap, drop, length, rules, sym}
use Rattle.ii_base.specs.Entries.{Entry}
use Rattle.ii_definitions.proofs.ListLaws.{all_both}
use Rattle.ii_query.specs.Phrase.{IsUnread, parts_in}
use Rattle.ii_search.proofs.PartLemmas.{parts_pushed, term_at}
use Rattle.ii_ranking.proofs.ScoreLemmas.{lists_next, lists_none, lists_refused}
use Rattle.ii_ranking.proofs.phrase_scores.phrase_parts.Goals as goal

pub returns-in-Err-clause-fault : goal.returns-in-Err-clause-fault
returns-in-Err-clause-fault c =
    let l = c.loop-other in
    let all = c.args.others.now in
    let inside : l.other-index < length all = search rules in
    lists_refused c.args.index.now all (drop l.other-index all) (drop (l.other-index + 1) all) (parts_in l.parts.items) c.other-item.result c.in-Err.fault l.invariant.listing (term_at all l.other-index c.other-item.result inside c.other-item.is) c.in-Err.ensures.refused

pub loop-other-preserved : goal.loop-other-preserved
loop-other-preserved c =
    let l = c.loop-other in
    let all = c.args.others.now in
    let inside : l.other-index < length all = search rules in
    record {
      listing = lists_next c.args.index.now all (drop l.other-index all) (drop (l.other-index + 1) all) (parts_in l.parts.items) (parts_in c.push.new.self.items) c.other-item.result c.new.result.part l.invariant.listing (term_at all l.other-index c.other-item.result inside c.other-item.is)
          (c.in-Ok.ensures.listed ∙ ap (λ (es : List Entry). Ok es) (sym c.new.ensures.rest)) c.new.ensures.distance (ap parts_in c.in_ok-push.ensures.items ∙ parts_pushed l.parts.items c.new.result);
      unread = rw (c.in_ok-push.ensures.items) (all_both IsUnread l.parts.items _ l.invariant.unread (c.new.ensures.unread, tt));
    }

pub loop-other-init : goal.loop-other-init
loop-other-init c = record {
  listing = rw (c.new-parts.ensures.items) (lists_none c.args.index.now c.args.others.now c.requires);
  unread = rw (c.new-parts.ensures.items) tt;
}
