use Rattle.std.proofs.Common.{◌<◌, Vec, length, rules, ℕ}
use Rattle.std.specs.declared.alloc.Global.{Global}
use Rattle.nequllpa_searching.specs.Deleting.{docs_with_term}
use Rattle.nequllpa_opening.specs.declared.opened.Opened.{Opened}
use Rattle.nequllpa_searching.proofs.DeletingLemmas.{each_all, each_first, each_next, each_refused}
use Rattle.nequllpa_searching.proofs.deleting.docs_in_each.Goals as goal

pub loop-segment-init : goal.loop-segment-init
loop-segment-init c = each_first (λ (s : Opened). docs_with_term s.index s.alive c.args.term.now) (λ (v : Vec ℕ Global). v.items) c.args.segments.now c.new-all.result.items c.new-all.ensures.items

pub loop-segment-preserved : goal.loop-segment-preserved
loop-segment-preserved c =
    let l = c.loop-segment in
    let inside : l.segment-index < length c.args.segments.now = search rules in
    each_next (λ (s : Opened). docs_with_term s.index s.alive c.args.term.now) (λ (v : Vec ℕ Global). v.items) c.args.segments.now l.segment-index l.all.items c.push.new.self.items c.in-Ok.docs c.segment-item.result c.segment-item.result inside c.segment-item.is c.in-Ok.ensures.found c.in_ok-push.ensures.items l.invariant

pub returns-in-Err-clause-refused : goal.returns-in-Err-clause-refused
returns-in-Err-clause-refused c =
    let l = c.loop-segment in
    let inside : l.segment-index < length c.args.segments.now = search rules in
    each_refused (λ (s : Opened). docs_with_term s.index s.alive c.args.term.now) (λ (v : Vec ℕ Global). v.items) c.args.segments.now l.segment-index l.all.items c.segment-item.result c.segment-item.result c.in-Err.fault inside c.segment-item.is c.in-Err.ensures.refused l.invariant

pub returns-clause-found : goal.returns-clause-found
returns-clause-found c =
    each_all (λ (s : Opened). docs_with_term s.index s.alive c.args.term.now) (λ (v : Vec ℕ Global). v.items) c.args.segments.now c.loop-segment.segment-index c.loop-segment.all.items (search rules) c.loop-segment.invariant
