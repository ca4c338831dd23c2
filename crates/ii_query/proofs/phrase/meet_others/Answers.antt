use Rattle.std.proofs.Common.{◌≡◌, ◌<◌, ◌+◌, ◌∙◌, length, rules, subst, sym}
use Rattle.ii_query.specs.Phrase.{IsUnreadFrom, MeetsAt, ReadsOnce, parts_in}
use Rattle.ii_query.specs.WorkLaws.{none_went, reads_in_turn, reads_nothing}
use Rattle.ii_query.proofs.PhraseSteps.{IsMeeting, meeting_ends, meeting_first, meeting_next, meeting_stops}
use Rattle.ii_query.proofs.WorkLemmas.{each_at, each_set, part_got, parts_many, parts_set, work_set}
use Rattle.ii_query.proofs.phrase.meet_others.Goals as goal

pub loop-i-init : goal.loop-i-init
loop-i-init g c = record {
  meeting = meeting_first c.args.doc (parts_in c.args.others.now.items);
  unread = c.requires.unread;
  work = none_went (ReadsOnce g.P.Postings.spent) (λ t. reads_nothing g.P.Postings.spent t (g.met.P.Postings.spent_moving t.cursor t.cursor (g.met.P.DocSet.went_nowhere t.cursor))) c.args.others.now.items;
}

pub go_to-bound-requires-clause-unread : goal.go_to-bound-requires-clause-unread
go_to-bound-requires-clause-unread g c =
    let l = c.loop-i in
    let inside : l.i < length l.others.items = search rules in
    each_at (IsUnreadFrom c.args.doc) l.others.items l.i c.index_mut.result.now l.invariant.unread inside c.index_mut.ensures.value

pub returns-then-bound-doc-clause-meets : goal.returns-then-bound-doc-clause-meets
returns-then-bound-doc-clause-meets g c =
    let l = c.loop-i in
    let e = c.go_to-bound.ensures in
    let inside : l.i < length l.others.items = search rules in
    let within : l.i < length (parts_in l.others.items) = rw (parts_many l.others.items) inside in
    subst (λ ps. MeetsAt c.args.doc (parts_in c.args.others.now.items) ps c.go_to-bound.result) (sym (parts_set l.others.items l.i c.go_to-bound.new.self))
    (meeting_stops c.args.doc l.i c.go_to-bound.result (parts_in c.args.others.now.items) (parts_in l.others.items) c.index_mut.result.now.part c.go_to-bound.new.self.part l.invariant.meeting within
    (part_got l.others.items l.i c.index_mut.result.now inside c.index_mut.ensures.value)
    (record { distance_is = e.distance; rest_is = e.rest; sound = e.sound; here = e.doc }) c.if-bound-doc.true c.requires.low)

pub returns-then-bound-doc-clause-unread : goal.returns-then-bound-doc-clause-unread
returns-then-bound-doc-clause-unread g c = each_set (IsUnreadFrom c.args.doc) c.loop-i.others.items c.loop-i.i c.go_to-bound.new.self (λ up. c.go_to-bound.ensures.unread) c.loop-i.invariant.unread

pub returns-then-bound-doc-clause-work : goal.returns-then-bound-doc-clause-work
returns-then-bound-doc-clause-work g c =
    let l = c.loop-i in
    let inside : l.i < length l.others.items = search rules in
    work_set (ReadsOnce g.P.Postings.spent) (reads_in_turn g.P.Postings.spent g.met.P.Postings.spent_on) c.args.others.now.items l.others.items l.i c.index_mut.result.now c.go_to-bound.new.self inside c.index_mut.ensures.value
    c.go_to-bound.ensures.work l.invariant.work

pub loop-i-preserved : goal.loop-i-preserved
loop-i-preserved g c =
    let l = c.loop-i in
    let e = c.go_to-bound.ensures in
    let inside : l.i < length l.others.items = search rules in
    let within : l.i < length (parts_in l.others.items) = rw (parts_many l.others.items) inside in
    record {
      meeting = subst (λ ps. IsMeeting c.args.doc (l.i + 1) (parts_in c.args.others.now.items) ps) (sym (parts_set l.others.items l.i c.go_to-bound.new.self))
          (meeting_next c.args.doc l.i c.go_to-bound.result (parts_in c.args.others.now.items) (parts_in l.others.items) c.index_mut.result.now.part c.go_to-bound.new.self.part l.invariant.meeting within
          (part_got l.others.items l.i c.index_mut.result.now inside c.index_mut.ensures.value)
          (record { distance_is = e.distance; rest_is = e.rest; sound = e.sound; here = e.doc }) c.if-bound-doc.false);
      unread = each_set (IsUnreadFrom c.args.doc) l.others.items l.i c.go_to-bound.new.self (λ up. e.unread) l.invariant.unread;
      work = work_set (ReadsOnce g.P.Postings.spent) (reads_in_turn g.P.Postings.spent g.met.P.Postings.spent_on) c.args.others.now.items l.others.items l.i c.index_mut.result.now c.go_to-bound.new.self inside c.index_mut.ensures.value
          e.work l.invariant.work;
    }

pub returns-clause-meets : goal.returns-clause-meets
returns-clause-meets g c =
    let l = c.loop-i in
    let ended : l.i ≡ length c.args.others.now.items = search rules in
    meeting_ends c.args.doc (parts_in c.args.others.now.items) (parts_in l.others.items)
    (subst (λ n. IsMeeting c.args.doc n (parts_in c.args.others.now.items) (parts_in l.others.items)) (ended ∙ sym (parts_many c.args.others.now.items)) l.invariant.meeting) c.requires.low
