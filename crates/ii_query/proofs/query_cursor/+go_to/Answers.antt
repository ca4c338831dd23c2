use Rattle.std.proofs.Common.{◌≡◌, ◌<◌, ◌≤◌, ◌++◌, ℕ, List, drop, length, min, refl, rules, subst, sym, ap, ◌∙◌, arith}
use Rattle.std.specs.Prelude.{not}
use Rattle.std.specs.List.{AllZip}
use Rattle.ii_base.specs.Entries.{Entry}
use Rattle.ii_docset.specs.Cursor.{doc_at, from_doc}
use Rattle.ii_docset.specs.Intersection.{has_doc}
use Rattle.ii_docset.proofs.CursorLemmas.{doc_below, from_doc_here}
use Rattle.ii_docset.proofs.IntersectionLemmas.{asked_for, at_end, doc_at-from_doc}
use Rattle.ii_query.specs.Combined.{StandsAt, all_have, picked, union_of, without}
use Rattle.ii_query.specs.QueryCursor.{KeptFrom, WentTo, cursors_under, rest_of, rests}
use Rattle.ii_query.proofs.HintLemmas.{from_doc_short, stands_within}
use Rattle.ii_query.proofs.MeetLemmas.{MetAt, all_kept, met_at, picked_first, picked_kept, picked_past, seek_met, seek_missed}
use Rattle.ii_query.proofs.NestedLemmas.{either_at, stands_low}
use Rattle.ii_query.proofs.PartsLemmas.{DoneTo, depth_stays, done_depth, done_ends, done_long, done_next, least_next, least_to, union_at, union_from, went_sound, work_under}
use Rattle.ii_query.proofs.PickedLemmas.{picked_at, picked_from, without_asked, without_at, without_found}
use Rattle.ii_query.proofs.UnionLemmas.{either_from, next_from}
use Rattle.ii_query.specs.WorkLaws.{all_went_on, none_went}
use Rattle.ii_query.proofs.WorkLemmas.{all_beside}
use Rattle.ii_query.proofs.query_cursor.+go_to.Goals as goal

pub QueryCursor::go_to-returns-then-target-doc-clause-rest : goal.QueryCursor::go_to-returns-then-target-doc-clause-rest
QueryCursor::go_to-returns-then-target-doc-clause-rest g t c =
    let here = c.current-doc.ensures.doc in
    let low = c.if-target-doc.true in
    sym (from_doc_here c.args.target c.args.self.now.rest c.current-doc.ensures.sound.ascending (omega (arith, here, low)))

pub QueryCursor::go_to-returns-then-target-doc-clause-work : goal.QueryCursor::go_to-returns-then-target-doc-clause-work
QueryCursor::go_to-returns-then-target-doc-clause-work g t c = none_went g.T.DocSet.went g.met.T.DocSet.went_nowhere c.args.self.now.cursors

pub QueryCursor::go_on-invariant_of-self : goal.QueryCursor::go_on-invariant_of-self
QueryCursor::go_on-invariant_of-self g t c =
    let old = rest_of g.T.DocSet.rest c.self.inside.parts in
    let went : g.T.DocSet.rest c.go_above-next.new.cursor ≡ from_doc c.args.target old = search rules in
    let few = from_doc_short c.args.target old in
    let low = c.self.invariant.enough in
    let long = ap length went in
    stands_within c.go_above-next.result c.self.inside.hint (g.T.DocSet.rest c.go_above-next.new.cursor) c.go_above-next.ensures.at (omega (arith, few, low, long))

pub QueryCursor::go_on-invariant_of-self-2 : goal.QueryCursor::go_on-invariant_of-self-2
QueryCursor::go_on-invariant_of-self-2 g t c =
    let old = rest_of g.T.DocSet.rest c.self.inside.parts in
    let new = rest_of g.T.DocSet.rest c.move_to-next.new.parts in
    let went : new ≡ from_doc c.args.target old = search rules in
    let few = from_doc_short c.args.target old in
    let low = c.self.invariant.enough in
    let long = ap length went in
    stands_within c.move_to-next.result c.self.inside.hint new c.move_to-next.ensures.at (omega (arith, few, low, long))

pub go_to_each-go_to-doc-requires : goal.go_to_each-go_to-doc-requires
go_to_each-go_to-doc-requires g t c κs within =
    let l = c.loop-i in
    let inside : l.i < length l.parts.items = search rules in
    let low = done_depth (WentTo g.T.DocSet.went c.args.target) l.i c.args.parts.now.items l.parts.items c.index_mut.result.now inside c.index_mut.ensures.value l.invariant.went in
    search (rules, low)

pub go_to_each-loop-i-preserved : goal.go_to_each-loop-i-preserved
go_to_each-loop-i-preserved g t c =
    let l = c.loop-i in
    let cs = l.parts.items in
    let e = c.go_to-doc.ensures in
    let inside : l.i < length cs = search rules in
    let least : c.min-least.result ≡ min (least_to l.i cs) c.go_to-doc.result = search rules in
    record {
      went = done_next (WentTo g.T.DocSet.went c.args.target) l.i c.args.parts.now.items cs c.index_mut.result.now c.go_to-doc.new.self inside c.index_mut.ensures.value (record { rest = e.rest; sound = e.sound; depth = e.depth; work = e.work }) l.invariant.went;
      least = least ∙ ap (λ (d : ℕ). min (least_to l.i cs) d) e.doc ∙ sym (least_next l.i cs c.go_to-doc.new.self inside);
    }

pub go_to_each-returns-clause-went : goal.go_to_each-returns-clause-went
go_to_each-returns-clause-went g t c =
    let l = c.loop-i in
    let ended : l.i ≡ length c.args.parts.now.items = search rules in
    let R = WentTo g.T.DocSet.went c.args.target in
    done_ends R c.args.parts.now.items l.parts.items (subst (λ n. DoneTo R n c.args.parts.now.items l.parts.items) ended l.invariant.went)

pub go_to_each-returns-clause-at : goal.go_to_each-returns-clause-at
go_to_each-returns-clause-at g t c =
    let l = c.loop-i in
    let cs = l.parts.items in
    let R = WentTo g.T.DocSet.went c.args.target in
    let ended : l.i ≡ length c.args.parts.now.items = search rules in
    let all = done_ends R c.args.parts.now.items cs (subst (λ n. DoneTo R n c.args.parts.now.items cs) ended l.invariant.went) in
    let many : l.i ≡ length cs = ended ∙ sym (done_long R l.i c.args.parts.now.items cs l.invariant.went) in
    let least : least_to (length cs) cs ≡ l.least = ap (λ n. least_to n cs) (sym many) ∙ sym l.invariant.least in
    subst (λ doc. StandsAt doc (union_of (rests cs))) least (union_at cs (went_sound g.T.DocSet.went c.args.target c.args.parts.now.items cs all))

pub seek_others-go_to-bound-requires : goal.seek_others-go_to-bound-requires
seek_others-go_to-bound-requires g t c κs within =
    let l = c.loop-i in
    let inside : l.i < length l.others.items = search rules in
    let low = done_depth (MetAt g.T.DocSet.went c.args.doc) l.i c.args.others.now.items l.others.items c.index_mut.result.now inside c.index_mut.ensures.value l.invariant in
    search (rules, low)

pub seek_others-loop-i-preserved : goal.seek_others-loop-i-preserved
seek_others-loop-i-preserved g t c =
    let l = c.loop-i in
    let e = c.go_to-bound.ensures in
    let went = g.T.DocSet.went in
    let inside : l.i < length l.others.items = search rules in
    done_next (MetAt went c.args.doc) l.i c.args.others.now.items l.others.items c.index_mut.result.now c.go_to-bound.new.self inside c.index_mut.ensures.value
    (met_at went c.args.doc c.index_mut.result.now c.go_to-bound.new.self (record { rest = e.rest; sound = e.sound; depth = e.depth; work = e.work }) c.requires (sym c.if-bound-doc.false ∙ e.doc)) l.invariant

pub seek_others-returns-then-bound-doc-clause-answer : goal.seek_others-returns-then-bound-doc-clause-answer
seek_others-returns-then-bound-doc-clause-answer g t c =
    let l = c.loop-i in
    let e = c.go_to-bound.ensures in
    let inside : l.i < length l.others.items = search rules in
    (seek_missed g.T.DocSet.went (λ x. none_went g.T.DocSet.went g.met.T.DocSet.went_nowhere x.cursors) c.args.doc c.go_to-bound.result l.i c.args.others.now.items l.others.items c.index_mut.result.now c.go_to-bound.new.self c.requires l.invariant inside c.index_mut.ensures.value
    (record { rest = e.rest; sound = e.sound; depth = e.depth; work = e.work }) e.doc c.if-bound-doc.true).0

pub seek_others-returns-then-bound-doc-clause-kept : goal.seek_others-returns-then-bound-doc-clause-kept
seek_others-returns-then-bound-doc-clause-kept g t c =
    let l = c.loop-i in
    let e = c.go_to-bound.ensures in
    let inside : l.i < length l.others.items = search rules in
    (seek_missed g.T.DocSet.went (λ x. none_went g.T.DocSet.went g.met.T.DocSet.went_nowhere x.cursors) c.args.doc c.go_to-bound.result l.i c.args.others.now.items l.others.items c.index_mut.result.now c.go_to-bound.new.self c.requires l.invariant inside c.index_mut.ensures.value
    (record { rest = e.rest; sound = e.sound; depth = e.depth; work = e.work }) e.doc c.if-bound-doc.true).1

pub seek_others-returns-clause-answer : goal.seek_others-returns-clause-answer
seek_others-returns-clause-answer g t c =
    let l = c.loop-i in
    let ended : l.i ≡ length c.args.others.now.items = search rules in
    (seek_met g.T.DocSet.went c.args.doc c.args.others.now.items l.others.items c.requires (subst (λ n. DoneTo (MetAt g.T.DocSet.went c.args.doc) n c.args.others.now.items l.others.items) ended l.invariant)).0

pub seek_others-returns-clause-kept : goal.seek_others-returns-clause-kept
seek_others-returns-clause-kept g t c =
    let l = c.loop-i in
    let ended : l.i ≡ length c.args.others.now.items = search rules in
    (seek_met g.T.DocSet.went c.args.doc c.args.others.now.items l.others.items c.requires (subst (λ n. DoneTo (MetAt g.T.DocSet.went c.args.doc) n c.args.others.now.items l.others.items) ended l.invariant)).1

pub meet-loop-doc-init : goal.meet-loop-doc-init
meet-loop-doc-init g t c = record {
  here = c.current-doc.ensures.doc;
  sound = c.current-doc.ensures.sound;
  met = refl;
  leader_depth = refl;
  other_depth = refl;
  leader_work = none_went g.T.DocSet.went g.met.T.DocSet.went_nowhere c.args.leader.now.cursors;
  other_work = none_went g.T.DocSet.went g.met.T.DocSet.went_nowhere (cursors_under c.args.others.now.items);
}

pub meet-returns-then-bound-doc-clause-at : goal.meet-returns-then-bound-doc-clause-at
meet-returns-then-bound-doc-clause-at g t c =
    let l = c.loop-doc in
    let holds = all_have (rests c.seek_others-bound.new.others.items) in
    let met = c.seek_others-bound.ensures.answer.met c.if-bound-doc.true in
    picked_at holds l.leader.rest l.doc (record { sound = l.invariant.sound; here = picked_first holds l.doc l.leader.rest l.invariant.here c.loop-doc-test.true met }) l.invariant.here

pub meet-returns-then-bound-doc-clause-rest : goal.meet-returns-then-bound-doc-clause-rest
meet-returns-then-bound-doc-clause-rest g t c =
    let l = c.loop-doc in
    let after = c.seek_others-bound.new.others.items in
    picked_kept (all_have (rests after)) (all_have (rests l.others.items)) l.doc l.leader.rest l.invariant.sound l.invariant.here (all_kept g.T.DocSet.went l.doc l.others.items after c.seek_others-bound.ensures.kept) ∙ l.invariant.met

pub meet-returns-then-bound-doc-clause-depth : goal.meet-returns-then-bound-doc-clause-depth
meet-returns-then-bound-doc-clause-depth g t c =
    let l = c.loop-doc in
    let K = KeptFrom g.T.DocSet.went l.doc in
    let stays = depth_stays K (λ o n k. k.depth) l.others.items c.seek_others-bound.new.others.items c.seek_others-bound.ensures.kept in
    let one = l.invariant.leader_depth in
    let two = l.invariant.other_depth in
    omega (arith, stays, one, two)

pub meet-returns-then-bound-doc-clause-work : goal.meet-returns-then-bound-doc-clause-work
meet-returns-then-bound-doc-clause-work g t c =
    let l = c.loop-doc in
    let went = g.T.DocSet.went in
    let olds = c.args.others.now.items in
    let after = c.seek_others-bound.new.others.items in
    let work = work_under went (KeptFrom went l.doc) (λ o n k. k.work) l.others.items after c.seek_others-bound.ensures.kept in
    all_beside went c.args.leader.now.cursors (cursors_under olds) l.leader.cursors (cursors_under after) l.invariant.leader_work
    (all_went_on went g.met.T.DocSet.went_on (cursors_under olds) (cursors_under l.others.items) (cursors_under after) l.invariant.other_work work)

pub meet-loop-doc-smaller : goal.meet-loop-doc-smaller
meet-loop-doc-smaller g t c =
    let l = c.loop-doc in
    let a = c.seek_others-bound.ensures.answer in
    let low = a.low in
    let most = a.up_to in
    let other = c.if-bound-doc.false in
    let more = c.loop-doc-test.true in
    let reached : c.seek_others-bound.result ≤ doc_at c.go_to-doc.new.self.rest = subst (λ (es : List Entry). c.seek_others-bound.result ≤ doc_at es) (sym c.go_to-doc.ensures.rest) (doc_at-from_doc c.seek_others-bound.result l.leader.rest most) in
    let here = c.go_to-doc.ensures.doc in
    omega (arith, low, most, other, more, reached, here)

pub meet-loop-doc-preserved : goal.meet-loop-doc-preserved
meet-loop-doc-preserved g t c =
    let l = c.loop-doc in
    let went = g.T.DocSet.went in
    let a = c.seek_others-bound.ensures.answer in
    let after = c.seek_others-bound.new.others.items in
    let holds = all_have (rests after) in
    let K = KeptFrom went l.doc in
    let here = l.invariant.here in
    let past = picked_past holds l.doc c.seek_others-bound.result l.leader.rest l.invariant.sound.ascending (omega (arith, here)) a.none in
    let same = picked_kept holds (all_have (rests l.others.items)) l.doc l.leader.rest l.invariant.sound here (all_kept went l.doc l.others.items after c.seek_others-bound.ensures.kept) in
    record {
      here = c.go_to-doc.ensures.doc;
      sound = c.go_to-doc.ensures.sound;
      met = ap (λ (es : List Entry). picked holds es) c.go_to-doc.ensures.rest ∙ past ∙ same ∙ l.invariant.met;
      leader_depth = c.go_to-doc.ensures.depth ∙ l.invariant.leader_depth;
      other_depth = depth_stays K (λ o n k. k.depth) l.others.items after c.seek_others-bound.ensures.kept ∙ l.invariant.other_depth;
      leader_work = all_went_on went g.met.T.DocSet.went_on c.args.leader.now.cursors l.leader.cursors c.go_to-doc.new.self.cursors l.invariant.leader_work c.go_to-doc.ensures.work;
      other_work = all_went_on went g.met.T.DocSet.went_on (cursors_under c.args.others.now.items) (cursors_under l.others.items) (cursors_under after) l.invariant.other_work (work_under went K (λ o n k. k.work) l.others.items after c.seek_others-bound.ensures.kept);
    }

pub meet-returns-clause-at : goal.meet-returns-clause-at
meet-returns-clause-at g t c =
    let l = c.loop-doc in
    let none = at_end l.leader.rest l.doc l.invariant.here l.invariant.sound c.loop-doc-test.false in
    let holds = all_have (rests l.others.items) in
    picked_at holds l.leader.rest l.doc (record { sound = l.invariant.sound; here = ap (λ (es : List Entry). doc_at (picked holds es)) none ∙ sym (ap doc_at none) }) l.invariant.here

pub meet-returns-clause-work : goal.meet-returns-clause-work
meet-returns-clause-work g t c =
    let l = c.loop-doc in
    all_beside g.T.DocSet.went c.args.leader.now.cursors (cursors_under c.args.others.now.items) l.leader.cursors (cursors_under l.others.items) l.invariant.leader_work l.invariant.other_work

pub move_to-returns-in-Intersection-clause-rest : goal.move_to-returns-in-Intersection-clause-rest
move_to-returns-in-Intersection-clause-rest g t c =
    let es = c.in-Intersection.leader.value.rest in
    let holds = all_have (rests c.in-Intersection.others.items) in
    let gone : picked (all_have (rests c.meet.new.others.items)) c.meet.new.leader.rest ≡ picked holds (from_doc c.args.target es) = search rules in
    rw (c.in-Intersection.is) (gone ∙ picked_from holds c.args.target es)

pub move_to-returns-in-Intersection-clause-work : goal.move_to-returns-in-Intersection-clause-work
move_to-returns-in-Intersection-clause-work g t c =
    let went = g.T.DocSet.went in
    let leader = c.in-Intersection.leader.value.cursors in
    let others = cursors_under c.in-Intersection.others.items in
    let first : AllZip went leader c.go_to.new.self.cursors = search rules in
    let start = all_beside went leader others c.go_to.new.self.cursors others first (none_went went g.met.T.DocSet.went_nowhere others) in
    let then : AllZip went (c.go_to.new.self.cursors ++ others) (c.meet.new.leader.cursors ++ cursors_under c.meet.new.others.items) = search rules in
    rw (c.in-Intersection.is) (all_went_on went g.met.T.DocSet.went_on (leader ++ others) (c.go_to.new.self.cursors ++ others) (c.meet.new.leader.cursors ++ cursors_under c.meet.new.others.items) start then)

pub move_to-returns-in-Intersection-clause-up_to : goal.move_to-returns-in-Intersection-clause-up_to
move_to-returns-in-Intersection-clause-up_to g t c = stands_low c.meet.result _ c.meet.ensures.at

pub move_to-returns-in-Union-clause-rest : goal.move_to-returns-in-Union-clause-rest
move_to-returns-in-Union-clause-rest g t c = rw (c.in-Union.is) (union_from g.T.DocSet.went c.args.target c.in-Union.parts.items c.go_to_each.new.parts.items c.go_to_each.ensures.went)

pub move_to-returns-in-Union-clause-depth : goal.move_to-returns-in-Union-clause-depth
move_to-returns-in-Union-clause-depth g t c = rw (c.in-Union.is) (depth_stays (WentTo g.T.DocSet.went c.args.target) (λ o n w. w.depth) c.in-Union.parts.items c.go_to_each.new.parts.items c.go_to_each.ensures.went)

pub move_to-returns-in-Union-clause-work : goal.move_to-returns-in-Union-clause-work
move_to-returns-in-Union-clause-work g t c = rw (c.in-Union.is) (work_under g.T.DocSet.went (WentTo g.T.DocSet.went c.args.target) (λ o n w. w.work) c.in-Union.parts.items c.go_to_each.new.parts.items c.go_to_each.ensures.went)

pub move_to-returns-in-Union-clause-up_to : goal.move_to-returns-in-Union-clause-up_to
move_to-returns-in-Union-clause-up_to g t c = stands_low c.go_to_each.result _ c.go_to_each.ensures.at

pub move_to-returns-in-Without-clause-rest : goal.move_to-returns-in-Without-clause-rest
move_to-returns-in-Without-clause-rest g t c =
    let es = c.in-Without.first.value.rest in
    let fs = c.in-Without.other.value.rest in
    let gone : without c.leave_out.new.first.rest c.leave_out.new.other.rest ≡ without (from_doc c.args.target es) fs = search rules in
    rw (c.in-Without.is) (gone ∙ picked_from (λ (d : ℕ). not (has_doc fs d)) c.args.target es)

pub move_to-returns-in-Without-clause-at : goal.move_to-returns-in-Without-clause-at
move_to-returns-in-Without-clause-at g t c = picked_at (λ (d : ℕ). not (has_doc c.leave_out.new.other.rest d)) c.leave_out.new.first.rest c.leave_out.result c.leave_out.ensures.at c.leave_out.ensures.doc

pub leave_out-returns-then-go_to-doc-clause-at : goal.leave_out-returns-then-go_to-doc-clause-at
leave_out-returns-then-go_to-doc-clause-at g t c =
    let l = c.loop-doc in
    let asked = l.other.rest in
    let told = c.go_to.new.self.rest in
    let h = asked_for l.first.rest asked told l.doc l.invariant.here l.invariant.sound c.loop-doc-test.true (λ low. c.go_to.ensures.rest) (λ low. c.go_to.ensures.sound) in
    let here = c.go_to.ensures.doc in
    let other = c.if-go_to-doc.true in
    record { sound = l.invariant.sound; here = without_at l.first.rest asked told l.doc c.go_to.result h here (λ same. omega (arith, here, other, same)) }

pub leave_out-returns-then-go_to-doc-clause-rest : goal.leave_out-returns-then-go_to-doc-clause-rest
leave_out-returns-then-go_to-doc-clause-rest g t c =
    let l = c.loop-doc in
    let h = asked_for l.first.rest l.other.rest c.go_to.new.self.rest l.doc l.invariant.here l.invariant.sound c.loop-doc-test.true (λ low. c.go_to.ensures.rest) (λ low. c.go_to.ensures.sound) in
    without_asked l.first.rest l.other.rest c.go_to.new.self.rest l.doc h ∙ l.invariant.met

pub leave_out-loop-doc-preserved : goal.leave_out-loop-doc-preserved
leave_out-loop-doc-preserved g t c =
    let l = c.loop-doc in
    let es = l.first.rest in
    let told = c.go_to.new.self.rest in
    let h = asked_for es l.other.rest told l.doc l.invariant.here l.invariant.sound c.loop-doc-test.true (λ low. c.go_to.ensures.rest) (λ low. c.go_to.ensures.sound) in
    let here = l.invariant.here in
    let same : doc_at told ≡ doc_at es = sym c.go_to.ensures.doc ∙ c.if-go_to-doc.false ∙ here in
    let passed : without (drop 1 es) told ≡ without es told = without_found es told (rw (← here) c.loop-doc-test.true) same in
    let next : c.go_to-doc.new.self.rest ≡ drop 1 es = c.go_to-doc.ensures.rest ∙ sym (next_from l.doc es l.invariant.sound.ascending here c.loop-doc-test.true) in
    record {
      here = c.go_to-doc.ensures.doc;
      sound = c.go_to-doc.ensures.sound;
      met = ap (λ (left : List _). without left told) next ∙ passed ∙ without_asked es l.other.rest told l.doc h ∙ l.invariant.met;
      first_depth = c.go_to-doc.ensures.depth ∙ l.invariant.first_depth;
      other_depth = c.go_to.ensures.depth ∙ l.invariant.other_depth;
      first_work = all_went_on g.T.DocSet.went g.met.T.DocSet.went_on c.args.first.now.cursors l.first.cursors c.go_to-doc.new.self.cursors l.invariant.first_work c.go_to-doc.ensures.work;
      other_work = all_went_on g.T.DocSet.went g.met.T.DocSet.went_on c.args.other.now.cursors l.other.cursors c.go_to.new.self.cursors l.invariant.other_work c.go_to.ensures.work;
    }

pub leave_out-returns-clause-at : goal.leave_out-returns-clause-at
leave_out-returns-clause-at g t c =
    let l = c.loop-doc in
    let none = at_end l.first.rest l.doc l.invariant.here l.invariant.sound c.loop-doc-test.false in
    record { sound = l.invariant.sound; here = rw (none) refl }

pub leave_out-returns-clause-up_to : goal.leave_out-returns-clause-up_to
leave_out-returns-clause-up_to g t c =
    let here = c.loop-doc.invariant.here in
    let below = doc_below c.loop-doc.first.rest c.loop-doc.invariant.sound.ascending in
    omega (arith, here, below)

pub move_to-returns-in-Without-clause-work : goal.move_to-returns-in-Without-clause-work
move_to-returns-in-Without-clause-work g t c =
    let gone : AllZip g.T.DocSet.went c.in-Without.first.value.cursors c.go_to-in-Without.new.self.cursors = search rules in
    let left : AllZip g.T.DocSet.went c.go_to-in-Without.new.self.cursors c.leave_out.new.first.cursors = search rules in
    let other : AllZip g.T.DocSet.went c.in-Without.other.value.cursors c.leave_out.new.other.cursors = search rules in
    rw (c.in-Without.is) (all_beside g.T.DocSet.went c.in-Without.first.value.cursors c.in-Without.other.value.cursors c.leave_out.new.first.cursors c.leave_out.new.other.cursors (all_went_on g.T.DocSet.went g.met.T.DocSet.went_on _ _ _ gone left) other)

pub leave_out-loop-doc-init : goal.leave_out-loop-doc-init
leave_out-loop-doc-init g t c = record {
  here = c.current-doc.ensures.doc;
  sound = c.current-doc.ensures.sound;
  met = refl;
  first_depth = refl;
  other_depth = refl;
  first_work = none_went g.T.DocSet.went g.met.T.DocSet.went_nowhere c.args.first.now.cursors;
  other_work = none_went g.T.DocSet.went g.met.T.DocSet.went_nowhere c.args.other.now.cursors;
}

pub leave_out-returns-then-go_to-doc-clause-other_work : goal.leave_out-returns-then-go_to-doc-clause-other_work
leave_out-returns-then-go_to-doc-clause-other_work g t c = all_went_on g.T.DocSet.went g.met.T.DocSet.went_on _ _ _ c.loop-doc.invariant.other_work c.go_to.ensures.work

pub QueryCursor::go_to-returns-clause-depth : goal.QueryCursor::go_to-returns-clause-depth
QueryCursor::go_to-returns-clause-depth g t c = c.go_on.ensures.depth

pub QueryCursor::go_to-returns-clause-doc : goal.QueryCursor::go_to-returns-clause-doc
QueryCursor::go_to-returns-clause-doc g t c = c.go_on.ensures.doc

pub QueryCursor::go_to-returns-clause-rest : goal.QueryCursor::go_to-returns-clause-rest
QueryCursor::go_to-returns-clause-rest g t c = c.go_on.ensures.rest

pub QueryCursor::go_to-returns-clause-sound : goal.QueryCursor::go_to-returns-clause-sound
QueryCursor::go_to-returns-clause-sound g t c = c.go_on.ensures.sound

pub QueryCursor::go_to-returns-clause-up_to : goal.QueryCursor::go_to-returns-clause-up_to
QueryCursor::go_to-returns-clause-up_to g t c = c.go_on.ensures.up_to

pub QueryCursor::go_to-returns-clause-work : goal.QueryCursor::go_to-returns-clause-work
QueryCursor::go_to-returns-clause-work g t c = c.go_on.ensures.work

pub leave_out-returns-clause-first_work : goal.leave_out-returns-clause-first_work
leave_out-returns-clause-first_work g t c = c.loop-doc.invariant.first_work

pub leave_out-returns-clause-other_work : goal.leave_out-returns-clause-other_work
leave_out-returns-clause-other_work g t c = c.loop-doc.invariant.other_work

pub leave_out-returns-then-go_to-doc-clause-first_work : goal.leave_out-returns-then-go_to-doc-clause-first_work
leave_out-returns-then-go_to-doc-clause-first_work g t c = c.loop-doc.invariant.first_work

pub move_to-returns-in-Either-clause-at : goal.move_to-returns-in-Either-clause-at
move_to-returns-in-Either-clause-at g t c =
    rw (c.min.ensures) (either_at c.go_to-one.new.self.rest c.go_to-two.new.self.rest c.go_to-one.result c.go_to-two.result c.go_to-one.ensures.sound c.go_to-two.ensures.sound c.go_to-one.ensures.doc c.go_to-two.ensures.doc)

pub move_to-returns-in-Either-clause-rest : goal.move_to-returns-in-Either-clause-rest
move_to-returns-in-Either-clause-rest g t c =
    let es = c.in-Either.first.value.rest in
    let fs = c.in-Either.other.value.rest in
    let one : c.go_to-one.new.self.rest ≡ from_doc c.args.target es = search rules in
    let two : c.go_to-two.new.self.rest ≡ from_doc c.args.target fs = search rules in
    rw (c.in-Either.is, one, two) (either_from c.args.target es fs)

pub move_to-returns-in-Either-clause-work : goal.move_to-returns-in-Either-clause-work
move_to-returns-in-Either-clause-work g t c =
    let went = g.T.DocSet.went in
    let first : AllZip went c.in-Either.first.value.cursors c.go_to-one.new.self.cursors = search rules in
    let other : AllZip went c.in-Either.other.value.cursors c.go_to-two.new.self.cursors = search rules in
    rw (c.in-Either.is) (all_beside went c.in-Either.first.value.cursors c.in-Either.other.value.cursors c.go_to-one.new.self.cursors c.go_to-two.new.self.cursors first other)
