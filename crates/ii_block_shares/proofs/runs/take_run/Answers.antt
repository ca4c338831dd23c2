use Rattle.std.proofs.Common.{◌<◌, ◌≤◌, ◌≡◌, ◌⊎◌, ◌+◌, ◌-◌, ℕ, arith, inl, inr, refl, subst, true}
use Rattle.ii_base.specs.declared.doc_id.TheConstants.{TERMINATED}
use Rattle.ii_docset.specs.Cursor.{doc_at}
use Rattle.ii_docset.specs.Intersection.{has_doc}
use Rattle.ii_block_shares.specs.BlockShares.{share_bound, share_of}
use Rattle.ii_block_shares.proofs.ExactRunLemmas.{run_is, takes_all, takes_more}
use Rattle.ii_block_shares.proofs.RunLemmas.{ascends, has_first, has_later, less_one, takes_one}
use Rattle.ii_block_shares.proofs.runs.take_run.Goals as goal
use Rattle.ii_block_shares.proofs.runs.take_run.Goals.{else-loop-left-test, then-loop-left-test+else-doc-lt-TERMINATED}

pub loop-left-init : goal.loop-left-init
loop-left-init c =
    let low = c.requires in
    let at = c.doc-end.ensures.doc in
    let old = c.args.cursor.now.rest in
    let new = c.advance-doc.new.self.rest in
    let next = c.advance-doc.ensures.doc in
    let rest = c.advance-doc.ensures.rest in
    let later : doc_at old < doc_at new = rw rest (ascends old c.doc-end.ensures.sound.ascending low) in
    record {
      doc_is = next;
      sound = c.advance-doc.ensures.sound;
      ahead = omega (arith, at);
      up_to = omega (arith, at, next, later);
      few = c.share_here-greatest.ensures.below;
      within = omega arith;
      takes = takes_more (share_of c.args.weight.now c.args.norms.now) 0 0 0 old old (record { greatest_is = refl; end_is = refl; rest_is = refl }) low (omega arith)
          1 c.share_here-greatest.result (c.doc-end.result + 1) c.share_here-greatest.result new (omega arith) rest c.share_here-greatest.ensures.value (omega arith) (omega (arith, at));
      last = subst (λ (d : ℕ). has_doc old d ≡ true) (less_one c.doc-end.result) (has_first c.doc-end.result old at (omega (arith, at, low)));
      left = λ d has. has_later d old new rest has;
      each = λ bound blocks enough here more.
          takes_one c.args.weight.now c.args.norms.now c.doc-end.result c.share_here-greatest.result old new at (omega (arith, at, low)) rest c.share_here-greatest.ensures.value bound blocks enough (here c.doc-end.result (omega (arith, at)) (omega arith)) more;
    }

pub loop-left-preserved : goal.loop-left-preserved
loop-left-preserved c =
    let l = c.loop-left in
    let i = l.invariant in
    let low = c.if-doc-lt-TERMINATED.true in
    let at = i.doc_is in
    let ahead = i.ahead in
    let up_to = i.up_to in
    let next = c.advance-doc-in-loop-left.ensures.doc in
    let rest = c.advance-doc-in-loop-left.ensures.rest in
    let later : doc_at l.cursor.rest < doc_at c.advance-doc-in-loop-left.new.self.rest = rw rest (ascends l.cursor.rest i.sound.ascending (omega (arith, at, low))) in
    let most = c.max-greatest.ensures in
    record {
      doc_is = next;
      sound = c.advance-doc-in-loop-left.ensures.sound;
      ahead = omega (arith, ahead, up_to);
      up_to = omega (arith, at, next, later);
      last = subst (λ (d : ℕ). has_doc c.args.cursor.now.rest d ≡ true) (less_one l.doc) (i.left l.doc (has_first l.doc l.cursor.rest at low));
      left = λ d has. i.left d (has_later d l.cursor.rest c.advance-doc-in-loop-left.new.self.rest rest has);
      within = let within = i.within in omega (arith, within);
      takes =
          let within = i.within in
          let more = c.loop-left-test.true in
          takes_more (share_of c.args.weight.now c.args.norms.now) (128 - l.left) l.greatest l.end c.args.cursor.now.rest l.cursor.rest i.takes (omega (arith, at, low)) (omega (arith, at, up_to))
          (128 - (l.left - 1)) c.max-greatest.result (l.doc + 1) c.share_here.result c.advance-doc-in-loop-left.new.self.rest (omega (arith, within, more)) rest c.share_here.ensures.value most (omega (arith, at));
      few = let few = i.few in let below = c.share_here.ensures.below in omega (arith, few, below, most);
      each = λ bound blocks enough here left.
          i.each bound blocks (omega (arith, most, enough)) (λ d from before. here d from (omega (arith, before, up_to)))
          (takes_one c.args.weight.now c.args.norms.now l.doc c.share_here.result l.cursor.rest c.advance-doc-in-loop-left.new.self.rest at low rest c.share_here.ensures.value bound blocks (omega (arith, most, enough)) (here l.doc (omega (arith, ahead, up_to)) (omega arith)) left);
    }

pub returns : goal.returns
returns c =
    let l = c.loop-left in
    let i = l.invariant in
    let over : (128 ≤ 128 - l.left) ⊎ (TERMINATED ≤ doc_at l.cursor.rest) = elim c.loop-left-test.branch [ then-loop-left-test+else-doc-lt-TERMINATED w ↦ inr (omega (arith, i.doc_is, w.if-doc-lt-TERMINATED.false)) | else-loop-left-test w ↦ inl (omega (arith, w.loop-left-test.false)) ] in
    let all = takes_all (128 - l.left) c.args.cursor.now.rest l.cursor.rest (omega arith) i.takes.rest_is i.sound.ascending over in
    let at = i.doc_is in
    let up_to = i.up_to in
    record {
      ahead = i.ahead;
      up_to = omega (arith, at, up_to);
      sound = i.sound;
      last = i.last;
      left = i.left;
      is = run_is (share_of c.args.weight.now c.args.norms.now) (128 - l.left) l.greatest l.end c.rounded_up.result c.args.cursor.now.rest l.cursor.rest i.takes c.rounded_up.ensures.value all.0;
      rest = all.1;
      each = λ blocks here left. i.each (share_bound c.rounded_up.result) blocks c.rounded_up.ensures.covers here left;
    }
