use Rattle.std.proofs.Common.{◌≡◌, ◌+◌, ◌<◌, ◌∙◌, length, refl, rules, arith}
use Rattle.ii_base.specs.declared.doc_id.TheConstants.{TERMINATED}
use Rattle.ii_docset.specs.Cursor.{doc_at}
use Rattle.ii_docset.proofs.CursorLemmas.{doc_below, length_step}
use Rattle.ii_docset.proofs.BufferLemmas.{filled_more, left_more, more_left, none_left, filled_all, nothing_after, filled_64}
use Rattle.ii_docset.proofs.docset.DocSet.fill_buffer.Goals as goal

pub returns-then-advance-eq-TERMINATED : goal.returns-then-advance-eq-TERMINATED
returns-then-advance-eq-TERMINATED g c =
    let all = g.Self.DocSet.rest c.args.self.now in
    let left = c.loop-i.invariant.left in
    let next = c.advance.ensures.rest in
    let many : length all ≡ c.loop-i.i + 1 = none_left _ _ _ _ _ left next c.advance.ensures.doc c.if-advance-eq-TERMINATED.true c.advance.ensures.sound c.loop-i.invariant.more in
    record {
      count = omega (arith, many);
      filled = filled_all _ _ _ _ many (omega arith) (filled_more _ _ _ _ _ _ left c.doc-in-loop-i.ensures.doc c.loop-i.invariant.more (omega arith) c.loop-i.invariant.filled);
      rest = nothing_after _ _ _ _ left next many (omega arith);
      sound = c.advance.ensures.sound;
      kind = c.advance.ensures.kind ∙ c.loop-i.invariant.kind;
      work = g.met.Self.DocSet.went_on _ _ _ c.loop-i.invariant.work c.advance.ensures.work;
    }

pub loop-i-preserved : goal.loop-i-preserved
loop-i-preserved g c =
    let left = c.loop-i.invariant.left in
    let next = c.advance.ensures.rest in
    record {
      left = left_more (g.Self.DocSet.rest c.args.self.now) _ _ c.loop-i.i left next;
      more = more_left _ _ _ _ _ left next c.advance.ensures.doc c.if-advance-eq-TERMINATED.false;
      sound = c.advance.ensures.sound;
      filled = filled_more _ _ _ _ _ _ left c.doc-in-loop-i.ensures.doc c.loop-i.invariant.more (omega arith) c.loop-i.invariant.filled;
      size = c.loop-i.invariant.size;
      kind = c.advance.ensures.kind ∙ c.loop-i.invariant.kind;
      work = g.met.Self.DocSet.went_on _ _ _ c.loop-i.invariant.work c.advance.ensures.work;
    }

pub returns-clause-filled : goal.returns-clause-filled
returns-clause-filled g c = filled_64 _ _ _ _ (omega arith) c.loop-i.invariant.more c.loop-i.invariant.size c.loop-i.invariant.filled

pub loop-i-init : goal.loop-i-init
loop-i-init g c =
    let all = g.Self.DocSet.rest c.args.self.now in
    let here = c.doc.ensures.doc in
    let low : doc_at all < TERMINATED = omega (arith, doc_below all c.doc.ensures.sound.ascending) in
    record {
      left = refl;
      more = omega (arith, length_step all low);
      sound = c.doc.ensures.sound;
      filled = refl;
      size = search rules;
      kind = refl;
      work = g.met.Self.DocSet.went_nowhere _;
    }
