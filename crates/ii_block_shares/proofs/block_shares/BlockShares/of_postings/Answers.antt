use Rattle.std.proofs.Common.{◌∙◌, ◌-◌, ℕ, ap, arith, max, refl, sym}
use Rattle.ii_block_shares.specs.BlockShares.{last_end, share_of}
use Rattle.ii_block_shares.proofs.ExactRunLemmas.{all_runs, next_run}
use Rattle.ii_block_shares.proofs.RunLemmas.{all_taken, ends_with, last_more, next_each, next_past}
use Rattle.ii_block_shares.proofs.block_shares.BlockShares.of_postings.Goals as goal

pub loop-doc-init : goal.loop-doc-init
loop-doc-init c = rw c.new-blocks.ensures.items (record { doc_is = c.doc-doc.ensures.doc; end = refl; sound = c.doc-doc.ensures.sound; runs = record { runs = refl; rest_is = refl; full = omega arith }; ends = tt; left = λ d has. has; each = λ more left. left; past = λ d more low. refl })

pub loop-doc-preserved : goal.loop-doc-preserved
loop-doc-preserved c =
    let l = c.loop-doc in
    let i = l.invariant in
    let t = c.take_run-block.ensures in
    let next = c.doc-doc-in-loop-doc.ensures.doc in
    record {
      doc_is = next;
      end = c.max-end.ensures ∙ ap (λ (n : ℕ). max n c.take_run-block.result.end) i.end ∙ sym (ap last_end c.in_ok-push.ensures.items ∙ last_more l.blocks.items c.take_run-block.result);
      sound = t.sound;
      runs =
          let low = c.loop-doc-test.true in
          let at = i.doc_is in
          next_run (share_of c.args.weight.now c.args.norms.now) l.blocks.items c.push.new.self.items c.take_run-block.result c.args.cursor.now.rest l.cursor.rest c.take_run-block.new.cursor.rest c.in_ok-push.ensures.items t.is t.rest (omega (arith, at, low)) i.runs;
      ends = ends_with l.blocks.items c.push.new.self.items c.take_run-block.result c.args.cursor.now.rest c.in_ok-push.ensures.items i.ends (i.left (c.take_run-block.result.end - 1) t.last);
      left = λ d has. i.left d (t.left d has);
      each = next_each c.args.weight.now c.args.norms.now l.blocks.items c.push.new.self.items c.take_run-block.result l.doc l.cursor.rest c.take_run-block.new.cursor.rest c.in_ok-push.ensures.items i.doc_is t i.past c.args.cursor.now.rest i.each;
      past = λ d more low. next_past c.args.weight.now c.args.norms.now l.blocks.items c.push.new.self.items c.take_run-block.result l.doc l.cursor.rest c.take_run-block.new.cursor.rest c.in_ok-push.ensures.items i.doc_is t i.past d more (omega (arith, next, low));
    }

pub returns-clause-bounds : goal.returns-clause-bounds
returns-clause-bounds c =
    let l = c.loop-doc in
    let i = l.invariant in
    let over = c.loop-doc-test.false in
    let at = i.doc_is in
    all_taken c.args.weight.now c.args.norms.now l.blocks.items c.args.cursor.now.rest l.cursor.rest i.sound.ascending (omega (arith, at, over)) i.each

pub returns-clause-runs : goal.returns-clause-runs
returns-clause-runs c =
    let l = c.loop-doc in
    let i = l.invariant in
    let over = c.loop-doc-test.false in
    let at = i.doc_is in
    all_runs (share_of c.args.weight.now c.args.norms.now) l.blocks.items c.args.cursor.now.rest l.cursor.rest i.sound.ascending (omega (arith, at, over)) i.runs

pub returns-clause-ends : goal.returns-clause-ends
returns-clause-ends c = c.loop-doc.invariant.ends
