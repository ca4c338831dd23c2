use Rattle.std.proofs.Common.{◌≡◌, ℕ, List, length, ◌∙◌, arith, rules}
use Rattle.ii_layout.specs.Written.{block_of}
use Rattle.ii_layout.proofs.PositionLemmas.{block_few, keeps_all, keeps_more, reads_more, starts_within}
use Rattle.ii_layout.proofs.positions.reader.PositionReader.read.Goals as goal

held_at : {held deltas other all : List ℕ} {block at : ℕ} → held ≡ block_of deltas at → deltas ≡ other → other ≡ all → at ≡ block → held ≡ block_of all block
held_at h d e b = h ∙ (λ j. block_of ((d ∙ e) j) (b j))

pub copy_into-done-requires-clause-start : goal.copy_into-done-requires-clause-start
copy_into-done-requires-clause-start c =
    let held = held_at c.held.ensures.held c.load.ensures.deltas c.loop-done.invariant.0 c.load.ensures.block in
    let within = starts_within c.args.self.now.deltas c.held.result.now c.loop-done.output c.args.self.now.decodes c.args.offset (length c.loop-done.output) c.loop-done.self-inside.blocks.decodes
    c.loop-done.block c.loop-done.start c.loop-done.done c.loop-done.invariant.1 (omega arith) held
    in
    omega arith

pub loop-done-smaller : goal.loop-done-smaller
loop-done-smaller c =
    let held = held_at c.held.ensures.held c.load.ensures.deltas c.loop-done.invariant.0 c.load.ensures.block in
    let within = starts_within c.args.self.now.deltas c.held.result.now c.loop-done.output c.args.self.now.decodes c.args.offset (length c.loop-done.output) c.loop-done.self-inside.blocks.decodes
    c.loop-done.block c.loop-done.start c.loop-done.done c.loop-done.invariant.1 (omega arith) held
    in
    omega (arith, c.copy_into-done.ensures.count)

pub loop-done-preserved : goal.loop-done-preserved
loop-done-preserved c =
    let held = held_at c.held.ensures.held c.load.ensures.deltas c.loop-done.invariant.0 c.load.ensures.block in
    let more = reads_more c.args.self.now.deltas c.held.result.now c.loop-done.output c.copy_into-done.new.output c.args.self.now.decodes c.args.offset (length c.loop-done.output) c.loop-done.self-inside.blocks.decodes
    c.load.new.self.decodes c.loop-done.block c.loop-done.start c.loop-done.done c.copy_into-done.result c.loop-done.invariant.1 (omega arith) held c.copy_into-done.ensures.count c.copy_into-done.ensures.copied
    c.load.ensures.decodes c.load.ensures.rises
    in
    let same : length c.copy_into-done.new.output ≡ length c.loop-done.output = omega arith in
    let within = starts_within c.args.self.now.deltas c.held.result.now c.loop-done.output c.args.self.now.decodes c.args.offset (length c.loop-done.output) c.loop-done.self-inside.blocks.decodes
    c.loop-done.block c.loop-done.start c.loop-done.done c.loop-done.invariant.1 (omega arith) held
    in
    let keeps = keeps_more c.args.self.now.block c.args.self.now.decodes c.loop-done.self-inside.blocks.block c.loop-done.self-inside.blocks.decodes c.args.offset (length c.loop-done.output)
    c.loop-done.block c.loop-done.start c.loop-done.done c.load.new.self.block c.load.new.self.decodes c.copy_into-done.result (length c.held.result.now) c.loop-done.invariant.2
    (c.loop-done.invariant.1.place (omega arith)) c.loop-done.invariant.1.low (omega arith) c.load.ensures.block c.load.ensures.kept c.load.ensures.decodes c.copy_into-done.ensures.count within
    (block_few c.args.self.now.deltas c.held.result.now c.loop-done.block held)
    in
    (c.load.ensures.deltas ∙ c.loop-done.invariant.0, rw same more, rw same keeps)

pub returns-clause-block : goal.returns-clause-block
returns-clause-block c =
    let r = c.loop-done.invariant.1 in
    let some = r.some in
    keeps_all c.args.self.now.block c.args.self.now.decodes c.loop-done.self-inside.blocks.block c.loop-done.self-inside.blocks.decodes c.args.offset (length c.args.output.now) c.loop-done.done
    (search rules) (omega arith) (omega arith)

pub returns-clause-once : goal.returns-clause-once
returns-clause-once c =
    let r = c.loop-done.invariant.1 in
    let some = r.some in
    let keeps = c.loop-done.invariant.2 in
    let counted : length c.args.output.now ≡ c.loop-done.done = omega arith in
    record {
      once = λ on. keeps.once (omega arith);
      forward = λ order. keeps.forward order;
    }
