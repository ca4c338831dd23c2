use Rattle.std.proofs.Common.{◌≡◌, length, ap, sym, ◌∙◌}
use Rattle.ii_alive.proofs.StateLemmas.{length_of_view, select_starts, selected}
use Rattle.ii_alive.proofs.alive_bits.AliveBits.select.Goals as goal

pub loop-high-init : goal.loop-high-init
loop-high-init c =
    let s = c.self.inside in
    let size : s.num_docs ≡ length c.args.self.now = sym (length_of_view s.num_docs s.words.items c.self.invariant.flags) ∙ ap length c.self.view_is in
    select_starts c.args.self.now c.args.n s.num_docs size c.requires

pub returns-clause-alive : goal.returns-clause-alive
returns-clause-alive c =
    let found = c.loop-high.invariant in
    (selected c.args.self.now c.loop-high.low c.loop-high.high c.args.n found.0 c.loop-high-test.false found.1 found.2 found.3).0

pub returns-clause-rank : goal.returns-clause-rank
returns-clause-rank c =
    let found = c.loop-high.invariant in
    (selected c.args.self.now c.loop-high.low c.loop-high.high c.args.n found.0 c.loop-high-test.false found.1 found.2 found.3).1
