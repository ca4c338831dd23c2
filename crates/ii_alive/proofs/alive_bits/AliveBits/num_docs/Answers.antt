use Rattle.std.proofs.Common.{length, ap, sym, ◌∙◌}
use Rattle.ii_alive.proofs.StateLemmas.{length_of_view}
use Rattle.ii_alive.proofs.alive_bits.AliveBits.num_docs.Goals as goal

pub returns : goal.returns
returns c = sym (length_of_view c.self.inside.num_docs c.self.inside.words.items c.self.invariant.flags) ∙ ap length c.self.view_is
