use Rattle.std.proofs.Common.{ap, sym, ◌∙◌}
use Rattle.ii_alive.specs.Alive.{num_living}
use Rattle.ii_alive.proofs.StateLemmas.{living_of_view}
use Rattle.ii_alive.proofs.alive_bits.AliveBits.num_living.Goals as goal

pub returns : goal.returns
returns c =
    c.self.invariant.total
    ∙ sym (living_of_view c.self.inside.num_docs c.self.inside.words.items c.self.invariant.flags)
    ∙ ap num_living c.self.view_is
