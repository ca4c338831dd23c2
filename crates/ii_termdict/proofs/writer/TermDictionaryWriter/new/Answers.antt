use Rattle.std.proofs.Common.{refl, arith}
use Rattle.ii_termdict.proofs.ReadBackLemmas.{none_ascend}
use Rattle.ii_termdict.proofs.writer.TermDictionaryWriter.new.Goals as goal

pub invariant_of-result : goal.invariant_of-result
invariant_of-result c = rw (c.new.ensures.items, c.new-2.ensures.items, c.new-3.ensures) (record { joined = refl; places = refl; few = omega arith }, λ e. (refl, none_ascend))
