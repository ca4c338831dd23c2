use Rattle.std.proofs.Common.{◌-◌, length, ◌∙◌}
use Rattle.ii_codes.proofs.WindowLemmas.{bits_in-padded}
use Rattle.ii_codes.proofs.packed.window_or_less.Goals as goal

pub returns : goal.returns
returns c = rw c.padded.ensures at c.window-2.ensures ∙ bits_in-padded c.args.bytes.now (8 - length c.args.bytes.now) 0 64
