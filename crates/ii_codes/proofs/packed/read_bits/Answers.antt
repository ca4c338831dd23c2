use Rattle.std.proofs.Common.{◌/◌, drop, refl}
use Rattle.std.proofs.lemmas.List.{take_rest}
use Rattle.ii_codes.proofs.WindowLemmas.{read_window}
use Rattle.ii_codes.proofs.packed.read_bits.Goals as goal

pub returns : goal.returns
returns c = read_window c.args.bytes.now (drop (c.args.place / 8) c.args.bytes.now) c.args.place c.args.width c.window_or_less-window.result refl (rw take_rest at c.window_or_less-window.ensures) c.requires.narrow
