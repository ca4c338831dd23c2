use Rattle.std.proofs.Common.{◌*◌, refl}
use Rattle.std.proofs.lemmas.List.{take_rest}
use Rattle.ii_codes.proofs.WindowLemmas.{group_entry}
use Rattle.ii_codes.proofs.packed.entry_of.Goals as goal

pub returns : goal.returns
returns c =
    group_entry c.args.bytes.now c.args.group c.args.i c.args.width (c.args.i * c.args.width) c.window-window.result refl (rw take_rest at c.window-window.ensures) c.requires.narrow
