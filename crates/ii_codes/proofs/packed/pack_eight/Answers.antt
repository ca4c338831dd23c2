use Rattle.std.proofs.Common.{◌≡◌, ◌+◌, ◌*◌, arith, refl}
use Rattle.ii_codes.proofs.PackLemmas.{adding-fits, adding-waits, adding-written}
use Rattle.ii_codes.proofs.packed.pack_eight.Goals as goal

pub overflow_add-word : goal.overflow_add-word
overflow_add-word g c =
    let fits = adding-fits g.row.W c.args.group c.loop-i.i c.loop-i.word c.from.result _ c.args.entries.now c.loop-i.output (record { before = c.loop-i.invariant; narrow = c.requires.narrow; entry = c.from.ensures; added = refl }) in
    omega arith

pub loop-i-preserved-then-bits-lt32 : goal.loop-i-preserved-then-bits-lt32
loop-i-preserved-then-bits-lt32 g c =
    let next : 32 * c.args.group + (c.loop-i.i + 1) ≡ 32 * c.args.group + c.loop-i.i + 1 = omega arith in
    rw next (adding-waits g.row.W c.args.group c.loop-i.i c.loop-i.word c.from.result _ c.args.entries.now c.loop-i.output (record { before = c.loop-i.invariant; narrow = c.requires.narrow; entry = c.from.ensures; added = refl }) (omega arith))

pub loop-i-preserved : goal.loop-i-preserved
loop-i-preserved g c =
    let next : 32 * c.args.group + (c.loop-i.i + 1) ≡ 32 * c.args.group + c.loop-i.i + 1 = omega arith in
    rw next (adding-written g.row.W c.args.group c.loop-i.i c.loop-i.word c.from.result _ c.args.entries.now c.loop-i.output c.put_word.new.output
    (record { before = c.loop-i.invariant; narrow = c.requires.narrow; entry = c.from.ensures; added = refl }) (omega arith) c.put_word.ensures)
