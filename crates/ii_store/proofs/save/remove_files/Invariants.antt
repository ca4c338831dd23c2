use Rattle.std.proofs.Common.{None}
use Rattle.ii_store.proofs.SaveLaws.{IsFilling}
use Rattle.ii_store.proofs.save.remove_files.Given as goal

-- the kinds below the number were filled in, and the directory still obeys
abbrev pub invariant-loop-number : goal.invariant-loop-number
invariant-loop-number g l =
    let d = g.D.Directory in
    (d.may_refuse l.directory → d.may_refuse l.fn.directory) × (d.is_known l.fn.directory → IsFilling d.moment d.left_since d.is_known d.seen l.slot (λ kind. None) l.fn.directory l.directory l.number)
