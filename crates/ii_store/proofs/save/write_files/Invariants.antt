use Rattle.std.proofs.Common.{Some}
use Rattle.ii_store.specs.Index.{bytes_of_file, view}
use Rattle.ii_store.proofs.SaveLaws.{IsFilling}
use Rattle.ii_store.proofs.save.write_files.Given as goal

-- the kinds below the number were filled in, and the directory still obeys
abbrev pub invariant-loop-number : goal.invariant-loop-number
invariant-loop-number g l =
    let d = g.D.Directory in
    (d.may_refuse l.directory → d.may_refuse l.fn.directory) × (d.is_known l.fn.directory → IsFilling d.moment d.left_since d.is_known d.seen l.slot (λ kind. Some (bytes_of_file (view l.index) kind)) l.fn.directory l.directory l.number)
