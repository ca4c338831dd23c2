use Rattle.std.proofs.Common.{◌≡◌, None, ap, ◌∙◌}
use Rattle.ii_directory.specs.declared.name.Name.TheVariants.{Meta, NewMeta}
use Rattle.ii_directory.specs.Directory.{Elsewhere, IsPut}
use Rattle.ii_directory.specs.Names.{other_slot}
use Rattle.ii_store.specs.Index.{index_of, used_slot}
use Rattle.ii_store.specs.Save.{HasNoUnused, IsOutside, KeepsUsed}
use Rattle.ii_directory.proofs.Elapsing.{at_ok, elapses_then}
use Rattle.ii_store.proofs.SaveLaws.{all_removed, kept_beside, outside_leaves_same, outside_new_meta, outside_then, same_outside}
use Rattle.ii_store.proofs.save.remove_unused.Goals as goal

pub returns-clause-removed : goal.returns-clause-removed
returns-clause-removed g c = λ known.
    let d = g.D.Directory in
    let mid = d.seen c.remove_files.new.directory in
    let new = d.seen c.remove.new.self in
    let free : c.other-unused.result ≡ other_slot (used_slot (d.seen c.args.directory.now Meta)) = c.other-unused.ensures ∙ ap other_slot (c.in_ok-slot_in_use.ensures.used known) in
    let known_1 = c.in_ok-remove_files.ensures.known known in
    at_ok (IsPut NewMeta None mid new) (HasNoUnused (used_slot (d.seen c.args.directory.now Meta)) new) c.remove.result
    (λ put. all_removed c.other-unused.result (used_slot (d.seen c.args.directory.now Meta)) free mid new (c.in_ok-remove_files.ensures.removed known) put) (c.remove.ensures.removed known_1)

pub returns-clause-keeps : goal.returns-clause-keeps
returns-clause-keeps g c = λ known.
    let d = g.D.Directory in
    let old = d.seen c.args.directory.now in
    let mid = d.seen c.remove_files.new.directory in
    let new = d.seen c.remove.new.self in
    let free : c.other-unused.result ≡ other_slot (used_slot (old Meta)) = c.other-unused.ensures ∙ ap other_slot (c.in_ok-slot_in_use.ensures.used known) in
    let known_1 = c.in_ok-remove_files.ensures.known known in
    at_ok (IsPut NewMeta None mid new) (KeepsUsed (used_slot (old Meta)) old new) c.remove.result
    (λ put. kept_beside c.other-unused.result (used_slot (old Meta)) free old mid new (c.in_ok-remove_files.ensures.keeps known) put) (c.remove.ensures.removed known_1)

pub returns-clause-same : goal.returns-clause-same
returns-clause-same g c = λ known.
    let d = g.D.Directory in
    let old = c.args.directory.now in
    let mid = c.remove_files.new.directory in
    let new = c.remove.new.self in
    let slot = c.other-unused.result in
    let free : slot ≡ other_slot (used_slot (d.seen old Meta)) = c.other-unused.ensures ∙ ap other_slot (c.in_ok-slot_in_use.ensures.used known) in
    let outside = c.in_ok-remove_files.ensures.outside known in
    at_ok (IsPut NewMeta None (d.seen mid) (d.seen new)) (index_of (d.seen new) ≡ index_of (d.seen old)) c.remove.result
    (λ put. same_outside d.moment d.left_since d.seen old (λ f left. g.met.D.Directory.only_now old f known left) slot free new
    (outside_then slot (d.seen old) (d.seen mid) (d.seen new) outside (outside_new_meta slot (d.seen mid) (d.seen new) put.elsewhere)))
    (c.remove.ensures.removed (c.in_ok-remove_files.ensures.known known))

pub returns-in_err-remove_files-clause-leaves_same : goal.returns-in_err-remove_files-clause-leaves_same
returns-in_err-remove_files-clause-leaves_same g c = λ known.
    let d = g.D.Directory in
    let old = c.args.directory.now in
    let free : c.other-unused.result ≡ other_slot (used_slot (d.seen old Meta)) = c.other-unused.ensures ∙ ap other_slot (c.in_ok-slot_in_use.ensures.used known) in
    outside_leaves_same d.moment d.left_since d.seen old (λ f left. g.met.D.Directory.only_now old f known left) c.other-unused.result free c.remove_files.new.directory (c.remove_files.ensures.time known)

pub returns-clause-leaves_same : goal.returns-clause-leaves_same
returns-clause-leaves_same g c = λ known.
    let d = g.D.Directory in
    let old = c.args.directory.now in
    let mid = c.remove_files.new.directory in
    let slot = c.other-unused.result in
    let free : slot ≡ other_slot (used_slot (d.seen old Meta)) = c.other-unused.ensures ∙ ap other_slot (c.in_ok-slot_in_use.ensures.used known) in
    outside_leaves_same d.moment d.left_since d.seen old (λ f left. g.met.D.Directory.only_now old f known left) slot free c.remove.new.self
    (elapses_then d.moment d.left_since old mid c.remove.new.self (IsOutside slot (d.seen old)) (Elsewhere NewMeta (d.seen mid)) (c.remove_files.ensures.time known)
    (c.remove.ensures.time (c.in_ok-remove_files.ensures.known known))
    (λ f elsewhere. outside_then slot (d.seen old) (d.seen mid) f (c.in_ok-remove_files.ensures.outside known) (outside_new_meta slot (d.seen mid) f elsewhere)))
