use Rattle.std.proofs.Common.{◌≡◌, Some, ap, subst, ◌∙◌}
use Rattle.ii_directory.specs.declared.name.Name.TheVariants.{Meta, NewMeta}
use Rattle.ii_directory.specs.Directory.{IsPut, IsRenamed}
use Rattle.ii_store.specs.Index.{meta_file, used_slot, view}
use Rattle.ii_directory.specs.Names.{other_slot}
use Rattle.ii_store.specs.Save.{HoldsIndex}
use Rattle.ii_directory.proofs.Elapsing.{at_ok}
use Rattle.ii_store.proofs.SaveLaws.{files_leave, is_ready, leaves_none, meta_leaves, rename_leaves, renamed_is_new}
use Rattle.ii_store.proofs.save.save.Goals as goal

pub returns-in_err-slot_in_use-clause-leaves_one : goal.returns-in_err-slot_in_use-clause-leaves_one
returns-in_err-slot_in_use-clause-leaves_one g c = λ known.
    let d = g.D.Directory in
    leaves_none d.moment d.left_since d.seen c.args.directory.now (λ f left. g.met.D.Directory.only_now c.args.directory.now f known left) (view c.args.index.now)

pub returns-in_err-meta-clause-leaves_one : goal.returns-in_err-meta-clause-leaves_one
returns-in_err-meta-clause-leaves_one g c = λ known.
    let d = g.D.Directory in
    leaves_none d.moment d.left_since d.seen c.args.directory.now (λ f left. g.met.D.Directory.only_now c.args.directory.now f known left) (view c.args.index.now)

pub returns-in_err-write_files-clause-leaves_one : goal.returns-in_err-write_files-clause-leaves_one
returns-in_err-write_files-clause-leaves_one g c = λ known.
    let d = g.D.Directory in
    let free : c.other-slot.result ≡ other_slot (used_slot (d.seen c.args.directory.now Meta)) = c.other-slot.ensures ∙ ap other_slot (c.in_ok-slot_in_use.ensures.used known) in
    files_leave d.moment d.left_since d.seen c.args.directory.now (λ f left. g.met.D.Directory.only_now c.args.directory.now f known left) c.other-slot.result free (view c.args.index.now)
    c.write_files.new.directory (c.write_files.ensures.time known)

pub returns-in_err-write-clause-leaves_one : goal.returns-in_err-write-clause-leaves_one
returns-in_err-write-clause-leaves_one g c = λ known.
    let d = g.D.Directory in
    let free : c.other-slot.result ≡ other_slot (used_slot (d.seen c.args.directory.now Meta)) = c.other-slot.ensures ∙ ap other_slot (c.in_ok-slot_in_use.ensures.used known) in
    meta_leaves d.moment d.left_since d.seen c.args.directory.now (λ f left. g.met.D.Directory.only_now c.args.directory.now f known left) c.other-slot.result free (view c.args.index.now)
    c.write_files.new.directory (c.write_files.ensures.time known) c.write.new.self (c.in_ok-write_files.ensures.outside known) (c.write.ensures.time (c.in_ok-write_files.ensures.known known))

pub returns-clause-saved : goal.returns-clause-saved
returns-clause-saved g c = λ known.
    let d = g.D.Directory in
    let i = view c.args.index.now in
    let slot = c.other-slot.result in
    let free : slot ≡ other_slot (used_slot (d.seen c.args.directory.now Meta)) = c.other-slot.ensures ∙ ap other_slot (c.in_ok-slot_in_use.ensures.used known) in
    let known_1 = c.in_ok-write_files.ensures.known known in
    let known_2 = c.in_ok-write.ensures.known known_1 in
    let bytes : c.as_slice.result.now ≡ meta_file slot i = c.as_slice.ensures.value ∙ c.in_ok-meta.ensures.bytes in
    let put = subst (λ b. IsPut NewMeta (Some b) (d.seen c.write_files.new.directory) (d.seen c.write.new.self)) bytes (c.in_ok-write.ensures.written known_1) in
    let ready = is_ready slot i (d.seen c.args.directory.now) (d.seen c.write_files.new.directory) (d.seen c.write.new.self) free c.in_ok-meta.ensures.small
    (c.in_ok-write_files.ensures.outside known) (c.in_ok-write_files.ensures.written known) put in
    at_ok (IsRenamed NewMeta Meta (d.seen c.write.new.self) (d.seen c.rename.new.self)) (HoldsIndex i (d.seen c.rename.new.self)) c.rename.result
    (λ renamed. renamed_is_new slot i (d.seen c.args.directory.now) (d.seen c.write.new.self) (d.seen c.rename.new.self) ready renamed) (c.rename.ensures.renamed known_2)

pub returns-clause-leaves_one : goal.returns-clause-leaves_one
returns-clause-leaves_one g c = λ known.
    let d = g.D.Directory in
    let i = view c.args.index.now in
    let slot = c.other-slot.result in
    let free : slot ≡ other_slot (used_slot (d.seen c.args.directory.now Meta)) = c.other-slot.ensures ∙ ap other_slot (c.in_ok-slot_in_use.ensures.used known) in
    let known_1 = c.in_ok-write_files.ensures.known known in
    let known_2 = c.in_ok-write.ensures.known known_1 in
    let bytes : c.as_slice.result.now ≡ meta_file slot i = c.as_slice.ensures.value ∙ c.in_ok-meta.ensures.bytes in
    let put = subst (λ b. IsPut NewMeta (Some b) (d.seen c.write_files.new.directory) (d.seen c.write.new.self)) bytes (c.in_ok-write.ensures.written known_1) in
    let ready = is_ready slot i (d.seen c.args.directory.now) (d.seen c.write_files.new.directory) (d.seen c.write.new.self) free c.in_ok-meta.ensures.small
    (c.in_ok-write_files.ensures.outside known) (c.in_ok-write_files.ensures.written known) put in
    rename_leaves d.moment d.left_since d.seen c.args.directory.now (λ f left. g.met.D.Directory.only_now c.args.directory.now f known left) slot free i
    c.write_files.new.directory (c.write_files.ensures.time known) c.write.new.self (c.in_ok-write_files.ensures.outside known) (c.write.ensures.time known_1)
    c.rename.new.self ready (c.rename.ensures.time known_2)
