use Rattle.std.proofs.Common.{◌≡◌, Ok, Some, subst, ◌∙◌}
use Rattle.ii_directory.specs.declared.name.Name.TheVariants.{Meta, NewMeta}
use Rattle.ii_directory.specs.Directory.{IsPut, IsRenamed}
use Rattle.ii_store.specs.IndexMeta.{meta_bytes, meta_view}
use Rattle.ii_store.specs.Segments.{KeepsOtherFiles, list_in}
use Rattle.ii_store.proofs.CommitLaws.{renamed_keeps, renamed_list, replaced_none, replaced_renamed, replaced_written}
use Rattle.ii_directory.proofs.Elapsing.{at_ok}
use Rattle.ii_store.proofs.segments.replace_list.Goals as goal

pub returns-in_err-meta-clause-time : goal.returns-in_err-meta-clause-time
returns-in_err-meta-clause-time g c = λ known.
    let d = g.D.Directory in
    replaced_none d.moment d.left_since d.seen c.args.directory.now (meta_view c.args.new.now)

pub returns-in_err-write-clause-time : goal.returns-in_err-write-clause-time
returns-in_err-write-clause-time g c = λ known.
    let d = g.D.Directory in
    replaced_written d.moment d.left_since d.seen c.args.directory.now (meta_view c.args.new.now) c.write.new.self (c.write.ensures.time known)

pub returns-clause-listed : goal.returns-clause-listed
returns-clause-listed g c = λ known.
    let d = g.D.Directory in
    let m = meta_view c.args.new.now in
    let old = d.seen c.args.directory.now in
    let ready = d.seen c.write.new.self in
    let new = d.seen c.rename.new.self in
    let bytes : c.as_slice.result.now ≡ meta_bytes m = c.as_slice.ensures.value ∙ c.in_ok-meta.ensures in
    let put = subst (λ b. IsPut NewMeta (Some b) old ready) bytes (c.in_ok-write.ensures.written known) in
    at_ok (IsRenamed NewMeta Meta ready new) (list_in (new Meta) ≡ Ok m) c.rename.result (renamed_list m c.requires.valid old ready put new) (c.rename.ensures.renamed (c.in_ok-write.ensures.known known))

pub returns-clause-keeps : goal.returns-clause-keeps
returns-clause-keeps g c = λ known.
    let d = g.D.Directory in
    let m = meta_view c.args.new.now in
    let old = d.seen c.args.directory.now in
    let ready = d.seen c.write.new.self in
    let new = d.seen c.rename.new.self in
    let bytes : c.as_slice.result.now ≡ meta_bytes m = c.as_slice.ensures.value ∙ c.in_ok-meta.ensures in
    let put = subst (λ b. IsPut NewMeta (Some b) old ready) bytes (c.in_ok-write.ensures.written known) in
    at_ok (IsRenamed NewMeta Meta ready new) (KeepsOtherFiles old new) c.rename.result (renamed_keeps m c.requires.valid old ready put new) (c.rename.ensures.renamed (c.in_ok-write.ensures.known known))

pub returns-clause-time : goal.returns-clause-time
returns-clause-time g c = λ known.
    let d = g.D.Directory in
    let m = meta_view c.args.new.now in
    let old = d.seen c.args.directory.now in
    let ready = d.seen c.write.new.self in
    let bytes : c.as_slice.result.now ≡ meta_bytes m = c.as_slice.ensures.value ∙ c.in_ok-meta.ensures in
    let put = subst (λ b. IsPut NewMeta (Some b) old ready) bytes (c.in_ok-write.ensures.written known) in
    replaced_renamed d.moment d.left_since d.seen c.args.directory.now m c.write.new.self (c.write.ensures.time known) c.rename.new.self c.requires.valid put (c.rename.ensures.time (c.in_ok-write.ensures.known known))
