use Rattle.std.proofs.Common.{None, sym, ◌∙◌}
use Rattle.ii_directory.specs.Directory.{Elsewhere, Files, IsPut, Same}
use Rattle.ii_directory.specs.FileSystem.{HasFlushedNames, LeavesOnly, MayBeRemoved}
use Rattle.ii_directory.proofs.Elapsing.{at_ok, elapses_implies, elapses_then, three_ok}
use Rattle.ii_directory.proofs.FlushLaws.{missing_left, none_unless_some, put_kept, removed_elsewhere, removed_left}
use Rattle.ii_directory.proofs.folder.FlushedDirectoryDirectory.remove.Goals as goal

pub returns-then-not-branch-clause-known : goal.returns-then-not-branch-clause-known
returns-then-not-branch-clause-known g c = λ known.
    let s = g.S.FileSystem in
    let old = c.args.self.now.files in
    let new = c.remove.new.self in (
      c.in_ok-remove.ensures.known known.0,
      λ f left. missing_left (s.seen old) (s.seen new) (s.left_since old (s.moment old)) known.1 f c.args.name (c.in_ok-remove.ensures.removed known.0)
          (none_unless_some c.in_ok-remove.field-0 (s.seen old c.args.name) (c.in_ok-remove.ensures.found known.0) c.if-not-branch.true)
          (c.in_ok-remove.ensures.left known.0 f left),
    )

pub returns-clause-known : goal.returns-clause-known
returns-clause-known g c = λ known.
    let s = g.S.FileSystem in
    let old = c.args.self.now.files in
    let removed = c.remove.new.self in
    let new = c.sync_names.new.self in
    let known_1 = c.in_ok-remove.ensures.known known.0 in
    three_ok (s.is_known new) (Same (s.seen removed) (s.seen new))
    ((f : Files) → s.left_since new (s.moment new) f → HasFlushedNames (s.seen removed) (s.left_since removed (s.moment removed)) f)
    (LeavesOnly (s.seen new) (s.left_since new (s.moment new))) c.sync_names.result
    (λ same left_2 f left name.
    let named = left_2 f left in
    removed_left (s.seen old) (s.seen removed) (s.left_since old (s.moment old)) known.1 f c.args.name (c.in_ok-remove.ensures.removed known.0)
    ((c.in_ok-remove.ensures.found known.0).0 c.if-not-branch.false)
    (c.in_ok-remove.ensures.left known.0 f named.left) named.names name
    ∙ sym (same name))
    (c.sync_names.ensures.known known_1) (c.sync_names.ensures.same known_1) (c.sync_names.ensures.left known_1)

pub returns-clause-removed : goal.returns-clause-removed
returns-clause-removed g c = λ known.
    let s = g.S.FileSystem in
    let old = s.seen c.args.self.now.files in
    let removed = s.seen c.remove.new.self in
    let new = s.seen c.sync_names.new.self in
    at_ok (Same removed new) (IsPut c.args.name None old new) c.sync_names.result
    (λ same. put_kept c.args.name None old removed new (c.in_ok-remove.ensures.removed known.0) same) (c.sync_names.ensures.same (c.in_ok-remove.ensures.known known.0))

pub returns-in_err-remove-clause-time : goal.returns-in_err-remove-clause-time
returns-in_err-remove-clause-time g c = λ known.
    let s = g.S.FileSystem in
    let old = c.args.self.now.files in
    elapses_implies s.moment s.left_since old c.remove.new.self (MayBeRemoved c.args.name (s.left_since old (s.moment old))) (Elsewhere c.args.name (s.seen old))
    (c.remove.ensures.time known.0) (λ f. removed_elsewhere (s.seen old) (s.left_since old (s.moment old)) known.1 f c.args.name)

pub returns-then-not-branch-clause-time : goal.returns-then-not-branch-clause-time
returns-then-not-branch-clause-time g c = λ known.
    let s = g.S.FileSystem in
    let old = c.args.self.now.files in
    elapses_implies s.moment s.left_since old c.remove.new.self (MayBeRemoved c.args.name (s.left_since old (s.moment old))) (Elsewhere c.args.name (s.seen old))
    (c.remove.ensures.time known.0) (λ f. removed_elsewhere (s.seen old) (s.left_since old (s.moment old)) known.1 f c.args.name)

pub returns-clause-time : goal.returns-clause-time
returns-clause-time g c = λ known.
    let s = g.S.FileSystem in
    let old = c.args.self.now.files in
    let removed = c.remove.new.self in
    let was_left = s.left_since old (s.moment old) in
    let P = Elsewhere c.args.name (s.seen old) in
    let elsewhere : (f : Files) → MayBeRemoved c.args.name was_left f → P f = λ f. removed_elsewhere (s.seen old) was_left known.1 f c.args.name in
    elapses_then s.moment s.left_since old removed c.sync_names.new.self P (s.left_since removed (s.moment removed))
    (elapses_implies s.moment s.left_since old removed (MayBeRemoved c.args.name was_left) P (c.remove.ensures.time known.0) elsewhere)
    (c.sync_names.ensures.time (c.in_ok-remove.ensures.known known.0)) (λ f left. elsewhere f (c.in_ok-remove.ensures.left known.0 f left))
