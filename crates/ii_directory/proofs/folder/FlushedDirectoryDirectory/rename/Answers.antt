use Rattle.std.proofs.Common.{sym, ◌∙◌}
use Rattle.ii_directory.specs.Directory.{Files, IsRenamed, MayBeRenamed, Same}
use Rattle.ii_directory.specs.FileSystem.{HasFlushedNames, LeavesOnly, MayBeMoved}
use Rattle.ii_directory.proofs.Elapsing.{at_ok, elapses_implies, elapses_then, three_ok}
use Rattle.ii_directory.proofs.FlushLaws.{moved_renamed, renamed_kept, renamed_left}
use Rattle.ii_directory.proofs.folder.FlushedDirectoryDirectory.rename.Goals as goal

pub returns-clause-known : goal.returns-clause-known
returns-clause-known g c = λ known.
    let s = g.S.FileSystem in
    let old = c.args.self.now.files in
    let moved = c.rename.new.self in
    let new = c.sync_names.new.self in
    let known_1 = c.in_ok-rename.ensures.known known.0 in
    three_ok (s.is_known new) (Same (s.seen moved) (s.seen new))
    ((f : Files) → s.left_since new (s.moment new) f → HasFlushedNames (s.seen moved) (s.left_since moved (s.moment moved)) f)
    (LeavesOnly (s.seen new) (s.left_since new (s.moment new))) c.sync_names.result
    (λ same left_2 f left name.
    let named = left_2 f left in
    renamed_left (s.seen old) (s.seen moved) (s.left_since old (s.moment old)) known.1 f c.args.from c.args.to (c.in_ok-rename.ensures.renamed known.0) (c.in_ok-rename.ensures.there known.0)
    (c.in_ok-rename.ensures.left known.0 f named.left) named.names name
    ∙ sym (same name))
    (c.sync_names.ensures.known known_1) (c.sync_names.ensures.same known_1) (c.sync_names.ensures.left known_1)

pub returns-clause-renamed : goal.returns-clause-renamed
returns-clause-renamed g c = λ known.
    let s = g.S.FileSystem in
    let old = s.seen c.args.self.now.files in
    let moved = s.seen c.rename.new.self in
    let new = s.seen c.sync_names.new.self in
    at_ok (Same moved new) (IsRenamed c.args.from c.args.to old new) c.sync_names.result
    (λ same. renamed_kept c.args.from c.args.to old moved new (c.in_ok-rename.ensures.renamed known.0).renamed same) (c.sync_names.ensures.same (c.in_ok-rename.ensures.known known.0))

pub returns-in_err-rename-clause-time : goal.returns-in_err-rename-clause-time
returns-in_err-rename-clause-time g c = λ known.
    let s = g.S.FileSystem in
    let old = c.args.self.now.files in
    elapses_implies s.moment s.left_since old c.rename.new.self (MayBeMoved c.args.from c.args.to (s.left_since old (s.moment old))) (MayBeRenamed c.args.from c.args.to (s.seen old))
    (c.rename.ensures.time known.0) (λ f. moved_renamed (s.seen old) (s.left_since old (s.moment old)) known.1 f c.args.from c.args.to)

pub returns-clause-time : goal.returns-clause-time
returns-clause-time g c = λ known.
    let s = g.S.FileSystem in
    let old = c.args.self.now.files in
    let moved = c.rename.new.self in
    let was_left = s.left_since old (s.moment old) in
    let P = MayBeRenamed c.args.from c.args.to (s.seen old) in
    let renamed : (f : Files) → MayBeMoved c.args.from c.args.to was_left f → P f = λ f. moved_renamed (s.seen old) was_left known.1 f c.args.from c.args.to in
    elapses_then s.moment s.left_since old moved c.sync_names.new.self P (s.left_since moved (s.moment moved))
    (elapses_implies s.moment s.left_since old moved (MayBeMoved c.args.from c.args.to was_left) P (c.rename.ensures.time known.0) renamed)
    (c.sync_names.ensures.time (c.in_ok-rename.ensures.known known.0)) (λ f left. renamed f (c.in_ok-rename.ensures.left known.0 f left))
