use Rattle.std.proofs.Common.{sym, ◌∙◌}
use Rattle.ii_directory.specs.Directory.{Elsewhere, Files, IsFinished, Same}
use Rattle.ii_directory.specs.FileSystem.{HasFlushedNames, IsFlushed, IsUnflushed, LeavesOnly}
use Rattle.ii_directory.proofs.Elapsing.{at_ok, elapses_implies, elapses_then, three_ok}
use Rattle.ii_directory.proofs.FlushLaws.{finished_kept, unflushed_elsewhere, written_left}
use Rattle.ii_directory.proofs.folder.FlushedDirectoryDirectory.finish.Goals as goal

pub returns-clause-known : goal.returns-clause-known
returns-clause-known g c = λ known.
    let s = g.S.FileSystem in
    let old = c.args.self.now.files in
    let put = c.put_new.new.self in
    let new = c.flush.new.files in
    let was_left = s.left_since old (s.moment old) in
    let is_left = s.left_since put (s.moment put) in
    let known_1 = c.in_ok-put_new.ensures.known known.0 in
    three_ok (s.is_known new) (Same (s.seen put) (s.seen new))
    ((f : Files) → s.left_since new (s.moment new) f → HasFlushedNames (s.seen put) (IsFlushed c.args.name (s.seen put) is_left) f)
    (LeavesOnly (s.seen new) (s.left_since new (s.moment new))) c.flush.result
    (λ same whole f left name.
    let w = whole f left in
    written_left (s.seen old) (s.seen put) was_left known.1 f c.args.name (c.in_ok-put_new.ensures.finished known.0).bytes is_left (c.in_ok-put_new.ensures.finished known.0).put
    (c.in_ok-put_new.ensures.left known.0 f w.left.left) w.left w.names name
    ∙ sym (same name))
    (c.flush.ensures.known known_1) (c.flush.ensures.same known_1) (c.flush.ensures.left known_1)

pub returns-clause-finished : goal.returns-clause-finished
returns-clause-finished g c = λ known.
    let s = g.S.FileSystem in
    let old = s.seen c.args.self.now.files in
    let put = s.seen c.put_new.new.self in
    let new = s.seen c.flush.new.files in
    let contents = g.S.NewFile.Write.contents c.args.file in
    at_ok (Same put new) (IsFinished c.args.name contents old new) c.flush.result
    (finished_kept c.args.name contents old put new (c.in_ok-put_new.ensures.finished known.0)) (c.flush.ensures.same (c.in_ok-put_new.ensures.known known.0))

pub returns-in_err-put_new-clause-time : goal.returns-in_err-put_new-clause-time
returns-in_err-put_new-clause-time g c = λ known.
    let s = g.S.FileSystem in
    let old = c.args.self.now.files in
    elapses_implies s.moment s.left_since old c.put_new.new.self (IsUnflushed c.args.name (s.left_since old (s.moment old))) (Elsewhere c.args.name (s.seen old)) (c.put_new.ensures.time known.0)
    (λ f. unflushed_elsewhere (s.seen old) (s.left_since old (s.moment old)) known.1 f c.args.name)

pub returns-clause-time : goal.returns-clause-time
returns-clause-time g c = λ known.
    let s = g.S.FileSystem in
    let old = c.args.self.now.files in
    let put = c.put_new.new.self in
    let was_left = s.left_since old (s.moment old) in
    let P = Elsewhere c.args.name (s.seen old) in
    let elsewhere : (f : Files) → IsUnflushed c.args.name was_left f → P f = λ f. unflushed_elsewhere (s.seen old) was_left known.1 f c.args.name in
    elapses_then s.moment s.left_since old put c.flush.new.files P (s.left_since put (s.moment put))
    (elapses_implies s.moment s.left_since old put (IsUnflushed c.args.name was_left) P (c.put_new.ensures.time known.0) elsewhere)
    (c.flush.ensures.time (c.in_ok-put_new.ensures.known known.0)) (λ f left. elsewhere f (c.in_ok-put_new.ensures.left known.0 f left))
