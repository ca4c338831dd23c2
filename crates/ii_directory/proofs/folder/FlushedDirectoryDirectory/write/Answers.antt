use Rattle.std.proofs.Common.{sym, ◌∙◌}
use Rattle.ii_directory.specs.Directory.{Elsewhere, Files, Same}
use Rattle.ii_directory.specs.FileSystem.{HasFlushedNames, IsFlushed, IsUnflushed, LeavesOnly}
use Rattle.ii_directory.proofs.Elapsing.{elapses_implies, elapses_then, three_ok}
use Rattle.ii_directory.proofs.FlushLaws.{unflushed_elsewhere, written_left}
use Rattle.ii_directory.proofs.folder.FlushedDirectoryDirectory.write.Goals as goal

pub returns-clause-known : goal.returns-clause-known
returns-clause-known g c = λ known.
    let s = g.S.FileSystem in
    let old = c.args.self.now.files in
    let put = c.put.new.self in
    let new = c.flush.new.files in
    let was_left = s.left_since old (s.moment old) in
    let is_left = s.left_since put (s.moment put) in
    let known_1 = c.in_ok-put.ensures.known known.0 in
    three_ok (s.is_known new) (Same (s.seen put) (s.seen new))
    ((f : Files) → s.left_since new (s.moment new) f → HasFlushedNames (s.seen put) (IsFlushed c.args.name (s.seen put) is_left) f)
    (LeavesOnly (s.seen new) (s.left_since new (s.moment new))) c.flush.result
    (λ same whole f left name.
    let w = whole f left in
    written_left (s.seen old) (s.seen put) was_left known.1 f c.args.name c.args.bytes.now is_left (c.in_ok-put.ensures.written known.0)
    (c.in_ok-put.ensures.left known.0 f w.left.left) w.left w.names name
    ∙ sym (same name))
    (c.flush.ensures.known known_1) (c.flush.ensures.same known_1) (c.flush.ensures.left known_1)

pub returns-in_err-put-clause-time : goal.returns-in_err-put-clause-time
returns-in_err-put-clause-time g c = λ known.
    let s = g.S.FileSystem in
    let old = c.args.self.now.files in
    elapses_implies s.moment s.left_since old c.put.new.self (IsUnflushed c.args.name (s.left_since old (s.moment old))) (Elsewhere c.args.name (s.seen old)) (c.put.ensures.time known.0)
    (λ f. unflushed_elsewhere (s.seen old) (s.left_since old (s.moment old)) known.1 f c.args.name)

pub returns-clause-time : goal.returns-clause-time
returns-clause-time g c = λ known.
    let s = g.S.FileSystem in
    let old = c.args.self.now.files in
    let put = c.put.new.self in
    let was_left = s.left_since old (s.moment old) in
    let P = Elsewhere c.args.name (s.seen old) in
    let elsewhere : (f : Files) → IsUnflushed c.args.name was_left f → P f = λ f. unflushed_elsewhere (s.seen old) was_left known.1 f c.args.name in
    elapses_then s.moment s.left_since old put c.flush.new.files P (s.left_since put (s.moment put))
    (elapses_implies s.moment s.left_since old put (IsUnflushed c.args.name was_left) P (c.put.ensures.time known.0) elsewhere)
    (c.flush.ensures.time (c.in_ok-put.ensures.known known.0)) (λ f left. elsewhere f (c.in_ok-put.ensures.left known.0 f left))
