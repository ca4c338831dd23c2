use Rattle.std.proofs.Common.{◌∙◌}
use Rattle.ii_directory.specs.Directory.{Files, Same}
use Rattle.ii_directory.specs.FileSystem.{HasFlushedNames, IsFlushed}
use Rattle.ii_directory.proofs.Elapsing.{at_ok, elapses_then}
use Rattle.ii_directory.proofs.folder.flush.Goals as goal

pub returns-clause-same : goal.returns-clause-same
returns-clause-same g c = λ known.
    let s = g.S.FileSystem in
    let old = s.seen c.args.files.now in
    let new = s.seen c.sync_names.new.self in
    at_ok (Same (s.seen c.sync_file.new.self) new) (Same old new) c.sync_names.result (λ same name. same name ∙ c.in_ok-sync_file.ensures.same known name) (c.sync_names.ensures.same (c.in_ok-sync_file.ensures.known known))

pub returns-clause-left : goal.returns-clause-left
returns-clause-left g c = λ known.
    let s = g.S.FileSystem in
    let old = c.args.files.now in
    let flushed = c.sync_file.new.self in
    let new = c.sync_names.new.self in
    let same = c.in_ok-sync_file.ensures.same known in
    at_ok ((f : Files) → s.left_since new (s.moment new) f → HasFlushedNames (s.seen flushed) (s.left_since flushed (s.moment flushed)) f)
    ((f : Files) → s.left_since new (s.moment new) f → HasFlushedNames (s.seen old) (IsFlushed c.args.name (s.seen old) (s.left_since old (s.moment old))) f)
    c.sync_names.result
    (λ names f left. record {
      left = c.in_ok-sync_file.ensures.left known f (names f left).left;
      names = λ n. rw (same n) at ((names f left).names n);
    })
    (c.sync_names.ensures.left (c.in_ok-sync_file.ensures.known known))

pub returns-clause-time : goal.returns-clause-time
returns-clause-time g c = λ known.
    let s = g.S.FileSystem in
    let old = c.args.files.now in
    let flushed = c.sync_file.new.self in
    elapses_then s.moment s.left_since old flushed c.sync_names.new.self (s.left_since old (s.moment old)) (s.left_since flushed (s.moment flushed))
    (c.sync_file.ensures.time known) (c.sync_names.ensures.time (c.in_ok-sync_file.ensures.known known)) (λ f left. (c.in_ok-sync_file.ensures.left known f left).left)
