use Rattle.std.proofs.Common.{length}
use Rattle.ii_directory.specs.FileSystem.{IsUnflushed}
use Rattle.ii_directory.specs.MemoryFiles.{WereSince}
use Rattle.ii_directory.specs.declared.memory_files.Change.TheVariants.{Put}
use Rattle.ii_directory.proofs.MemoryLaws.{elapses_or_not, finished_at_ok, left_at_ok, left_put, put_elapses}
use Rattle.ii_directory.proofs.memory_files.MemoryFilesFileSystem.put_new.Goals as goal

pub returns-in-Some-eq0-clause-time : goal.returns-in-Some-eq0-clause-time
returns-in-Some-eq0-clause-time c = λ known. put_elapses c.args.name c.args.self.now.changes.items c.stop_in_put.new.self.changes.items c.stop_in_put.ensures.put

pub returns-clause-finished : goal.returns-clause-finished
returns-clause-finished c = λ known. finished_at_ok c.change.result c.args.self.now.changes.items c.change.new.self.changes.items c.args.name c.args.file c.change.ensures.ok

pub returns-clause-left : goal.returns-clause-left
returns-clause-left c = λ known.
    let old = c.args.self.now.changes.items in
    left_at_ok old c.change.new.self.changes.items (Put c.args.name c.args.file) (IsUnflushed c.args.name (WereSince old (length old))) (λ d. left_put old d c.args.name c.args.file) c.change.result c.change.ensures.ok

pub returns-clause-time : goal.returns-clause-time
returns-clause-time c = λ known.
    let old = c.args.self.now.changes.items in
    elapses_or_not old c.change.new.self.changes.items (Put c.args.name c.args.file) (IsUnflushed c.args.name (WereSince old (length old))) (λ d. left_put old d c.args.name c.args.file) c.change.result c.change.ensures.ok c.change.ensures.err
