use Rattle.std.proofs.Common.{refl, length}
use Rattle.ii_directory.specs.FileSystem.{HasFlushedNames}
use Rattle.ii_directory.specs.MemoryFiles.{WereSince, files_after}
use Rattle.ii_directory.specs.declared.memory_files.Change.TheVariants.{FlushedNames}
use Rattle.ii_directory.proofs.MemoryLaws.{elapses_or_not, flushed_at_ok, left_at_ok, left_names}
use Rattle.ii_directory.proofs.memory_files.MemoryFilesFileSystem.sync_names.Goals as goal

pub returns-clause-same : goal.returns-clause-same
returns-clause-same c = λ known. flushed_at_ok c.change.result c.args.self.now.changes.items c.change.new.self.changes.items FlushedNames (λ files name. refl) c.change.ensures.ok

pub returns-clause-left : goal.returns-clause-left
returns-clause-left c = λ known.
    let old = c.args.self.now.changes.items in
    left_at_ok old c.change.new.self.changes.items FlushedNames (HasFlushedNames (files_after old) (WereSince old (length old))) (λ d. left_names old d) c.change.result c.change.ensures.ok

pub returns-clause-time : goal.returns-clause-time
returns-clause-time c = λ known.
    let old = c.args.self.now.changes.items in
    elapses_or_not old c.change.new.self.changes.items FlushedNames (WereSince old (length old)) (λ d by. (left_names old d by).left) c.change.result c.change.ensures.ok c.change.ensures.err
