use Rattle.std.proofs.Common.{refl, length}
use Rattle.ii_directory.specs.FileSystem.{IsFlushed}
use Rattle.ii_directory.specs.MemoryFiles.{WereSince, files_after}
use Rattle.ii_directory.specs.declared.memory_files.Change.TheVariants.{Flushed}
use Rattle.ii_directory.proofs.MemoryLaws.{elapses_or_not, flushed_at_ok, left_at_ok, left_flushed}
use Rattle.ii_directory.proofs.memory_files.MemoryFilesFileSystem.sync_file.Goals as goal

pub returns-clause-same : goal.returns-clause-same
returns-clause-same c = λ known. flushed_at_ok c.change.result c.args.self.now.changes.items c.change.new.self.changes.items (Flushed c.args.name) (λ files name. refl) c.change.ensures.ok

pub returns-clause-left : goal.returns-clause-left
returns-clause-left c = λ known.
    let old = c.args.self.now.changes.items in
    left_at_ok old c.change.new.self.changes.items (Flushed c.args.name) (IsFlushed c.args.name (files_after old) (WereSince old (length old))) (λ d. left_flushed old d c.args.name) c.change.result c.change.ensures.ok

pub returns-clause-time : goal.returns-clause-time
returns-clause-time c = λ known.
    let old = c.args.self.now.changes.items in
    elapses_or_not old c.change.new.self.changes.items (Flushed c.args.name) (WereSince old (length old)) (λ d by. (left_flushed old d c.args.name by).left) c.change.result c.change.ensures.ok c.change.ensures.err
