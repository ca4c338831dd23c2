use Rattle.std.proofs.Common.{length}
use Rattle.ii_directory.specs.FileSystem.{MayBeRemoved}
use Rattle.ii_directory.specs.MemoryFiles.{WereSince}
use Rattle.ii_directory.specs.declared.memory_files.Change.TheVariants.{Removed}
use Rattle.ii_directory.proofs.MemoryLaws.{elapses_or_not, left_made, left_removed, removed_made}
use Rattle.ii_directory.proofs.memory_files.MemoryFilesFileSystem.remove.Goals as goal

pub returns-clause-removed : goal.returns-clause-removed
returns-clause-removed c = λ known. removed_made c.args.name c.args.self.now.changes.items c.change.new.self.changes.items c.in_ok-change.ensures.ok

pub returns-clause-left : goal.returns-clause-left
returns-clause-left c = λ known.
    let old = c.args.self.now.changes.items in
    left_made old c.change.new.self.changes.items (Removed c.args.name) (MayBeRemoved c.args.name (WereSince old (length old))) (λ d. left_removed old d c.args.name) c.in_ok-change.ensures.ok

pub returns-clause-time : goal.returns-clause-time
returns-clause-time c = λ known.
    let old = c.args.self.now.changes.items in
    elapses_or_not old c.change.new.self.changes.items (Removed c.args.name) (MayBeRemoved c.args.name (WereSince old (length old))) (λ d. left_removed old d c.args.name) c.change.result c.change.ensures.ok c.change.ensures.err
