use Rattle.std.proofs.Common.{length, refl, subst, sym, ap, ◌∙◌, ℕ, Option, List}
use Rattle.std.specs.Prelude.{IsSome}
use Rattle.ii_directory.specs.Directory.{found_bytes}
use Rattle.ii_directory.specs.FileSystem.{MayBeMoved}
use Rattle.ii_directory.specs.MemoryFiles.{WereSince, files_after}
use Rattle.ii_directory.specs.declared.memory_files.Change.TheVariants.{Renamed}
use Rattle.ii_directory.proofs.Elapsing.{ok_always}
use Rattle.ii_directory.proofs.MemoryLaws.{elapses_or_not, left_at_ok, left_renamed, renamed_at_ok}
use Rattle.ii_directory.proofs.memory_files.MemoryFilesFileSystem.rename.Goals as goal

pub returns-clause-there : goal.returns-clause-there
returns-clause-there c = λ known. ok_always (IsSome (files_after c.args.self.now.changes.items c.args.from)) c.change.result
    (subst (λ (o : Option (List ℕ)). IsSome o) (sym (ap found_bytes c.in-Some.is) ∙ c.in_ok-bytes_after.ensures.found ∙ ap (λ changes. files_after changes c.args.from) c.as_slice.ensures.value) refl)

pub returns-clause-renamed : goal.returns-clause-renamed
returns-clause-renamed c = λ known. renamed_at_ok c.change.result c.args.self.now.changes.items c.change.new.self.changes.items c.args.from c.args.to c.change.ensures.ok

pub returns-clause-left : goal.returns-clause-left
returns-clause-left c = λ known.
    let old = c.args.self.now.changes.items in
    left_at_ok old c.change.new.self.changes.items (Renamed c.args.from c.args.to) (MayBeMoved c.args.from c.args.to (WereSince old (length old))) (λ d. left_renamed old d c.args.from c.args.to) c.change.result c.change.ensures.ok

pub returns-clause-time : goal.returns-clause-time
returns-clause-time c = λ known.
    let old = c.args.self.now.changes.items in
    elapses_or_not old c.change.new.self.changes.items (Renamed c.args.from c.args.to) (MayBeMoved c.args.from c.args.to (WereSince old (length old))) (λ d. left_renamed old d c.args.from c.args.to) c.change.result c.change.ensures.ok c.change.ensures.err
