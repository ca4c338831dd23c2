use Rattle.std.proofs.Common.{inl}
use Rattle.ii_store.proofs.CommitLaws.{same_segments}
use Rattle.ii_folder_promises.proofs.segments.lists_are_replaced_at_once.Goals as goal

pub returns-in_err-may_commit-clause-stopped : goal.returns-in_err-may_commit-clause-stopped
returns-in_err-may_commit-clause-stopped g c = λ files left.
    inl (same_segments (g.D.Directory.seen c.args.directory.now) files (g.met.D.Directory.only_now c.args.directory.now files c.requires left))

pub returns-then-not-branch-clause-stopped : goal.returns-then-not-branch-clause-stopped
returns-then-not-branch-clause-stopped g c = λ files left.
    inl (same_segments (g.D.Directory.seen c.args.directory.now) files (g.met.D.Directory.only_now c.args.directory.now files c.requires left))
