use Rattle.std.proofs.Common.{inl}
use Rattle.ii_segment_store.proofs.CommitLaws.{contents_same}
use Rattle.ii_folder_promises.proofs.segments.two_segments_are_added_at_once.Goals as goal

pub returns-in-Err-clause-stopped : goal.returns-in-Err-clause-stopped
returns-in-Err-clause-stopped g c = λ files left.
    inl (contents_same (g.D.Directory.seen c.args.directory.now) files (g.met.D.Directory.only_now c.args.directory.now files c.requires left))
