use Rattle.std.proofs.Common.{◌≡◌, drop, max}
use Rattle.ii_segment_store.specs.Changes.{latest_file}
use Rattle.ii_segment_store.proofs.deleting.latest_file.Given as goal

-- the greatest so far, and that of the files from the index on
abbrev pub invariant-loop-file : goal.invariant-loop-file
invariant-loop-file l = max l.latest (latest_file (drop l.file-index l.files)) ≡ latest_file l.files
