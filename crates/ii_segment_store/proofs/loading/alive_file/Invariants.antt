use Rattle.std.proofs.Common.{◌≡◌, drop}
use Rattle.ii_segment_store.specs.Contents.{alive_file}
use Rattle.ii_segment_store.proofs.loading.alive_file.Given as goal

-- none of the files before the index has flags
abbrev pub invariant-loop-file : goal.invariant-loop-file
invariant-loop-file l = alive_file (drop l.file-index l.files) ≡ alive_file l.files
