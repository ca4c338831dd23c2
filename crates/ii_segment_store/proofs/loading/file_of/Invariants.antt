use Rattle.std.proofs.Common.{◌≡◌, drop}
use Rattle.ii_segment_store.specs.Contents.{file_of}
use Rattle.ii_segment_store.proofs.loading.file_of.Given as goal

-- none of the files before the index is of the component
abbrev pub invariant-loop-file : goal.invariant-loop-file
invariant-loop-file l = file_of l.component (drop l.file-index l.files) ≡ file_of l.component l.files
