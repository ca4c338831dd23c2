use Rattle.std.proofs.Common.{◌≡◌, ◌++◌, take}
use Rattle.std.specs.List.{flat_map}
use Rattle.ii_store.specs.IndexMeta.{file_bytes}
use Rattle.ii_store.proofs.index_meta.push_files.Given as goal

-- the files before the index were appended
abbrev pub invariant-loop-file : goal.invariant-loop-file
invariant-loop-file l = l.bytes.items ≡ l.fn.bytes.items ++ flat_map (file_bytes 3) (take l.file-index l.files)
