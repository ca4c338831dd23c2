use Rattle.std.proofs.Common.{◌≡◌, ◌++◌, drop, nat_lt}
use Rattle.std.specs.Prelude.{filter}
use Rattle.ii_store.specs.declared.index_meta.FileMeta.{FileMeta}
use Rattle.ii_directory.specs.Names.{component_number}
use Rattle.ii_segment_store.proofs.deleting.push_files_after_flags.Given as goal

-- the files so far, and those from the index on
abbrev pub invariant-loop-file : goal.invariant-loop-file
invariant-loop-file l = l.listed.items ++ filter (λ (f : FileMeta). nat_lt 5 (component_number f.component)) (drop l.file-index l.files) ≡ l.fn.listed.items ++ filter (λ (f : FileMeta). nat_lt 5 (component_number f.component)) l.files
