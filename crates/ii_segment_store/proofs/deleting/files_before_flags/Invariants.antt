use Rattle.std.proofs.Common.{◌≡◌, ◌++◌, drop, nat_lt}
use Rattle.std.specs.Prelude.{filter}
use Rattle.ii_store.specs.declared.index_meta.FileMeta.{FileMeta}
use Rattle.ii_directory.specs.Names.{component_number}
use Rattle.ii_segment_store.proofs.deleting.files_before_flags.Given as goal

-- the files so far, and those from the index on
abbrev pub invariant-loop-file : goal.invariant-loop-file
invariant-loop-file l = l.before.items ++ filter (λ (f : FileMeta). nat_lt (component_number f.component) 5) (drop l.file-index l.files) ≡ filter (λ (f : FileMeta). nat_lt (component_number f.component) 5) l.files
