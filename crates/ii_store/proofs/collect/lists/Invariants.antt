use Rattle.std.proofs.Common.{◌≡◌, false, take}
use Rattle.std.specs.List.{list_any}
use Rattle.ii_store.specs.declared.index_meta.FileMeta.{FileMeta}
use Rattle.ii_directory.specs.Names.{same_component}
use Rattle.ii_store.proofs.collect.lists.Given as goal

-- no file before the index is of the component
abbrev pub invariant-loop-file : goal.invariant-loop-file
invariant-loop-file l = list_any (λ (f : FileMeta). same_component f.component l.component) (take l.file-index l.files) ≡ false
