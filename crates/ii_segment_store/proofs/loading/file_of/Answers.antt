use Rattle.std.proofs.Common.{◌∙◌, sym}
use Rattle.ii_store.specs.declared.index_meta.FileMeta.{FileMeta}
use Rattle.ii_directory.specs.Names.{same_component}
use Rattle.ii_segment_store.proofs.LoadLaws.{no_file, other_file, that_file}
use Rattle.ii_segment_store.proofs.loading.file_of.Goals as goal

pub loop-file-preserved : goal.loop-file-preserved
loop-file-preserved c =
    other_file (λ (f : FileMeta). same_component f.component c.args.component) c.args.files.now c.loop-file.file-index _ c.loop-file-test.true (sym c.is_same.ensures ∙ c.if-is_same.false) ∙ c.loop-file.invariant

pub returns-then-is_same : goal.returns-then-is_same
returns-then-is_same c =
    sym (that_file (λ (f : FileMeta). same_component f.component c.args.component) c.args.files.now c.loop-file.file-index _ c.loop-file-test.true (sym c.is_same.ensures ∙ c.if-is_same.true)) ∙ c.loop-file.invariant

pub returns : goal.returns
returns c = sym (no_file (λ (f : FileMeta). same_component f.component c.args.component) c.args.files.now c.loop-file.file-index c.loop-file-test.false) ∙ c.loop-file.invariant
