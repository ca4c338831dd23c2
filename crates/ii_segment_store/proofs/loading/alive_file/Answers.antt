use Rattle.std.proofs.Common.{◌==◌, ◌∙◌, sym}
use Rattle.std.proofs.lemmas.Bool.{eq-eqb, ne_eqb}
use Rattle.ii_store.specs.declared.index_meta.FileMeta.{FileMeta}
use Rattle.ii_directory.specs.Names.{component_number}
use Rattle.ii_segment_store.proofs.LoadLaws.{no_file, other_file, that_file}
use Rattle.ii_segment_store.proofs.loading.alive_file.Goals as goal

pub loop-file-preserved : goal.loop-file-preserved
loop-file-preserved c =
    other_file (λ (f : FileMeta). component_number f.component == 5) c.args.files.now c.loop-file.file-index _ c.loop-file-test.true (ne_eqb _ 5 (λ same. c.if-number-eq5.false (c.number.ensures.number ∙ same))) ∙ c.loop-file.invariant

pub returns-then-number-eq5 : goal.returns-then-number-eq5
returns-then-number-eq5 c =
    sym (that_file (λ (f : FileMeta). component_number f.component == 5) c.args.files.now c.loop-file.file-index _ c.loop-file-test.true (eq-eqb _ 5 (sym c.number.ensures.number ∙ c.if-number-eq5.true))) ∙ c.loop-file.invariant

pub returns : goal.returns
returns c = sym (no_file (λ (f : FileMeta). component_number f.component == 5) c.args.files.now c.loop-file.file-index c.loop-file-test.false) ∙ c.loop-file.invariant
