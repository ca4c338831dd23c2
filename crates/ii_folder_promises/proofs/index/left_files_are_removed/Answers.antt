use Rattle.std.proofs.Common.{refl}
use Rattle.ii_directory.specs.declared.name.Name.TheVariants.{Meta, Segment}
use Rattle.ii_directory.specs.declared.name.SegmentComponent.TheVariants.{Terms}
use Rattle.ii_folder_promises.proofs.index.left_files_are_removed.Goals as goal

pub returns-clause-removed : goal.returns-clause-removed
returns-clause-removed g c = λ _. c.in-Ok.ensures.removed c.requires.known _ c.requires.list (Segment 3 Terms) refl

pub returns-clause-kept : goal.returns-clause-kept
returns-clause-kept g c = λ _. c.in-Ok.ensures.keeps c.requires.known _ c.requires.list Meta refl
