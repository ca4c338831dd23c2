use Rattle.std.proofs.Common.{replicate, arith}
use Rattle.std.proofs.lemmas.List.{get_or-replicate}
use Rattle.ii_docset_tests.proofs.SameLaws.{same_sound}
use Rattle.ii_docset_tests.proofs.tests.reads.long.Goals as goal

pub new-requires : goal.new-requires
new-requires c = same_sound 1000 3 (replicate 1000 3) (omega arith) (λ i d within. get_or-replicate 1000 i 3 d within) (omega arith)
