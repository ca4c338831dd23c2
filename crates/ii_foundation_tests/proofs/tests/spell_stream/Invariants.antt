use Rattle.std.proofs.Common.{length}
use Rattle.ii_foundation_tests.proofs.tests.spell_stream.Given as goal

abbrev pub decreases-loop-spelled : goal.decreases-loop-spelled
decreases-loop-spelled g l = length (g.S.TokenStream.to_come l.tokens)
