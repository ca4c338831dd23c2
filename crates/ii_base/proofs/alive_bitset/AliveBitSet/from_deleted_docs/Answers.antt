use Rattle.std.proofs.Common.{◌≡◌, true, replicate, ◌∙◌, rules}
use Rattle.ii_base.proofs.AliveLemmas.{all_alive, one_deleted}
use Rattle.ii_base.proofs.alive_bitset.AliveBitSet.from_deleted_docs.Goals as goal

pub loop-doc-init : goal.loop-doc-init
loop-doc-init c = let made : c.in_ok-flags.flags.items ≡ replicate c.args.num_docs true = search rules in made ∙ all_alive c.args.num_docs

pub loop-doc-preserved : goal.loop-doc-preserved
loop-doc-preserved c = one_deleted _ _ _ _ c.loop-doc.invariant c.loop-doc-test.true (c.requires _ 0 c.loop-doc-test.true)
