use Rattle.std.proofs.Common.{arith}
use Rattle.ii_layout.proofs.SkipReaderLemmas.{advanced_rest, advanced_full, advanced_end, advances}
use Rattle.ii_layout.proofs.skip.SkipReader.advance.Goals as goal

pub returns-then-self-blocks : goal.returns-then-self-blocks
returns-then-self-blocks c =
    let stands = rw (← c.self.view_is) at c.requires.same in
    rw (← c.self.view_is) (advanced_end _ c.args.skip_data.now stands (omega arith) (omega arith))

pub returns-then-self-blocks-2 : goal.returns-then-self-blocks-2
returns-then-self-blocks-2 c =
    let stands = rw (← c.self.view_is) at c.requires.same in
    rw (← c.self.view_is) (advanced_rest _ _ _ _ (advances _ _ _ c.args.skip_data.now stands (omega arith) c.packed_size.ensures.size c.tf_sum.ensures.sum) (omega arith))

pub returns : goal.returns
returns c =
    let stands = rw (← c.self.view_is) at c.requires.same in
    let next = c.read_entry_at-last_doc.ensures.counted in
    rw (← c.self.view_is) (advanced_full _ _ _ _ _ _ c.args.skip_data.now (advances _ _ _ c.args.skip_data.now stands (omega arith) c.packed_size.ensures.size c.tf_sum.ensures.sum) (omega arith)
    c.read_entry_at-last_doc.ensures.last_doc c.read_entry_at-last_doc.ensures.info (omega arith))
