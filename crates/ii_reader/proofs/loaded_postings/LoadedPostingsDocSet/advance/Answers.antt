use Rattle.std.proofs.Common.{arith}
use Rattle.ii_reader.proofs.LoadedLemmas.{next_held, next_is_held}
use Rattle.ii_reader.proofs.loaded_postings.LoadedPostingsDocSet.advance.Goals as goal

pub invariant_of-self : goal.invariant_of-self
invariant_of-self c =
    let l = c.self.inside in
    next_is_held l.doc_ids.items l.position_offsets.items l.positions.items l.cursor c.self.invariant (let size = c.len.ensures in let small = l.doc_ids.ok.0 in let low = c.if-self-len.false in omega arith)

pub returns-clause-rest : goal.returns-clause-rest
returns-clause-rest c =
    let l = c.self.inside in
    rw (← c.self.view_is) (next_held l.doc_ids.items l.position_offsets.items l.positions.items l.cursor (let size = c.len.ensures in let small = l.doc_ids.ok.0 in let low = c.if-self-len.false in omega arith))
