use Rattle.std.proofs.Common.{refl, arith}
use Rattle.ii_reader.proofs.field_space.InvertedIndexFieldSpace.record.Goals as goal

pub returns-clause-added : goal.returns-clause-added
returns-clause-added c = rw (← c.self.view_is, c.len.ensures.value, c.len-2.ensures.value) refl

pub returns-clause-within : goal.returns-clause-within
returns-clause-within c = λ n within.
    let w = rw (← c.self.view_is) at within in
    record {
      postings = (let p = w.postings in omega arith);
      positions = (let p = w.positions in omega arith);
      terms = (let p = w.terms in omega arith);
    }
