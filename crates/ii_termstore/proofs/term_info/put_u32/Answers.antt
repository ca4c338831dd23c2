use Rattle.std.proofs.Common.{arith}
use Rattle.std.proofs.lemmas.List.{drop_all}
use Rattle.ii_io.specs.NumberLemmas.{bytes_low_first-le_bytes}
use Rattle.ii_termstore.proofs.term_info.put_u32.Goals as goal

pub returns : goal.returns
returns c =
    let none = drop_all 4 c.args.buf.now (omega arith) in
    rw (← (bytes_low_first-le_bytes 4 c.args.n), ← none) c.write_u32.ensures
