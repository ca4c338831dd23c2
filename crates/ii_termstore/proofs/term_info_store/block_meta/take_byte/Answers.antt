use Rattle.std.proofs.Common.{sym, arith, ◌-◌, length, drop, length-drop}
use Rattle.std.proofs.lemmas.List.{take_all}
use Rattle.ii_io.specs.NumberLemmas.{number_at-none}
use Rattle.ii_termstore.specs.TermStoreLemmas.{number_at-front}
use Rattle.ii_termstore.proofs.term_info_store.block_meta.take_byte.Goals as goal

pub returns-then-bytes-lt1-clause-value : goal.returns-then-bytes-lt1-clause-value
returns-then-bytes-lt1-clause-value c = sym (number_at-none 1 c.args.reader.now.now (omega arith))

pub returns-clause-value : goal.returns-clause-value
returns-clause-value c =
    let whole = take_all (length c.args.reader.now.now - 1) (drop 1 c.args.reader.now.now) (omega (arith, length-drop 1 c.args.reader.now.now)) in
    rw (number_at-front c.args.reader.now.now (omega arith), whole) (cc)
