use Rattle.std.proofs.Common.{sym, arith, ◌-◌, length, drop, length-drop}
use Rattle.std.proofs.lemmas.List.{take_all}
use Rattle.ii_io.specs.NumberLemmas.{number_at-some, number_at-none}
use Rattle.ii_io.proofs.serialize.U32BinarySerializable.deserialize.Goals as goal

pub returns-then-bytes-lt4-clause-value : goal.returns-then-bytes-lt4-clause-value
returns-then-bytes-lt4-clause-value c = sym (number_at-none 4 c.args.reader.now.now c.if-bytes-lt4.true)

pub returns-clause-value : goal.returns-clause-value
returns-clause-value c =
    let whole = take_all (length c.args.reader.now.now - 4) (drop 4 c.args.reader.now.now) (omega (arith, length-drop 4 c.args.reader.now.now)) in
    rw (number_at-some 4 c.args.reader.now.now c.if-bytes-lt4.false, whole) (cc)
