use Rattle.std.proofs.Common.{sym, arith, ◌-◌, length, drop, length-drop}
use Rattle.std.proofs.lemmas.List.{take_all}
use Rattle.ii_io.specs.NumberLemmas.{number_at-some, number_at-none}
use Rattle.ii_io.proofs.serialize.U64BinarySerializable.deserialize.Goals as goal

pub returns-then-bytes-lt8-clause-value : goal.returns-then-bytes-lt8-clause-value
returns-then-bytes-lt8-clause-value c = sym (number_at-none 8 c.args.reader.now.now c.if-bytes-lt8.true)

pub returns-clause-value : goal.returns-clause-value
returns-clause-value c =
    let whole = take_all (length c.args.reader.now.now - 8) (drop 8 c.args.reader.now.now) (omega (arith, length-drop 8 c.args.reader.now.now)) in
    rw (number_at-some 8 c.args.reader.now.now c.if-bytes-lt8.false, whole) (cc)
