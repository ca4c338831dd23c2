use Rattle.std.proofs.Common.{◌-◌, length, arith, length-drop}
use Rattle.std.proofs.lemmas.List.{take_rest}
use Rattle.ii_alive.specs.AliveBytes.{num_words}
use Rattle.ii_alive.proofs.ReadLemmas.{unused_as_read, unused_where_full}
use Rattle.ii_alive.proofs.alive_bits.has_zero_tail.Goals as goal

pub returns-then-used-eq0 : goal.returns-then-used-eq0
returns-then-used-eq0 c = unused_where_full c.args.num_docs c.args.bytes.now c.requires c.if-used-eq0.true

pub overflow_sub-bytes : goal.overflow_sub-bytes
unfolding num_words
overflow_sub-bytes c = omega (arith, c.if-used-eq0.false, c.requires)

pub read_u64-requires : goal.read_u64-requires
unfolding num_words
read_u64-requires c =
    let bytes = c.args.bytes.now in
    rw take_rest (omega (arith, c.if-used-eq0.false, c.requires, length-drop (length bytes - 8) bytes))

pub returns : goal.returns
returns c = unused_as_read c.args.num_docs c.read_u64.result c.args.bytes.now (λ k. (c.type_inv.bytes k).fits) c.requires c.if-used-eq0.false c.read_u64.type_inv c.read_u64.ensures
