use Rattle.std.proofs.Common.{◌<◌, length, arith}
use Rattle.ii_io.proofs.WriteSteps.{writes_then, writes_went}
use Rattle.ii_layout.proofs.PackingLemmas.{sized_is}
use Rattle.ii_layout.proofs.serializer.write_skip_list.Goals as goal

pub returns : goal.returns
returns g c =
    let some : 0 < length c.args.skip_data.now = grind (arith) in
    rw (sized_is c.args.skip_data.now _ some c.write_u64-end.ensures.written)
    (writes_then c.args.output_write.now c.write_all-len.new.self c.write_all.new.self _ c.args.skip_data.now c.write_all.result
    (writes_went c.args.output_write.now c.write_all-len.new.self _ c.write_all-len.result c.if-is_err.ensures.value c.write_all-len.ensures.written) c.write_all.ensures.written)
