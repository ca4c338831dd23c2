use Rattle.std.proofs.Common.{◌≡◌, ◌<◌, [], length, rules}
use Rattle.std.proofs.lemmas.List.{nil_from_length}
use Rattle.ii_io.proofs.WriteSteps.{writes_all, wrote_nothing}
use Rattle.ii_termstore.proofs.GatherLemmas.{meta_has_lengths, open_meta_by}
use Rattle.ii_termstore.proofs.term_info_store.gathered_blocks.put_open_meta.Goals as goal

pub serialize-requires : goal.serialize-requires
serialize-requires g c =
    let some : 0 < length c.args.infos.now = search rules in
    meta_has_lengths c.args.offset c.args.infos.now c.block_meta.result c.block_meta.ensures.value some c.requires

pub returns : goal.returns
returns g c =
    let some : 0 < length c.args.infos.now = search rules in
    rw (← (open_meta_by c.args.offset c.args.infos.now c.block_meta.result c.block_meta.ensures.value some)) c.serialize.ensures.written

pub returns-then-is_empty : goal.returns-then-is_empty
returns-then-is_empty g c =
    let zero : length c.args.infos.now ≡ 0 = search rules in
    rw (nil_from_length c.args.infos.now zero) (writes_all _ _ [] (wrote_nothing _))
