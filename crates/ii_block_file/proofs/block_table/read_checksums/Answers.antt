use Rattle.std.proofs.Common.{◌≡◌, length, ap, arith}
use Rattle.ii_block_file.proofs.TableLaws.{appended_count}
use Rattle.ii_block_file.proofs.block_table.read_checksums.Goals as goal

pub returns-clause-count : goal.returns-clause-count
returns-clause-count g c =
    let part = c.as_slice.result.now in
    let long : length part ≡ c.args.len = omega (arith, ap length c.as_slice.ensures.value, c.in-Ok.ensures.len, ap length c.as_mut_slice.ensures.value, c.in_ok-resize.ensures.len) in
    appended_count c.args.checksums.now.items c.push_checksums.new.checksums.items part c.args.len long c.in_ok-push_checksums.ensures
