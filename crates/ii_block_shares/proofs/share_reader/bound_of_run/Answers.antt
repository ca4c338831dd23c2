use Rattle.std.proofs.Common.{◌≡◌, ◌<◌, get_or, length, rules}
use Rattle.ii_block_shares.specs.declared.block_shares.BlockShare.{BlockShare}
use Rattle.ii_block_shares.proofs.RunLemmas.{no_run, run_bounds}
use Rattle.ii_block_shares.proofs.share_reader.bound_of_run.Goals as goal

pub returns-then-block-blocks : goal.returns-then-block-blocks
returns-then-block-blocks c = no_run c.args.blocks.now c.args.block c.args.target c.args.weight.now.weight c.if-block-blocks.true c.requires.place c.requires.low

pub returns : goal.returns
returns c =
    let inside : c.args.block < length c.args.blocks.now = search rules in
    let run : BlockShare = get_or c.args.blocks.now c.args.block (record { end = 0; share = 0 }) in
    let is : run ≡ get_or c.args.blocks.now c.args.block run = search rules in
    run_bounds c.args.blocks.now run c.args.block c.args.target c.args.weight.now.weight c.most_of_run.result c.min.result inside is c.requires.place (c.requires.ahead run inside is) c.requires.low (search rules) c.most_of_run.ensures.value (search rules) c.most_of_run.ensures.bounds
