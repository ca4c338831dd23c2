use Rattle.ii_block_file.proofs.TableLaws.{block_is}
use Rattle.ii_block_file.proofs.block_table.file_block.Goals as goal

pub returns : goal.returns
returns c = block_is c.args.place c.min-len.result c.args.file.now c.min-len.ensures
