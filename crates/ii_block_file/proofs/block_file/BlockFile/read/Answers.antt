use Rattle.std.proofs.Common.{rules, length}
use Rattle.ii_block_file.proofs.RangeLaws.{enough, range_is, range_of_file, sound_file}
use Rattle.ii_block_file.proofs.block_file.BlockFile.read.Goals as goal

pub returns-clause-checked : goal.returns-clause-checked
returns-clause-checked g c =
    let reach = enough c.args.from c.args.len c.args.self.now.table.len (length c.in-Ok.blocks) (search rules) (search rules) c.in-Ok.ensures.long in
    range_is c.args.self.now.table c.args.from c.args.len c.in-Ok.blocks c.in_ok-slice.field-0 reach c.in_ok-slice.ensures.ok c.in-Ok.ensures.listed

pub returns-clause-exact : goal.returns-clause-exact
returns-clause-exact g c = λ file known same.
    let reach = enough c.args.from c.args.len c.args.self.now.table.len (length c.in-Ok.blocks) (search rules) (search rules) c.in-Ok.ensures.long in
    range_of_file c.args.self.now.table c.args.from c.args.len c.in-Ok.blocks c.in_ok-slice.field-0 reach c.in_ok-slice.ensures.ok file (c.in-Ok.ensures.exact file known same)

pub returns-in-Err-clause-sound : goal.returns-in-Err-clause-sound
returns-in-Err-clause-sound g c = λ file known own _. sound_file file c.args.self.now.table own (g.R.ReadAt.bytes c.args.self.now.source) c.in-Err.fault known c.in-Err.ensures.fault
