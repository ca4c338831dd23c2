use Rattle.ii_io.proofs.CompositeLaws.{reads_written_composites}
use Rattle.ii_io.proofs.composite_file.reads_composites_back.Goals as goal

pub returns : goal.returns
returns c = reads_written_composites
