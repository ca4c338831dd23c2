use Rattle.ii_open_segments.proofs.OpenLaws.{opens}
use Rattle.ii_open_segments.proofs.opening.written_files_open.Goals as goal

pub returns : goal.returns
returns c = opens
