use Rattle.ii_codes.proofs.BitLaws.{writes_one_row as law}
use Rattle.ii_codes.proofs.bitpacker.writes_one_row.Goals as goal

pub returns : goal.returns
returns c = law
