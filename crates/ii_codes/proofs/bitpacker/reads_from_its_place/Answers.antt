use Rattle.ii_codes.proofs.BitLaws.{reads_from_its_place as law}
use Rattle.ii_codes.proofs.bitpacker.reads_from_its_place.Goals as goal

pub returns : goal.returns
returns c = law
