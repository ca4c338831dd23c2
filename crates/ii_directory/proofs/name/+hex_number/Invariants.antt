use Rattle.std.proofs.Common.{length}
use Rattle.ii_directory.proofs.name.+hex_number.Given as goal

abbrev pub decreases-hex_number : goal.decreases-hex_number
decreases-hex_number l = length l.text.now
