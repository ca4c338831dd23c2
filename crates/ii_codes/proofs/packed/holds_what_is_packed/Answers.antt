use Rattle.ii_codes.proofs.PackedLaws.{holds_what_is_unpacked, holds_what_is_packed as law}
use Rattle.ii_codes.proofs.packed.holds_what_is_packed.Goals as goal

pub returns-clause-unpacked : goal.returns-clause-unpacked
returns-clause-unpacked c = holds_what_is_unpacked

pub returns-clause-packed : goal.returns-clause-packed
returns-clause-packed c = law
