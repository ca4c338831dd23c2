use Rattle.std.proofs.Common.{refl, append_assoc}
use Rattle.iiq.proofs.OutputLemmas.{numbers_text}
use Rattle.iiq.proofs.output.push_numbers.Goals as goal

pub loop-number-init : goal.loop-number-init
loop-number-init c =
    let parted = c.in-Some.ensures.cases in
    let wrote = c.in_ok-write.ensures.bytes in
    record { written = rw (parted.0, numbers_text, wrote, append_assoc) refl }
