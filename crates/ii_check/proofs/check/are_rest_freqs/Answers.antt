use Rattle.std.proofs.Common.{sym}
use Rattle.ii_layout.proofs.FrequencyLemmas.{row_fits}
use Rattle.ii_check.proofs.LoadLemmas.{row_of_vints}
use Rattle.ii_check.proofs.check.are_rest_freqs.Goals as goal

pub returns-clause-holds : goal.returns-clause-holds
returns-clause-holds c = λ found.
    let read = c.in-Ok.ensures.read in
    row_of_vints _ _ 1 _ c.args.decoder.now c.try_uncompress_vint_unsorted.new.self read (row_fits _ _ _ _ (sym read)).many c.in-Ok.ensures.len c.in-Ok.ensures.padded c.in-Ok.ensures.decodes
