use Rattle.std.proofs.Common.{◌∙◌}
use Rattle.ii_io.specs.NumberLemmas.{bytes_low_first-le_bytes}
use Rattle.ii_layout.proofs.skip.SkipSerializer.write_total_term_freq.Goals as goal

pub returns : goal.returns
returns c = rw (← (c.write_u32.ensures ∙ bytes_low_first-le_bytes 4 c.args.tf_sum)) c.add.ensures
