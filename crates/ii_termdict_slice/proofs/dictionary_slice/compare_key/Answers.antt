use Rattle.std.proofs.Common.{◌∙◌, ℕ, List, ap}
use Rattle.std.specs.Ordering.{nat_cmp}
use Rattle.std.specs.Cmp.Lexicographic.{slice_cmp}
use Rattle.ii_termdict_slice.proofs.ReadingLemmas.{reads_ok}
use Rattle.ii_termdict_slice.proofs.dictionary_slice.compare_key.Goals as goal

pub returns-in-Ok-clause-reads : goal.returns-in-Ok-clause-reads
returns-in-Ok-clause-reads g c = reads_ok (λ bs known parts. c.cmp.ensures ∙ ap (λ (k : List ℕ). slice_cmp nat_cmp c.args.key.now k) (c.as_slice.ensures ∙ c.in-Ok.ensures.reads.exact bs known parts))
