use Rattle.std.proofs.Common.{◌∙◌, arith, sym}
use Rattle.ii_termdict_slice.proofs.DictionarySliceLemmas.{end_is}
use Rattle.ii_termdict_slice.proofs.ReadingLemmas.{reads_as}
use Rattle.ii_termdict_slice.proofs.dictionary_slice.read_end.Goals as goal

pub returns-clause-reads : goal.returns-clause-reads
returns-clause-reads g c = reads_as c.read_u64.result c.read_u64.ensures.reads (λ bs known there. omega (arith, there)) (λ bs end known there is. is ∙ sym (end_is c.args.i bs there))
