use Rattle.std.proofs.Common.{◌∙◌, ap, sym}
use Rattle.ii_termdict.specs.Dictionary.{dictionary}
use Rattle.ii_termdict_slice.proofs.ReadingLemmas.{reads_no, reads_ok}
use Rattle.ii_warmup.proofs.LookedUpLemmas.{not_ok}
use Rattle.ii_warmup.proofs.NormLemmas.{read_all}
use Rattle.ii_warmup.proofs.looked_up_terms.read_dictionary.Goals as goal

pub returns-in-Ok-open : goal.returns-in-Ok-open
returns-in-Ok-open g c = record {
  reads = reads_ok (λ bs known there. ap dictionary (sym (read_all bs c.in-Ok.bytes c.len.result (c.len.ensures bs known) (c.in-Ok.ensures.exact bs known))) ∙ c.in-Ok-open.ensures.opened);
}

pub returns-in-Err-open : goal.returns-in-Err-open
returns-in-Err-open g c = record {
  reads = reads_no
      (λ bs known there.
      let same = read_all bs c.in-Ok.bytes c.len.result (c.len.ensures bs known) (c.in-Ok.ensures.exact bs known) in
      let (own, own_is, err) = c.in-Err-open.ensures.damaged in
      not_ok (dictionary bs) own (ap dictionary (sym same) ∙ err) there);
}
