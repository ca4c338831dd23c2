use Rattle.std.proofs.Common.{◌≡◌, ◌∙◌, [], List, Some, ap, refl, ℕ}
use Rattle.ii_io.specs.CountingWriter.{CountingWriterState}
use Rattle.ii_warmup.proofs.NormLemmas.{begun, index_faults}
use Rattle.ii_warmup.proofs.norms.no_norms.Goals as goal

pub returns-in-Ok-clause-none : goal.returns-in-Ok-clause-none
returns-in-Ok-clause-none c =
    let w = c.wrap-writer.result in
    let empty : w.contents ≡ Some [] = ap (λ (s : CountingWriterState). s.contents) c.wrap-writer.ensures ∙ ap (λ (xs : List ℕ). Some xs) c.new.ensures.items in
    c.in-Ok.ensures.norms w [] empty (begun w c.from_write.result c.from_write.ensures) refl

pub returns-in-Err-clause-only : goal.returns-in-Err-clause-only
returns-in-Err-clause-only c =
    let w = c.wrap-writer.result in
    let empty : w.contents ≡ Some [] = ap (λ (s : CountingWriterState). s.contents) c.wrap-writer.ensures ∙ ap (λ (xs : List ℕ). Some xs) c.new.ensures.items in
    index_faults c.in-Err.fault (c.in-Err.ensures.only w [] empty (begun w c.from_write.result c.from_write.ensures) refl)
