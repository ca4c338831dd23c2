use Rattle.std.proofs.Common.{List, ℕ, ◌++◌, [], sym, ap, ◌∙◌, arith}
use Rattle.ii_postings_writer.specs.IndexingTerm.{field_bytes}
use Rattle.ii_postings_writer.proofs.TermLemmas.{field_in_front}
use Rattle.ii_postings_writer.proofs.indexing_term.IndexingTerm.with_capacity.Goals as goal

pub invariant_of-result : goal.invariant_of-result
unfolding field_bytes
invariant_of-result c =
    let front = field_in_front c.from_field_id.result c.extend_from_slice.new.self.items []
    (c.in_ok-extend_from_slice.ensures.items ∙ ap (λ (front : List ℕ). front ++ c.to_be_bytes.result) c.in_ok-bytes.ensures.items ∙ c.to_be_bytes.ensures ∙ ap field_bytes (sym c.from_field_id.ensures)) in
    (front.0, front.1, omega (arith, c.from_field_id.ensures))
