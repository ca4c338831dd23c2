use Rattle.std.proofs.Common.{◌≡◌, map, take}
use Rattle.std.specs.List.{range_with_len}
use Rattle.ii_postings_writer.specs.ResolvedTerms.{resolved_terms}
use Rattle.ii_postings_writer.specs.SortedTerms.{kept_state, terms_in}
use Rattle.ii_postings_writer.proofs.sorted_terms.by_field.Given as goal

abbrev pub invariant-loop-place : goal.invariant-loop-place
invariant-loop-place l = l.fields.items ≡ map (λ field. terms_in field (resolved_terms l.fn.flags l.fn.paths (map kept_state (take l.place l.fn.terms)))) (range_with_len 0 l.fn.num_fields)
