use Rattle.std.proofs.Common.{◌≡◌}
use Rattle.ii_reader.proofs.JsonLemmas.{IsListing}
use Rattle.ii_reader.proofs.field_space.list_further.Given as goal

abbrev pub invariant-loop-term : goal.invariant-loop-term
invariant-loop-term l = record {
  passed : l.terms.passed ≡ l._term;
  entries : l.terms.entries ≡ l.fn.terms.entries;
  listing : IsListing l.fn.terms.entries l.fn.first l._term l.fields.items l.current;
}
