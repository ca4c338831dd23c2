use Rattle.std.proofs.Common.{◌≡◌, drop}
use Rattle.nequllpa_searching.specs.OpenedNumbers.{total_of}
use Rattle.nequllpa_searching.proofs.field_totals.FieldTotalsFieldTokens.num_tokens.Given as goal

abbrev pub invariant-loop-place : goal.invariant-loop-place
invariant-loop-place l = total_of (drop l.place l.self.totals.items) l.field ≡ total_of l.self.totals.items l.field
