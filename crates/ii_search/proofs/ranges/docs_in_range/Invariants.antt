use Rattle.std.proofs.Common.{ℕ, List, Some}
use Rattle.ii_base.specs.declared.schema.index_record_option.IndexRecordOption.TheVariants.{Basic}
use Rattle.ii_search.specs.Found.{docs_under}
use Rattle.ii_search.proofs.RangeLemmas.{IsCollecting}
use Rattle.ii_search.proofs.ranges.docs_in_range.Given as goal

abbrev pub invariant-loop-ord : goal.invariant-loop-ord
invariant-loop-ord l = IsCollecting (λ (key : List ℕ). docs_under Basic key (Some l.reader)) l.range l.reader.terms l.ord l.docs
