use Rattle.std.proofs.Common.{◌≡◌, ◌≤◌, ℕ, List, Some, ap, length, arith}
use Rattle.std.specs.Prelude.{slice_get}
use Rattle.ii_base.specs.declared.schema.index_record_option.IndexRecordOption.TheVariants.{Basic}
use Rattle.ii_termdict.specs.Dictionary.{TermEntry, entry_keys}
use Rattle.ii_search.specs.Found.{docs_under}
use Rattle.ii_search.proofs.RangeLemmas.{collecting_all, collecting_next, collecting_refused}
use Rattle.ii_search.proofs.ranges.docs_in_range.Goals as goal

pub returns-in-Err-clause-refused : goal.returns-in-Err-clause-refused
returns-in-Err-clause-refused c =
    let r = c.args.reader.now in
    let at : slice_get (entry_keys r.terms) c.loop-ord.ord ≡ Some c.key-key.result.now = rw (← c.terms-terms.ensures) c.key-key.ensures in
    collecting_refused (λ (key : List ℕ). docs_under Basic key (Some r)) c.args.range.now r.terms c.loop-ord.ord c.key-key.result.now c.loop-ord.docs c.in-Err.fault c.loop-ord.invariant at c.in-Err.ensures.refused

pub loop-ord-preserved : goal.loop-ord-preserved
loop-ord-preserved c =
    let r = c.args.reader.now in
    let at : slice_get (entry_keys r.terms) c.loop-ord.ord ≡ Some c.key-key.result.now = rw (← c.terms-terms.ensures) c.key-key.ensures in
    collecting_next (λ (key : List ℕ). docs_under Basic key (Some r)) c.args.range.now r.terms c.loop-ord.ord c.key-key.result.now c.loop-ord.docs c.add_if_in_range.new.docs c.loop-ord.invariant at c.in_default.ensures.added

pub returns-clause-listed : goal.returns-clause-listed
returns-clause-listed c =
    let r = c.args.reader.now in
    let end : length r.terms ≤ c.loop-ord.ord = omega (arith, c.loop-ord-test.false, c.num_terms-ord-end.ensures, ap (λ (ts : List TermEntry). length ts) c.terms-terms.ensures) in
    collecting_all (λ (key : List ℕ). docs_under Basic key (Some r)) c.args.range.now r.terms c.loop-ord.ord c.loop-ord.docs end c.loop-ord.invariant
