-- How much of an index was walked.
use Rattle.std.specs.Prelude.{◌≡◌, ℕ, List, ◌++◌, length, min, Option}
use Rattle.std.specs.List.{enumerate_from, filter_map, sum_by}
use Rattle.std.specs.Result.{result_ok}
use Rattle.ii_base.specs.Schema.{SchemaEntry}
use Rattle.ii_reader.specs.InvertedIndexReader.{InvertedIndexReaderState}
use Rattle.ii_damage.specs.declared.checking.Totals.{Totals}
use Rattle.ii_damage.specs.Damages.{IndexFiles, field_entries, field_reader, max_u64}
use Rattle.ii_damage.specs.Walked.{total_positions}

-- the reader of a field, if its bodies open
abbrev pub opened_reader : IndexFiles → ℕ × SchemaEntry → Option InvertedIndexReaderState
opened_reader files f = result_ok (field_reader files f.0 f.1.option)

-- the readers of the fields whose bodies open
abbrev pub opened_readers : List SchemaEntry → IndexFiles → List InvertedIndexReaderState
opened_readers entries files = filter_map (opened_reader files) (enumerate_from 0 entries)

-- Totals are the sums over readers of terms, documents and positions, each at most `u64::MAX`.
pub record HasTotals (readers : List InvertedIndexReaderState) (t : Totals) : Type 0 where
  pub terms : t.terms ≡ min (sum_by (λ (r : InvertedIndexReaderState). length r.terms) readers) max_u64
  pub postings : t.postings ≡ min (sum_by (λ (r : InvertedIndexReaderState). length (field_entries r)) readers) max_u64
  pub positions : t.positions ≡ min (sum_by (λ (r : InvertedIndexReaderState). total_positions (field_entries r)) readers) max_u64

-- What was walked of more readers was added to the totals.
abbrev pub AddsTotals : List InvertedIndexReaderState → Totals → Totals → Type 0
AddsTotals more old new = (readers : List InvertedIndexReaderState) → HasTotals readers old → HasTotals (readers ++ more) new
