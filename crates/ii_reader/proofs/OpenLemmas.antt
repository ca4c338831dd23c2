-- A list that was opened, from its documents and its positions.
use Rattle.std.proofs.Common.{◌≡◌, ℕ, ◌+◌, ◌*◌, ◌≤◌, List, length, drop, Option, None, Some, Ok, refl, sym, ap, ◌∙◌, arith}
use Rattle.ii_base.specs.declared.schema.index_record_option.IndexRecordOption.{IndexRecordOption}
use Rattle.ii_base.specs.Options.{downgrade, has_positions}
use Rattle.ii_layout.specs.PositionReader.{PositionReaderState}
use Rattle.ii_layout.specs.TermList.{list_of}
use Rattle.ii_check.specs.declared.validation.Validation.{Validation}
use Rattle.ii_check.specs.CheckedPositions.{PositionCounts}
use Rattle.ii_check.specs.Positions.{deltas_read}
use Rattle.ii_reader.specs.BlockSegmentPostings.{BlockSegmentPostingsState, first_decodes}
use Rattle.ii_reader.specs.SegmentPostings.{FitCursor, OpensList, OpensParts, postings_from}
use Rattle.ii_reader.proofs.BoundLemmas.{trusted_read}
use Rattle.ii_reader.proofs.CursorLemmas.{length_opened}
use Rattle.ii_reader.proofs.PositionLemmas.{fits_found, list_opened}

module _ (validation : Validation) (recorded requested : IndexRecordOption) (doc_freq : ℕ) (postings : List ℕ) (positions : Option (List ℕ)) where
  -- both parts give the list
  pub opens_list : (cursor : BlockSegmentPostingsState) (reader : Option PositionReaderState) (counts : PositionCounts) (place : ℕ) → place ≡ 128 * cursor.block → OpensParts validation recorded requested doc_freq postings positions cursor reader counts
      → OpensList validation recorded requested doc_freq postings positions (postings_from place cursor reader counts)
  opens_list cursor reader counts place at parts =
      let docs = parts.docs in
      let zero_more : 128 * cursor.block + 0 ≡ place = omega (arith, at) in
      let listed = list_opened recorded requested doc_freq cursor.block postings cursor.docs cursor.freqs positions (deltas_read reader) docs.docs parts.deltas docs.first in
      let many = length_opened doc_freq cursor.block cursor.docs cursor.freqs (deltas_read reader) docs.entries docs.first in
      let doc_count = docs.doc_decodes in
      let freq_count = docs.freq_decodes in
      let entry_count = docs.entries_read in
      let few = by_freqs cursor.freqs cursor.freq_decodes freq_count in
      let one = parts.decodes in
      record {
        list = listed ∙ ap (λ (n : ℕ). Ok (drop n (list_of cursor.docs cursor.freqs (deltas_read reader)))) zero_more;
        doc_freq_is = docs.entries.many;
        many = ap (λ (n : ℕ). length (drop n (list_of cursor.docs cursor.freqs (deltas_read reader)))) (sym zero_more) ∙ many;
        reading = docs.reading;
        bounds = trusted_read recorded requested doc_freq postings cursor.freq_reading cursor.bounds docs.reading docs.bounds;
        first = docs.first;
        doc_blocks = docs.doc_blocks;
        freq_blocks = docs.freq_blocks;
        doc_decodes = omega arith;
        freq_decodes = omega arith;
        entries_read = omega arith;
        position_decodes = omega arith;
        checked = docs.checked;
        positions_checked = parts.checked;
      }
    where
      by_freqs : (o : Option (List ℕ)) (n : ℕ) → n ≡ first_decodes o doc_freq → n ≤ 1
      by_freqs None n e = omega arith
      by_freqs (Some freqs) n e = omega arith

  -- the deltas fit the documents
  pub parts_fit : (cursor : BlockSegmentPostingsState) (reader : Option PositionReaderState) (counts : PositionCounts) → OpensParts validation recorded requested doc_freq postings positions cursor reader counts → FitCursor cursor (deltas_read reader)
  parts_fit cursor reader counts parts =
      let docs = parts.docs in
      fits_found cursor positions (deltas_read reader) (has_positions (downgrade cursor.recorded cursor.requested)) refl (rw (docs.recorded_is, docs.requested_is) parts.deltas)
