-- The entries of lists, whatever their bytes are.
use Rattle.std.proofs.Common.{◌≡◌, ℕ, ◌+◌, Bool, true, false, List, [], ◌∷◌, drop, map, take, Option, Some, None, Result, Ok, Err, refl, sym, ◌∙◌, subst, arith, true≢false}
use Rattle.std.specs.Prelude.{ok_or}
use Rattle.std.specs.List.{AllByRecursion, zip}
use Rattle.ii_io.specs.declared.faults.Part.{Part}
use Rattle.ii_io.specs.declared.faults.Part.TheVariants.{Positions}
use Rattle.ii_io.specs.Parts.{◌>>=◌}
use Rattle.ii_base.specs.declared.schema.index_record_option.IndexRecordOption.{IndexRecordOption}
use Rattle.ii_base.specs.declared.schema.index_record_option.IndexRecordOption.TheVariants.{Basic, WithFreqs, WithFreqsAndPositions}
use Rattle.ii_base.specs.Entries.{Entry, counted, document}
use Rattle.ii_base.specs.Options.{downgrade, has_positions}
use Rattle.ii_codes.specs.Sums.{DoNotFall, running_sums}
use Rattle.ii_layout.specs.Positions.{positions_of}
use Rattle.ii_layout.specs.Postings.{entries_of}
use Rattle.ii_termstore.specs.declared.term_info.TermInfo.{TermInfo}
use Rattle.ii_definitions.specs.Files.{bytes_in}
use Rattle.ii_reader.specs.InvertedIndexReader.{InvertedIndexReaderState, if_they_lie, ranges_lie, term_of_file}
use Rattle.ii_layout.specs.TermList.{deltas_if, docs_and_freqs, list_of, located, positions_if, term_list}

-- The positions of an entry don't decrease.
abbrev pub IsInOrder : Entry → Type 0
IsInOrder e = DoNotFall 0 e.positions

-- An entry has no positions.
abbrev pub IsPlain : Entry → Type 0
IsPlain e = e.positions ≡ []

sums_rise : (before : ℕ) (ds : List ℕ) → DoNotFall before (running_sums before ds)
sums_rise before [] = tt
sums_rise before (d ∷ ds) = (omega arith, sums_rise (before + d) ds)

plain_in_order : (e : Entry) → IsPlain e → IsInOrder e
plain_in_order e plain = subst (DoNotFall 0) (sym plain) tt

all_in_order : (es : List Entry) → AllByRecursion IsPlain es → AllByRecursion IsInOrder es
all_in_order [] plain = tt
all_in_order (e ∷ es) plain = (plain_in_order e plain.0, all_in_order es plain.1)

documents_plain : (docs : List ℕ) → AllByRecursion IsPlain (map document docs)
documents_plain [] = tt
documents_plain (d ∷ ds) = (refl, documents_plain ds)

counts_plain : (es : List (ℕ × ℕ)) → AllByRecursion IsPlain (map (λ (e : ℕ × ℕ). counted e.0 e.1) es)
counts_plain [] = tt
counts_plain (e ∷ es) = (refl, counts_plain es)

entries_plain : (docs : List ℕ) (freqs : Option (List ℕ)) → AllByRecursion IsPlain (entries_of docs freqs)
entries_plain docs None = documents_plain docs
entries_plain docs (Some freqs) = counts_plain (zip docs freqs)

located_in_order : (pss : List (List ℕ)) (es : List Entry) → AllByRecursion (DoNotFall 0) pss → AllByRecursion IsInOrder es → AllByRecursion IsInOrder (located pss es)
located_in_order [] es rise all = all
located_in_order (ps ∷ pss) [] rise all = tt
located_in_order (ps ∷ pss) (e ∷ es) rise all = (rise.0, located_in_order pss es rise.1 all.1)

positions_rise : (freqs deltas : List ℕ) → AllByRecursion (DoNotFall 0) (positions_of freqs deltas)
positions_rise [] deltas = tt
positions_rise (n ∷ ns) deltas = (sums_rise 0 (take n deltas), positions_rise ns (drop n deltas))

given_rise : (freqs deltas : Option (List ℕ)) → AllByRecursion (DoNotFall 0) (positions_if freqs deltas)
given_rise None deltas = tt
given_rise (Some freqs) None = tt
given_rise (Some freqs) (Some deltas) = positions_rise freqs deltas

list_in_order : (docs : List ℕ) (freqs deltas : Option (List ℕ)) → AllByRecursion IsInOrder (list_of docs freqs deltas)
list_in_order docs freqs deltas = located_in_order (positions_if freqs deltas) (entries_of docs freqs) (given_rise freqs deltas) (all_in_order (entries_of docs freqs) (entries_plain docs freqs))

list_plain : (docs : List ℕ) (freqs : Option (List ℕ)) → AllByRecursion IsPlain (list_of docs freqs None)
list_plain docs None = entries_plain docs None
list_plain docs (Some freqs) = entries_plain docs (Some freqs)

-- What is known of the entries of a list, as far as it is requested.
pub record AreListed (requested : IndexRecordOption) (es : List Entry) : Type 0 where
  pub in_order : AllByRecursion IsInOrder es
  pub plain : has_positions requested ≡ false → AllByRecursion IsPlain es

no_positions : (recorded requested : IndexRecordOption) → has_positions requested ≡ false → has_positions (downgrade recorded requested) ≡ false
no_positions Basic requested none = refl
no_positions WithFreqs Basic none = refl
no_positions WithFreqs WithFreqs none = refl
no_positions WithFreqs WithFreqsAndPositions none = refl
no_positions WithFreqsAndPositions requested none = none

module _ (recorded requested : IndexRecordOption) (positions : Option (List ℕ)) (es : List Entry) where
  -- the list of documents with frequencies and deltas, if these are read
  abbrev list_by : Option (Option (List ℕ)) → List ℕ → Option (List ℕ) → Result (List Entry) Part
  list_by deltas docs freqs = ok_or deltas Positions >>= λ (ds : Option (List ℕ)). Ok (list_of docs freqs ds)

  plain_by : (b : Bool) (docs : List ℕ) (freqs deltas : Option (List ℕ)) → has_positions (downgrade recorded requested) ≡ b → deltas_if b freqs positions ≡ Some deltas → has_positions requested ≡ false → AllByRecursion IsPlain (list_of docs freqs deltas)
  plain_by true docs freqs deltas has read none = absurd (true≢false (sym has ∙ no_positions recorded requested none))
  plain_by false docs freqs deltas has read none =
      let same : None ≡ deltas = cc in
      subst (λ (ds : Option (List ℕ)). AllByRecursion IsPlain (list_of docs freqs ds)) same (list_plain docs freqs)

  by_deltas : (docs : List ℕ) (freqs : Option (List ℕ)) (deltas : Option (Option (List ℕ))) → deltas_if (has_positions (downgrade recorded requested)) freqs positions ≡ deltas → list_by deltas docs freqs ≡ Ok es → AreListed requested es
  by_deltas docs freqs None read is = absurd (cc)
  by_deltas docs freqs (Some deltas) read is =
      let same : list_of docs freqs deltas ≡ es = cc in
      record {
        in_order = subst (AllByRecursion IsInOrder) same (list_in_order docs freqs deltas);
        plain = λ none. subst (AllByRecursion IsPlain) same (plain_by (has_positions (downgrade recorded requested)) docs freqs deltas refl read none);
      }

  by_read : (found : Result (List ℕ × Option (List ℕ)) Part)
      → (found >>= λ (read : List ℕ × Option (List ℕ)). list_by (deltas_if (has_positions (downgrade recorded requested)) read.1 positions) read.0 read.1) ≡ Ok es → AreListed requested es
  by_read (Err part) is = absurd (cc)
  by_read (Ok (docs, freqs)) is = by_deltas docs freqs (deltas_if (has_positions (downgrade recorded requested)) freqs positions) refl is

  -- the entries of a term's list
  pub are_listed : (doc_freq : ℕ) (bytes : List ℕ) → term_list recorded requested doc_freq bytes positions ≡ Ok es → AreListed requested es
  are_listed doc_freq bytes is = by_read (docs_and_freqs recorded requested doc_freq bytes) is

-- the entries of a list of a file
pub opened_listed : (reader : InvertedIndexReaderState) (requested : IndexRecordOption) (info : TermInfo) (es : List Entry) → term_of_file reader requested info ≡ Ok es → AreListed requested es
opened_listed reader requested info es is = by (ranges_lie reader requested info) is
  where
    by : (b : Bool) → if_they_lie b (term_list reader.option requested info.doc_freq (bytes_in reader.postings info.postings_range) (Some (bytes_in reader.positions info.positions_range))) ≡ Ok es → AreListed requested es
    by false is = absurd (cc)
    by true is = are_listed reader.option requested (Some (bytes_in reader.positions info.positions_range)) es info.doc_freq (bytes_in reader.postings info.postings_range) is
