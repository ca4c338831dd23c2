-- Opening a phrase whose last term is one of a range.
use Rattle.std.proofs.Common.{◌≡◌, ◌∙◌, ℕ, List, [], ◌∷◌, ◌++◌, map, Some, Result, Ok, Err, inl, inr, refl, ap}
use Rattle.std.specs.Prelude.{slice_get}
use Rattle.ii_io.specs.declared.faults.Fault.{Fault}
use Rattle.ii_io.specs.declared.faults.Part.{Part}
use Rattle.ii_base.specs.Entries.{Entry}
use Rattle.ii_base.specs.declared.schema.index_record_option.IndexRecordOption.TheVariants.{WithFreqsAndPositions}
use Rattle.ii_query.specs.Phrase.{PhrasePartState}
use Rattle.ii_query_parser.specs.declared.phrase_prefix.PhrasePrefix.{PhrasePrefix}
use Rattle.ii_query_parser.specs.declared.query.PhraseTerm.{PhraseTerm}
use Rattle.ii_query_parser.specs.Queries.{others_with}
use Rattle.ii_reader.specs.InvertedIndexReader.{InvertedIndexReaderState, IsRefusal}
use Rattle.ii_reader.specs.OpenIndex.{OpenIndexState}
use Rattle.ii_termdict.specs.Dictionary.{TermEntry}
use Rattle.ii_search.specs.declared.phrase_prefixes.OpenedTerm.{OpenedTerm}
use Rattle.ii_search.specs.PhrasePrefixes.{part_of}
use Rattle.ii_search.specs.Found.{docs_of_term, phrase_of, phrase_parts_of, phrase_prefix_lists, phrase_with, with_part}
use Rattle.ii_search.proofs.PartLemmas.{in_front, none_in_front}
use Rattle.ii_search.proofs.PhrasePrefixMatches.{last_with}
use Rattle.ii_search.proofs.RangeLemmas.{lists_in_range}

-- the lists of the keys in the range are those of the dictionary of the field
pub lists_of_field : (index : OpenIndexState) (p : PhrasePrefix) (reader : InvertedIndexReaderState) (entries : List TermEntry) → slice_get index.readers p.last.prefix.field ≡ Some reader → entries ≡ reader.terms
    → phrase_prefix_lists index p ≡ lists_in_range (phrase_with index p) p.last entries
lists_of_field index p reader entries is terms = rw (is, terms) refl

-- parts before others, or the first part that fails
abbrev before : Result (List PhrasePartState) Part → Result (List PhrasePartState) Part → Result (List PhrasePartState) Part
before (Ok parts) others = in_front parts others
before (Err part) others = Err part

with_before : (distance : ℕ) (first : Result (List Entry) Part) (found others : Result (List PhrasePartState) Part) → with_part distance first (before found others) ≡ before (with_part distance first found) others
with_before distance (Err part) found others = refl
with_before distance (Ok es) (Err part) others = refl
with_before distance (Ok es) (Ok parts) (Ok others) = refl
with_before distance (Ok es) (Ok parts) (Err part) = refl

parts_before : (index : OpenIndexState) (os more : List PhraseTerm) → phrase_parts_of index (os ++ more) ≡ before (phrase_parts_of index os) (phrase_parts_of index more)
parts_before index [] more = none_in_front (phrase_parts_of index more)
parts_before index (o ∷ os) more =
    ap (with_part o.distance (docs_of_term WithFreqsAndPositions index o.term)) (parts_before index os more)
    ∙ with_before o.distance (docs_of_term WithFreqsAndPositions index o.term) (phrase_parts_of index os) (phrase_parts_of index more)

module _ (index : OpenIndexState) (os : List PhraseTerm) (o : PhraseTerm) where
  -- the last of the terms opens
  pub last_opens : (parts : List PhrasePartState) (es : List Entry) → phrase_parts_of index os ≡ Ok parts → docs_of_term WithFreqsAndPositions index o.term ≡ Ok es
      → phrase_parts_of index (os ++ o ∷ []) ≡ Ok (parts ++ record { distance = o.distance; rest = es } ∷ [])
  last_opens parts es is found = parts_before index os (o ∷ []) ∙ rw (is, found) refl

  -- it is refused
  pub last_refused : (parts : List PhrasePartState) (fault : Fault) → phrase_parts_of index os ≡ Ok parts → IsRefusal (docs_of_term WithFreqsAndPositions index o.term) fault → IsRefusal (phrase_parts_of index (os ++ o ∷ [])) fault
  last_refused parts fault is (inl memory) = inl memory
  last_refused parts fault is (inr (part, why, err)) = inr (part, why, parts_before index os (o ∷ []) ∙ rw (is, err) refl)

-- one opened term more
pub opened_pushed : (terms : List OpenedTerm) (t : OpenedTerm) → map part_of (terms ++ t ∷ []) ≡ map part_of terms ++ part_of t ∷ []
opened_pushed [] t = refl
opened_pushed (s ∷ ss) t = ap (λ (ps : List PhrasePartState). part_of s ∷ ps) (opened_pushed ss t)

-- a term between the first and the last one is refused
pub refused_before : (index : OpenIndexState) (p : PhrasePrefix) (key : List ℕ) (es : List Entry) (fault : Fault) → docs_of_term WithFreqsAndPositions index p.first ≡ Ok es → IsRefusal (phrase_parts_of index p.others.items) fault → IsRefusal (phrase_with index p key) fault
refused_before index p key es fault first (inl memory) = inl memory
refused_before index p key es fault first (inr (part, why, err)) =
    inr (part, why, ap (λ (found : Result (List Entry) Part). phrase_of 0 found (phrase_parts_of index (others_with p key))) first ∙ ap (phrase_of 0 (Ok es)) (parts_before index p.others.items (last_with p key ∷ []) ∙ ap (λ (found : Result (List PhrasePartState) Part). before found (phrase_parts_of index (last_with p key ∷ []))) err))
