-- The lists of the terms of a phrase, one after the other.
use Rattle.std.proofs.Common.{◌≡◌, ◌∙◌, ℕ, ◌+◌, ◌<◌, true, List, [], ◌∷◌, ◌++◌, append_assoc, add-one, drop, get_or, length, nat_lt, Option, None, Some, Result, Ok, Err, inl, inr, refl, sym, ap}
use Rattle.std.specs.Prelude.{IfErr, IfNone, IfSome}
use Rattle.std.specs.List.{AllByRecursion, list_all}
use Rattle.std.proofs.Math.Seq.{drop-cons}
use Rattle.std.proofs.lemmas.Bool.{and_parts}
use Rattle.ii_io.specs.declared.faults.Fault.{Fault}
use Rattle.ii_io.specs.declared.faults.Part.{Part}
use Rattle.ii_base.specs.Entries.{Entry}
use Rattle.ii_base.specs.declared.schema.index_record_option.IndexRecordOption.{IndexRecordOption}
use Rattle.ii_base.specs.declared.schema.index_record_option.IndexRecordOption.TheVariants.{WithFreqsAndPositions}
use Rattle.ii_query.specs.Phrase.{PhrasePartState, PhraseTermState, cursors_in, parts_in}
use Rattle.ii_termstore.specs.declared.term_info.TermInfo.{TermInfo}
use Rattle.ii_reader.specs.InvertedIndexReader.{InvertedIndexReaderState, IsRefusal, term_of_file}
use Rattle.ii_reader.specs.OpenIndex.{OpenIndexState}
use Rattle.ii_reader.specs.SegmentPostings.{SegmentPostingsState}
use Rattle.ii_query_parser.specs.declared.query.PhraseTerm.{PhraseTerm}
use Rattle.ii_search.specs.Decodes.{DecodesFew}
use Rattle.ii_search.specs.Found.{docs_kept, docs_of_term, phrase_parts_of, with_part}

-- a term that is refused
pub refused_kept : (option : IndexRecordOption) (reader : InvertedIndexReaderState) (kept : Option TermInfo) (r : Result (Option SegmentPostingsState) Fault) (fault : Fault) → r ≡ Err fault → IfNone kept (r ≡ Ok None)
    → IfSome kept (λ info. IfErr r (IsRefusal (term_of_file reader option info))) → IsRefusal (docs_kept option reader kept) fault
refused_kept option reader None r fault is none err = absurd (let both = sym is ∙ none in cc)
refused_kept option reader (Some info) r fault is none err = rw is at err

-- parts in front of others, or the first part that fails
abbrev pub in_front : List PhrasePartState → Result (List PhrasePartState) Part → Result (List PhrasePartState) Part
in_front parts (Ok others) = Ok (parts ++ others)
in_front parts (Err part) = Err part

-- The parts so far, in front of those of the terms that are left, are all.
pub record IsListing (index : OpenIndexState) (all left : List PhraseTerm) (parts : List PhrasePartState) : Type 0 where
  pub listed : phrase_parts_of index all ≡ in_front parts (phrase_parts_of index left)
  pub fields : list_all (λ (o : PhraseTerm). nat_lt o.term.field (length index.readers)) left ≡ true

pub none_in_front : (found : Result (List PhrasePartState) Part) → found ≡ in_front [] found
none_in_front (Ok parts) = refl
none_in_front (Err part) = refl

pub listing_first : (index : OpenIndexState) (all : List PhraseTerm) → list_all (λ (o : PhraseTerm). nat_lt o.term.field (length index.readers)) all ≡ true → IsListing index all all []
listing_first index all fields = record { listed = none_in_front (phrase_parts_of index all); fields = fields }

-- a place among the terms
pub term_at : (all : List PhraseTerm) (i : ℕ) (o : PhraseTerm) → i < length all → o ≡ get_or all i o → drop i all ≡ o ∷ drop (i + 1) all
term_at all i o inside is = drop-cons all i o inside ∙ rw (← is, add-one i) refl

one_more : (distance : ℕ) (es : List Entry) (parts : List PhrasePartState) (found : Result (List PhrasePartState) Part) → in_front parts (with_part distance (Ok es) found) ≡ in_front (parts ++ record { distance = distance; rest = es } ∷ []) found
one_more distance es parts (Ok others) = ap (λ (ps : List PhrasePartState). Ok ps) (sym (append_assoc parts (record { distance = distance; rest = es } ∷ []) others))
one_more distance es parts (Err part) = refl

-- one term more
pub listing_next : (index : OpenIndexState) (all left others : List PhraseTerm) (parts more : List PhrasePartState) (o : PhraseTerm) (p : PhrasePartState) → IsListing index all left parts → left ≡ o ∷ others → p.distance ≡ o.distance → docs_of_term WithFreqsAndPositions index o.term ≡ Ok p.rest
    → more ≡ parts ++ p ∷ [] → IsListing index all others more
listing_next index all left others parts more o p l is distance_is found more_is = record {
  listed = l.listed ∙ ap (λ (os : List PhraseTerm). in_front parts (phrase_parts_of index os)) is
      ∙ (λ j. in_front parts (with_part (sym distance_is j) (found j) (phrase_parts_of index others)))
      ∙ one_more p.distance p.rest parts (phrase_parts_of index others)
      ∙ ap (λ (ps : List PhrasePartState). in_front ps (phrase_parts_of index others)) (sym more_is);
  fields = (and_parts (nat_lt o.term.field (length index.readers)) (list_all (λ (q : PhraseTerm). nat_lt q.term.field (length index.readers)) others) (rw is at l.fields)).1;
}

-- a term is refused
pub listing_refused : (index : OpenIndexState) (all left others : List PhraseTerm) (parts : List PhrasePartState) (o : PhraseTerm) (fault : Fault) → IsListing index all left parts → left ≡ o ∷ others → IsRefusal (docs_of_term WithFreqsAndPositions index o.term) fault
    → IsRefusal (phrase_parts_of index all) fault
listing_refused index all left others parts o fault l is (inl memory) = inl memory
listing_refused index all left others parts o fault l is (inr (part, why, err)) =
    inr (part, why, l.listed ∙ ap (λ (os : List PhraseTerm). in_front parts (phrase_parts_of index os)) is ∙ ap (λ (found : Result (List Entry) Part). in_front parts (with_part o.distance found (phrase_parts_of index others))) err)

-- one cursor more
pub parts_pushed : {P : Type 0} (terms : List (PhraseTermState P)) (t : PhraseTermState P) → parts_in (terms ++ t ∷ []) ≡ parts_in terms ++ t.part ∷ []
parts_pushed [] t = refl
parts_pushed (s ∷ ss) t = ap (λ (ps : List PhrasePartState). s.part ∷ ps) (parts_pushed ss t)

pub lazy_pushed : (terms : List (PhraseTermState SegmentPostingsState)) (t : PhraseTermState SegmentPostingsState) → AllByRecursion DecodesFew (cursors_in terms) → DecodesFew t.cursor → AllByRecursion DecodesFew (cursors_in (terms ++ t ∷ []))
lazy_pushed [] t all few = (few, tt)
lazy_pushed (s ∷ ss) t all few = (all.0, lazy_pushed ss t all.1 few)
