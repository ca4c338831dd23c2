-- Laws of the scores of terms and phrases.
use Rattle.std.proofs.Common.{◌≡◌, ℕ, ◌+◌, ◌<◌, inl, inr, true, List, [], ◌∷◌, ◌++◌, append_assoc, Option, None, Result, Ok, get_or, length, map, nat_lt, refl, sym, ap, ◌∙◌}
use Rattle.std.specs.List.{list_all}
use Rattle.std.proofs.lemmas.Bool.{and_parts, ltb-true}
use Rattle.ii_io.specs.declared.faults.Fault.{Fault}
use Rattle.std.proofs.Math.Numerals.{add-one}
use Rattle.std.specs.Option.{option_map}
use Rattle.ii_io.specs.declared.faults.Part.{Part}
use Rattle.ii_io.specs.Composite.{body_of}
use Rattle.ii_base.specs.Entries.{Entry}
use Rattle.ii_base.specs.Terms.{TermState}
use Rattle.ii_base.specs.declared.schema.index_record_option.IndexRecordOption.TheVariants.{WithFreqs, WithFreqsAndPositions}
use Rattle.ii_bm25.specs.Bm25.{Bm25State, bm25_score, bm25_weight}
use Rattle.ii_bm25.specs.Statistics.{Statistics, idfs_of}
use Rattle.ii_query.specs.Phrase.{PhrasePartState}
use Rattle.ii_query_parser.specs.declared.query.PhraseTerm.{PhraseTerm}
use Rattle.ii_reader.specs.InvertedIndexReader.{IsRefusal}
use Rattle.ii_reader.specs.OpenIndex.{OpenIndexState}
use Rattle.ii_search.specs.Found.{docs_of_term}
use Rattle.ii_ranking.specs.Combinations.{AddsToEach}
use Rattle.ii_scorer.specs.Combinations.{either}
use Rattle.ii_ranking.specs.Scores.{IsScoreFault, damage_of, entry_at, first_of, if_occurs, norm_id_in, opened_or_none, parts_damage, phrase_count, phrase_score, scored_in, term_score}

-- a place after the first
pub get_or_after : {A : Type 0} (x : A) (xs : List A) (i : ℕ) (d : A) → get_or (x ∷ xs) (i + 1) d ≡ get_or xs i d
get_or_after x xs i d = ap (λ (n : ℕ). get_or (x ∷ xs) n d) (add-one i)

-- the same scores were added
pub adds_alike : (f g : ℕ → Option ℕ) (old new : List (Option ℕ)) → ((doc : ℕ) → f doc ≡ g doc) → AddsToEach f old new → AddsToEach g old new
adds_alike f g old new same a = record { many = a.many; each = λ doc inside. a.each doc inside ∙ ap (either (get_or old doc None)) (same doc) }

-- those of a term, given its list and its weight
pub term_adds : (index : OpenIndexState) (st : Statistics) (term : TermState) (es : List Entry) (w : Bm25State) (old new : List (Option ℕ)) → docs_of_term WithFreqs index term ≡ Ok es → w ≡ bm25_weight (idfs_of st (term ∷ [])) st.num_docs (st.num_tokens term.field)
    → AddsToEach (λ (doc : ℕ). option_map (λ (e : Entry). bm25_score w (norm_id_in (body_of term.field index.fieldnorms) doc) e.term_freq) (entry_at es doc)) old new → AddsToEach (term_score (scored_in index st) term) old new
term_adds index st term es w old new listed made a = adds_alike _ (term_score (scored_in index st) term) old new same a
  where
    same : (doc : ℕ) → option_map (λ (e : Entry). bm25_score w (norm_id_in (body_of term.field index.fieldnorms) doc) e.term_freq) (entry_at es doc) ≡ term_score (scored_in index st) term doc
    same doc = rw (listed, made) refl

-- a term of a phrase in an index
abbrev pub part_in : OpenIndexState → PhraseTerm → PhrasePartState
part_in index o = record { distance = o.distance; rest = opened_or_none (docs_of_term WithFreqsAndPositions index o.term) }

-- The terms of a phrase before those that are left opened.
pub record IsListing (index : OpenIndexState) (all left : List PhraseTerm) (parts : List PhrasePartState) : Type 0 where
  pub listed : parts ++ map (part_in index) left ≡ map (part_in index) all
  pub sound : parts_damage index left ≡ parts_damage index all
  pub fields : list_all (λ (o : PhraseTerm). nat_lt o.term.field (length index.readers)) left ≡ true

pub lists_none : (index : OpenIndexState) (all : List PhraseTerm) → list_all (λ (o : PhraseTerm). nat_lt o.term.field (length index.readers)) all ≡ true → IsListing index all all []
lists_none index all fields = record { listed = refl; sound = refl; fields = fields }

-- the field of the next one
pub field_next : (index : OpenIndexState) (all left others : List PhraseTerm) (parts : List PhrasePartState) (o : PhraseTerm) → IsListing index all left parts → left ≡ o ∷ others → o.term.field < length index.readers
field_next index all left others parts o l is = ltb-true o.term.field (length index.readers) (and_parts (nat_lt o.term.field (length index.readers)) (list_all (λ (q : PhraseTerm). nat_lt q.term.field (length index.readers)) others) (rw is at l.fields)).0

-- the next one opens
pub lists_next : (index : OpenIndexState) (all left others : List PhraseTerm) (parts more : List PhrasePartState) (o : PhraseTerm) (p : PhrasePartState) → IsListing index all left parts → left ≡ o ∷ others → docs_of_term WithFreqsAndPositions index o.term ≡ Ok p.rest → p.distance ≡ o.distance → more ≡ parts ++ p ∷ []
    → IsListing index all others more
lists_next index all left others parts more o p l is found distance more_is =
    let rest : p.rest ≡ opened_or_none (docs_of_term WithFreqsAndPositions index o.term) = ap opened_or_none (sym found) in
    record {
      listed = ap (λ (ps : List PhrasePartState). ps ++ map (part_in index) others) more_is ∙ append_assoc parts (p ∷ []) (map (part_in index) others)
          ∙ (λ j. parts ++ record { distance = distance j; rest = rest j } ∷ map (part_in index) others) ∙ ap (λ (os : List PhraseTerm). parts ++ map (part_in index) os) (sym is) ∙ l.listed;
      sound = ap (λ (r : Result (List Entry) Part). first_of (damage_of r) (parts_damage index others)) (sym found) ∙ ap (parts_damage index) (sym is) ∙ l.sound;
      fields = (and_parts (nat_lt o.term.field (length index.readers)) (list_all (λ (q : PhraseTerm). nat_lt q.term.field (length index.readers)) others) (rw is at l.fields)).1;
    }

-- a term that doesn't open
pub lists_refused : (index : OpenIndexState) (all left others : List PhraseTerm) (parts : List PhrasePartState) (o : PhraseTerm) (fault : Fault) → IsListing index all left parts → left ≡ o ∷ others → IsRefusal (docs_of_term WithFreqsAndPositions index o.term) fault → IsScoreFault (parts_damage index all) fault
lists_refused index all left others parts o fault l is (inl memory) = inl memory
lists_refused index all left others parts o fault l is (inr (part, told, found)) = inr (part, told, sym l.sound ∙ ap (parts_damage index) is ∙ (rw found refl))

-- those of a phrase, given its lists and its weight
pub phrase_same : (index : OpenIndexState) (st : Statistics) (first : TermState) (others : List PhraseTerm) (slop : ℕ) (es : List Entry) (parts : List PhrasePartState) (w : Bm25State) → docs_of_term WithFreqsAndPositions index first ≡ Ok es → parts ≡ map (part_in index) others
    → w ≡ bm25_weight (idfs_of st (first ∷ map (λ (o : PhraseTerm). o.term) others)) st.num_docs (st.num_tokens first.field)
    → (doc : ℕ) → if_occurs (bm25_score w (norm_id_in (body_of first.field index.fieldnorms) doc)) (phrase_count slop es parts doc) ≡ phrase_score (scored_in index st) first others slop doc
phrase_same index st first others slop es parts w listed parts_are made doc = rw (listed, made, parts_are) refl
