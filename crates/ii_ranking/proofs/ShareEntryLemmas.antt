-- Laws of the share of a term or a phrase in a document that a cursor goes to.
use Rattle.std.proofs.Common.{◌≡◌, ◌≢◌, ◌∙◌, ℕ, ◌<◌, ◌≤◌, ◌||◌, inl, inr, Bool, true, false, List, [], ◌∷◌, Option, None, Some, Result, Ok, filter, length, map, nat_eq, refl, sym, ap, arith}
use Rattle.std.specs.Option.{option_map, unwrap_or}
use Rattle.std.proofs.lemmas.Bool.{ne_eqb}
use Rattle.std.proofs.lemmas.Bool.Decides.{leb_tells}
use Rattle.ii_io.specs.Composite.{body_of}
use Rattle.ii_io.specs.declared.faults.Part.{Part}
use Rattle.ii_base.specs.Entries.{Entry}
use Rattle.ii_base.specs.Terms.{TermState}
use Rattle.ii_base.specs.declared.doc_id.TheConstants.{TERMINATED}
use Rattle.ii_base.specs.declared.schema.index_record_option.IndexRecordOption.TheVariants.{WithFreqs, WithFreqsAndPositions}
use Rattle.ii_bm25.specs.Bm25.{Bm25State, bm25_score, bm25_weight}
use Rattle.ii_bm25.specs.Statistics.{Statistics, idfs_of}
use Rattle.ii_docset.specs.Cursor.{IsAscending, doc_at, from_doc, positions_at, term_freq_at}
use Rattle.ii_docset.specs.Intersection.{has_doc}
use Rattle.ii_docset.proofs.CursorLemmas.{doc_below}
use Rattle.ii_docset.proofs.IntersectionLemmas.{doc_at-from_doc, has_doc-from_doc, has_doc_below}
use Rattle.ii_query.specs.Phrase.{PhrasePartState}
use Rattle.ii_query.specs.SloppyPhrase.{stand_near}
use Rattle.ii_query_parser.specs.declared.query.PhraseTerm.{PhraseTerm}
use Rattle.ii_query_parser.specs.Queries.{QueryTree, one_phrase, one_term}
use Rattle.ii_reader.specs.OpenIndex.{OpenIndexState}
use Rattle.ii_search.specs.Found.{docs_of_term}
use Rattle.ii_ranking.specs.Scores.{IsAt, entry_at, norm_id_in, num_starts, opened_or_none, parts_of, phrase_count, scored_in}
use Rattle.ii_ranking.specs.Shares.{ShareState, phrase_share, share_by, share_if_occurs, term_share}
use Rattle.ii_ranking.proofs.EntryLemmas.{entry_here}

-- no list has a document that isn't below `TERMINATED`
pub has_doc_above : (doc : ℕ) (es : List Entry) → IsAscending es → TERMINATED ≤ doc → has_doc es doc ≡ false
has_doc_above doc [] up high = refl
has_doc_above doc (e ∷ es) up high =
    let first = up.0 in
    let below = doc_below es up.1 in
    rw (ne_eqb e.doc doc (λ same. omega (arith, first, below, high, same))) (has_doc_above doc es up.1 high)

-- whether a document is the first from itself on
pub first_from : (doc : ℕ) (new : List Entry) → IsAscending new → doc ≤ doc_at new → doc < TERMINATED → nat_eq (doc_at new) doc ≡ has_doc new doc
first_from doc [] up low below = ne_eqb TERMINATED doc (λ same. omega (arith, below, same))
first_from doc (e ∷ es) up low below = by (nat_eq e.doc doc) refl
  where
    by : (t : Bool) → nat_eq e.doc doc ≡ t → nat_eq e.doc doc ≡ (nat_eq e.doc doc || has_doc es doc)
    by true test = rw test refl
    by false test = let first = up.0 in rw test (sym (has_doc_below doc es up.1 (omega (arith, low, first))))

pub sought : (doc : ℕ) (old new : List Entry) → IsAscending new → new ≡ from_doc doc old → doc < TERMINATED → nat_eq (doc_at new) doc ≡ has_doc old doc
sought doc old new up is below =
    let low : doc ≤ doc_at new = rw is (doc_at-from_doc doc old (omega (arith, below))) in
    first_from doc new up low below ∙ ap (λ (es : List Entry). has_doc es doc) is ∙ has_doc-from_doc doc doc old (omega arith)

-- a document that a list doesn't have has no entry
pub no_entry : (doc : ℕ) (es : List Entry) → has_doc es doc ≡ false → entry_at es doc ≡ None
no_entry doc [] none = refl
no_entry doc (e ∷ es) none = by (nat_eq e.doc doc) refl (no_entry doc es)
  where
    by : (t : Bool) → nat_eq e.doc doc ≡ t → (has_doc es doc ≡ false → entry_at es doc ≡ None) → entry_at (e ∷ es) doc ≡ None
    by true test later = absurd (let wrong : true ≡ false = rw test at none in cc)
    by false test later = rw test (later (rw test at none))

-- documents below this one don't matter
pub entry_from : (target doc : ℕ) (es : List Entry) → target ≤ doc → entry_at (from_doc target es) doc ≡ entry_at es doc
entry_from target doc [] up = refl
entry_from target doc (e ∷ es) up =
    elim (leb_tells target e.doc) [
      | inl h ↦ rw h.0 (by (nat_eq e.doc doc) refl (entry_from target doc es up))
      | inr h ↦ rw (h.0, ne_eqb e.doc doc (λ same. omega (arith, h.1, same, up))) (entry_from target doc es up)
    ]
  where
    by : (t : Bool) → nat_eq e.doc doc ≡ t → entry_at (from_doc target es) doc ≡ entry_at es doc → entry_at (e ∷ from_doc target es) doc ≡ entry_at (e ∷ es) doc
    by true test later = rw test refl
    by false test later = rw test later

-- The entry of the document that a cursor went to.
pub record IsEntry (doc : ℕ) (old new : List Entry) : Type 0 where
  pub entry : Entry
  pub found : entry_at old doc ≡ Some entry
  pub doc_is : entry.doc ≡ doc
  pub freq : term_freq_at false new ≡ entry.term_freq
  pub positions : positions_at new ≡ entry.positions

pub entry_of : (doc : ℕ) (old new : List Entry) → IsAt doc old new → IsEntry doc old new
entry_of doc old [] at = absurd (let low = at.below in let here = at.current in omega (arith, low, here))
entry_of doc old (e ∷ es) at = record {
  entry = e;
  found = sym (entry_from doc doc old (omega arith)) ∙ ap (λ (row : List Entry). entry_at row doc) (sym at.rest) ∙ ap (entry_at (e ∷ es)) (sym at.current) ∙ entry_here e es;
  doc_is = at.current;
  freq = refl;
  positions = refl;
}

-- a share that was counted
abbrev counted : QueryTree → Bm25State → ℕ → ℕ → ShareState
counted part w id count = record { part = part; weight = w.weight; count = count; norm_id = id; score = bm25_score w id count }

module _ (index : OpenIndexState) (st : Statistics) (term : TermState) (es : List Entry) (doc : ℕ) (listed : docs_of_term WithFreqs index term ≡ Ok es) where
  -- the share of a term whose list is known, by its entry
  abbrev of_entry : Option Entry → Option ShareState
  of_entry found = option_map (λ (e : Entry). share_by (scored_in index st) (one_term term) (term ∷ []) term.field doc e.term_freq) found

  of_list : of_entry (entry_at es doc) ≡ term_share (scored_in index st) term doc
  of_list = ap (λ (r : Result (List Entry) Part). of_entry (entry_at (opened_or_none r) doc)) (sym listed)

  pub no_term_share : has_doc es doc ≡ false → None ≡ term_share (scored_in index st) term doc
  no_term_share none = ap of_entry (sym (no_entry doc es none)) ∙ of_list

  pub counted_term : (new : List Entry) (part : QueryTree) (w : Bm25State) (id count : ℕ) → IsAt doc es new → part ≡ one_term term → w ≡ bm25_weight (idfs_of st (term ∷ [])) st.num_docs (st.num_tokens term.field)
      → id ≡ norm_id_in (body_of term.field index.fieldnorms) doc → count ≡ term_freq_at false new → Some (counted part w id count) ≡ term_share (scored_in index st) term doc
  counted_term new part w id count at part_is w_is id_is count_is =
      let e = entry_of doc es new at in
      let freq : count ≡ e.entry.term_freq = count_is ∙ e.freq in
      (λ j. Some (counted (part_is j) (w_is j) (id_is j) (freq j))) ∙ ap of_entry (sym e.found) ∙ of_list

module _ (index : OpenIndexState) (st : Statistics) (first : TermState) (others : List PhraseTerm) (slop doc : ℕ) where
  abbrev count_in : ℕ
  count_in = phrase_count slop ((scored_in index st).entries WithFreqsAndPositions first) (parts_of (scored_in index st) others) doc

  abbrev of_count : ℕ → Option ShareState
  of_count count = share_if_occurs (share_by (scored_in index st) (one_phrase first others slop) (first ∷ map (λ (o : PhraseTerm). o.term) others) first.field doc) count

  pub no_phrase_share : (count : ℕ) → count ≡ count_in → count ≡ 0 → None ≡ phrase_share (scored_in index st) first others slop doc
  no_phrase_share count is none = ap of_count (sym none ∙ is)

  pub counted_phrase : (part : QueryTree) (w : Bm25State) (id count : ℕ) → count ≡ count_in → count ≢ 0 → part ≡ one_phrase first others slop → w ≡ bm25_weight (idfs_of st (first ∷ map (λ (o : PhraseTerm). o.term) others)) st.num_docs (st.num_tokens first.field)
      → id ≡ norm_id_in (body_of first.field index.fieldnorms) doc → Some (counted part w id count) ≡ phrase_share (scored_in index st) first others slop doc
  counted_phrase part w id count is some part_is w_is id_is = (λ j. Some (counted (part_is j) (w_is j) (id_is j) count)) ∙ occurs ∙ ap of_count is
    where
      occurs : Some (share_by (scored_in index st) (one_phrase first others slop) (first ∷ map (λ (o : PhraseTerm). o.term) others) first.field doc count) ≡ of_count count
      occurs = rw (ne_eqb count 0 some) refl

  -- how often a phrase begins, given its lists
  module _ (es : List Entry) (parts : List PhrasePartState) (listed : docs_of_term WithFreqsAndPositions index first ≡ Ok es) (parts_are : parts ≡ parts_of (scored_in index st) others) where
    count_of_list : phrase_count slop es parts doc ≡ count_in
    count_of_list = (λ j. phrase_count slop (opened_or_none (sym listed j)) (parts_are j) doc)

    pub begins_nowhere : has_doc es doc ≡ false → 0 ≡ count_in
    begins_nowhere none = ap (λ (found : Option Entry). unwrap_or (option_map (num_starts slop parts) found) 0) (sym (no_entry doc es none)) ∙ count_of_list

    pub begins : (new : List Entry) (count : ℕ) → IsAt doc es new → count ≡ length (filter (stand_near slop parts (doc_at new)) (positions_at new)) → count ≡ count_in
    begins new count at is =
        let e = entry_of doc es new at in
        is ∙ (λ j. length (filter (stand_near slop parts ((at.current ∙ sym e.doc_is) j)) (e.positions j))) ∙ ap (λ (found : Option Entry). unwrap_or (option_map (num_starts slop parts) found) 0) (sym e.found) ∙ count_of_list
