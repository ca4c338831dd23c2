-- Laws of scorers over one cursor.
use Rattle.std.proofs.Common.{◌≡◌, ◌∙◌, ℕ, zero, suc, ◌^◌, ◌<◌, ◌≤◌, Bool, true, false, inl, inr, List, [], ◌∷◌, Option, None, Some, Ok, get_or, if◌then◌else◌, length, map, nat_eq, nat_lt, refl, sym, ap, subst, slice_index_or, arith}
use Rattle.std.specs.Option.{option_map}
use Rattle.std.proofs.lemmas.Bool.{cases_lt, ltb-false, ltb-true, ne_eqb}
use Rattle.std.proofs.lemmas.Bool.Decides.{leb_tells}
use Rattle.std.proofs.lemmas.List.{get_or_default}
use Rattle.ii_io.specs.Composite.{body_of}
use Rattle.ii_base.specs.Entries.{Entry}
use Rattle.ii_base.specs.Terms.{TermState}
use Rattle.ii_base.specs.declared.schema.index_record_option.IndexRecordOption.TheVariants.{WithFreqs, WithFreqsAndPositions}
use Rattle.ii_bm25.specs.Bm25.{Bm25State, bm25_score, bm25_weight}
use Rattle.ii_bm25.specs.Statistics.{Statistics, idfs_of}
use Rattle.ii_query.specs.Phrase.{PhrasePartState}
use Rattle.ii_query_parser.specs.declared.query.PhraseTerm.{PhraseTerm}
use Rattle.ii_reader.specs.OpenIndex.{OpenIndexState}
use Rattle.ii_search.specs.Found.{docs_of_term}
use Rattle.ii_base.specs.declared.doc_id.TheConstants.{TERMINATED}
use Rattle.ii_bm25.specs.declared.bm25.TheConstants.{SCORE_ONE}
use Rattle.ii_docset.specs.Cursor.{IsAscending, doc_at, from_doc}
use Rattle.ii_docset.specs.Intersection.{has_doc}
use Rattle.ii_docset.proofs.CursorLemmas.{doc_below, nothing_left}
use Rattle.ii_docset.proofs.IntersectionLemmas.{doc_at-from_doc, has_doc-from_doc, has_doc_below}
use Rattle.ii_fieldnorm.specs.Readers.{Norms, norms_of_ids}
use Rattle.ii_scorer.specs.Scorers.{IsBelow, IsBounded, IsNext, IsPassed, IsUpTo, KeepsFrom, ScorerState, doc_bound, if_at_least, score_of}
use Rattle.ii_scorer.proofs.BoundLemmas.{row_reaches}
use Rattle.ii_scorer.proofs.PartsLemmas.{row_alike, row_end, row_holds, row_is, row_next, row_score}
use Rattle.ii_scorer.proofs.ScorerLemmas.{below_none}
use Rattle.ii_ranking.specs.LeafScorers.{leaf_of}
use Rattle.ii_ranking.specs.NormIds.{id_among}
use Rattle.ii_ranking.specs.Scores.{entry_at, if_occurs, norm_id_in, parts_of, phrase_count, phrase_score, scored_in, term_score}
use Rattle.ii_ranking.proofs.ScoreLemmas.{phrase_same}
use Rattle.ii_ranking.proofs.EntryLemmas.{none_below}
use Rattle.ii_ranking.proofs.ShareEntryLemmas.{entry_from}

-- What documents score by a list of entries: nothing without an entry, and the same by the entries from a document on.
pub record IsRow (f : List Entry → ℕ → Option ℕ) : Type 0 where
  pub alike : (target doc : ℕ) (es : List Entry) → target ≤ doc → f (from_doc target es) doc ≡ f es doc
  pub passed : (target doc : ℕ) (es : List Entry) → doc < target → f (from_doc target es) doc ≡ None
  pub below : (doc : ℕ) (es : List Entry) → IsAscending es → doc < doc_at es → f es doc ≡ None
  pub none : (doc : ℕ) → f [] doc ≡ None

-- ---- what the entry of a document scores
pub entry_passed : (target doc : ℕ) (es : List Entry) → doc < target → entry_at (from_doc target es) doc ≡ None
entry_passed target doc [] low = refl
entry_passed target doc (e ∷ es) low =
    elim (leb_tells target e.doc) [
      | inl h ↦ rw (h.0, ne_eqb e.doc doc (λ same. omega (arith, h.1, same, low))) (entry_passed target doc es low)
      | inr h ↦ rw h.0 (entry_passed target doc es low)
    ]

pub entry_row : (score_by : ℕ → Option Entry → Option ℕ) → ((doc : ℕ) → score_by doc None ≡ None) → IsRow (λ (es : List Entry) (doc : ℕ). score_by doc (entry_at es doc))
entry_row score_by none = record {
  alike = λ target doc es up. ap (score_by doc) (entry_from target doc es up);
  passed = λ target doc es low. ap (score_by doc) (entry_passed target doc es low) ∙ none doc;
  below = λ doc es up low. ap (score_by doc) (none_below doc es up low) ∙ none doc;
  none = none;
}

-- ---- documents that score 1.0
has_passed : (target doc : ℕ) (es : List Entry) → doc < target → has_doc (from_doc target es) doc ≡ false
has_passed target doc [] low = refl
has_passed target doc (e ∷ es) low =
    elim (leb_tells target e.doc) [
      | inl h ↦ rw (h.0, ne_eqb e.doc doc (λ same. omega (arith, h.1, same, low))) (has_passed target doc es low)
      | inr h ↦ rw h.0 (has_passed target doc es low)
    ]

abbrev pub one_if : Bool → Option ℕ
one_if has = if has then Some SCORE_ONE else None

pub found_row : IsRow (λ (es : List Entry) (doc : ℕ). one_if (has_doc es doc))
found_row = record {
  alike = λ target doc es up. ap one_if (has_doc-from_doc target doc es up);
  passed = λ target doc es low. ap one_if (has_passed target doc es low);
  below = λ doc es up low. ap one_if (has_doc_below doc es up low);
  none = λ doc. refl;
}

-- ---- no document from `TERMINATED` on
pub row_ends : (f : List Entry → ℕ → Option ℕ) → IsRow f → (es : List Entry) → IsAscending es → (doc : ℕ) → TERMINATED ≤ doc → f es doc ≡ None
row_ends f row es up doc end = sym (row.alike doc doc es (omega arith)) ∙ ap (λ (row : List Entry). f row doc) (gone doc es up end) ∙ row.none doc
  where
    gone : (d : ℕ) (fs : List Entry) → IsAscending fs → TERMINATED ≤ d → from_doc d fs ≡ []
    gone d [] up end = refl
    gone d (e ∷ fs) up end =
        let first = up.0 in
        let low = doc_below fs up.1 in
        elim (leb_tells d e.doc) [
          | inl h ↦ absurd (omega (arith, h.1, first, low, end))
          | inr h ↦ rw h.0 (gone d fs up.1 end)
        ]

-- ---- a cursor that dropped the documents below a target
pub leaf_next : (f : List Entry → ℕ → Option ℕ) → IsRow f → (most target least next : ℕ) (old new : List Entry) → target ≤ TERMINATED → new ≡ from_doc target old → IsAscending new → next ≡ doc_at new → IsNext target least (score_of (leaf_of (f old) most)) next
leaf_next f row most target least next old new up is ascending at = row_next target least next (f old) (record {
  low = let low : target ≤ doc_at new = rw is (doc_at-from_doc target old up) in omega (arith, low, at);
  up_to = let end = doc_below new ascending in omega (arith, at, end);
  passed = λ doc from passed. below_none least (f old doc) (gone doc from passed);
})
  where
    gone : (doc : ℕ) → target ≤ doc → IsPassed next doc → f old doc ≡ None
    gone doc from (inl low) = sym (row.alike target doc old from) ∙ ap (λ (es : List Entry). f es doc) (sym is) ∙ row.below doc new ascending (omega (arith, low, at))
    gone doc from (inr end) = sym (row.alike target doc old from) ∙ ap (λ (es : List Entry). f es doc) (sym is ∙ sym (nothing_left new ascending (omega (arith, end, at)))) ∙ row.none doc

-- a cursor that skipped documents that score less
pub leaf_skips : (f : List Entry → ℕ → Option ℕ) → IsRow f → (most target least next : ℕ) (old new : List Entry) → target ≤ next → next ≡ doc_at new → new ≡ from_doc next old → IsAscending new → ((doc : ℕ) → target ≤ doc → doc < next → IsBelow least (f old doc)) → IsNext target least (score_of (leaf_of (f old) most)) next
leaf_skips f row most target least next old new low at is ascending passed = row_next target least next (f old) (record {
  low = low;
  up_to = let end = doc_below new ascending in omega (arith, at, end);
  passed = λ doc from gone. by doc from gone;
})
  where
    none : (doc : ℕ) → next ≤ doc → TERMINATED ≤ next → f old doc ≡ None
    none doc above end = sym (row.alike next doc old above) ∙ ap (λ (es : List Entry). f es doc) (sym is ∙ sym (nothing_left new ascending (omega (arith, end, at)))) ∙ row.none doc

    by : (doc : ℕ) → target ≤ doc → IsPassed next doc → IsBelow least (f old doc)
    by doc from (inl before) = passed doc from before
    by doc from (inr end) = elim (cases_lt doc next) [
      | inl before ↦ passed doc from before
      | inr above ↦ below_none least (f old doc) (none doc above end)
    ]

-- the scores from a document on, and none below
pub leaf_keeps : (f g : ℕ → Option ℕ) (most from : ℕ) → ((doc : ℕ) → from ≤ doc → g doc ≡ f doc) → ((doc : ℕ) → doc < from → g doc ≡ None) → KeepsFrom from (leaf_of f most) (leaf_of g most)
leaf_keeps f g most from alike none = record {
  alike = row_alike from f g alike;
  most = refl;
  depth = refl;
  bounds = refl;
  bounded = λ b. record { fits = b.fits; ends = λ doc end. row_end TERMINATED g doc end; each = λ doc. up_to b doc (nat_lt doc from) refl };
}
  where
    up_to : IsBounded (leaf_of f most) → (doc : ℕ) → (t : Bool) → nat_lt doc from ≡ t → IsUpTo most (score_of (leaf_of g most) doc)
    up_to b doc true is = row_holds (IsUpTo most) g doc tt (subst (IsUpTo most) (sym (none doc (ltb-true doc from is))) tt)
    up_to b doc false is = subst (IsUpTo most) (sym (row_alike from f g alike doc (ltb-false doc from is))) (b.each doc)

pub leaf_went : (f : List Entry → ℕ → Option ℕ) → IsRow f → (most target : ℕ) (old new : List Entry) → new ≡ from_doc target old → KeepsFrom target (leaf_of (f old) most) (leaf_of (f new) most)
leaf_went f row most target old new is = leaf_keeps (f old) (f new) most target (λ doc from. ap (λ (es : List Entry). f es doc) is ∙ row.alike target doc old from) (λ doc low. ap (λ (es : List Entry). f es doc) is ∙ row.passed target doc old low)

-- a document that the cursor doesn't have
pub leaf_none : (f : List Entry → ℕ → Option ℕ) → IsRow f → (most doc least next : ℕ) (old new : List Entry) → doc < TERMINATED → new ≡ from_doc doc old → IsAscending new → next ≡ doc_at new → (next ≡ doc → ⊥) → None ≡ if_at_least least (score_of (leaf_of (f old) most) doc)
leaf_none f row most doc least next old new end is ascending at other =
    let low : doc ≤ doc_at new = rw is (doc_at-from_doc doc old (omega (arith, end))) in
    let none : f old doc ≡ None = sym (row.alike doc doc old (omega arith)) ∙ ap (λ (es : List Entry). f es doc) (sym is) ∙ row.below doc new ascending (strict low) in
    row_score least doc None (f old) end (sym (ap (if_at_least least) none))
  where
    strict : doc ≤ doc_at new → doc < doc_at new
    strict low = by (nat_lt doc (doc_at new)) refl
      where
        by : (t : Bool) → nat_lt doc (doc_at new) ≡ t → doc < doc_at new
        by true is = ltb-true doc (doc_at new) is
        by false is = let high = ltb-false doc (doc_at new) is in absurd (other (omega (arith, at, low, high)))

-- one that it has
pub leaf_here : (f : List Entry → ℕ → Option ℕ) → IsRow f → (most doc least : ℕ) (old new : List Entry) (given score : Option ℕ) → doc < TERMINATED → new ≡ from_doc doc old → given ≡ if_at_least least score → f new doc ≡ score → given ≡ if_at_least least (score_of (leaf_of (f old) most) doc)
leaf_here f row most doc least old new given score end is at same =
    row_score least doc given (f old) end (at ∙ ap (if_at_least least) (sym same ∙ ap (λ (es : List Entry). f es doc) is ∙ row.alike doc doc old (omega arith)))

-- ---- bounds
pub leaf_bounded : (f : ℕ → Option ℕ) (most : ℕ) → most < 2 ^ 64 → ((doc : ℕ) → IsUpTo most (f doc)) → IsBounded (leaf_of f most)
leaf_bounded f most few up = record { fits = few; ends = λ doc end. row_end TERMINATED f doc end; each = λ doc. row_holds (IsUpTo most) f doc tt (up doc) }

pub leaf_within : (f : ℕ → Option ℕ) (most given doc : ℕ) → given ≡ most → doc < TERMINATED → given ≤ doc_bound (leaf_of f most) doc
leaf_within f most given doc is low = row_reaches given doc (λ (d : ℕ). most) low (omega (arith, is))

pub entry_up_to : (score : ℕ → ℕ) (most : ℕ) (found : Option Entry) → ((count : ℕ) → score count ≤ most) → IsUpTo most (option_map (λ (e : Entry). score e.term_freq) found)
entry_up_to score most None up = tt
entry_up_to score most (Some e) up = up e.term_freq

pub occurs_up_to : (score : ℕ → ℕ) (most count : ℕ) → ((n : ℕ) → score n ≤ most) → IsUpTo most (if_occurs score count)
occurs_up_to score most count up = by (nat_eq count 0)
  where
    by : (t : Bool) → IsUpTo most (if t then None else Some (score count))
    by true = tt
    by false = up count

pub one_up_to : (has : Bool) → IsUpTo SCORE_ONE (one_if has)
one_up_to true = omega arith
one_up_to false = tt

-- ---- the norm of a document
pub ids_among : (ids : Option (List ℕ)) (doc : ℕ) → id_among (option_map norms_of_ids ids) doc ≡ norm_id_in ids doc
ids_among None doc = refl
ids_among (Some ids) doc = by (nat_lt doc (length ids)) refl
  where
    outside : (xs : List ℕ) (i : ℕ) → length xs ≤ i → slice_index_or xs i 1 ≡ 1
    outside [] i low = refl
    outside (x ∷ xs) zero low = absurd (omega (arith, low))
    outside (x ∷ xs) (suc i) low = outside xs i (omega (arith, low))

    by : (t : Bool) → nat_lt doc (length ids) ≡ t → (if nat_lt doc (length ids) then get_or ids doc 0 else 1) ≡ slice_index_or ids doc 1
    by true is = rw is (get_or_default ids doc 0 1 (ltb-true doc (length ids) is))
    by false is = rw is (sym (outside ids doc (ltb-false doc (length ids) is)))

-- ---- what was opened
pub leaf_is : (f g : ℕ → Option ℕ) (most : ℕ) → ((doc : ℕ) → f doc ≡ g doc) → ((doc : ℕ) → TERMINATED ≤ doc → f doc ≡ None) → (doc : ℕ) → score_of (leaf_of f most) doc ≡ g doc
leaf_is f g most same ends = row_is f g same (λ doc end. sym (same doc) ∙ ends doc end)

pub term_opened : (index : OpenIndexState) (st : Statistics) (term : TermState) (es : List Entry) (norms : Option Norms) (w : Bm25State) → docs_of_term WithFreqs index term ≡ Ok es → norms ≡ option_map norms_of_ids (body_of term.field index.fieldnorms) → w ≡ bm25_weight (idfs_of st (term ∷ [])) st.num_docs (st.num_tokens term.field)
    → (doc : ℕ) → option_map (λ (e : Entry). bm25_score w (id_among norms doc) e.term_freq) (entry_at es doc) ≡ term_score (scored_in index st) term doc
term_opened index st term es norms w listed found made doc =
    ap (λ (id : ℕ). option_map (λ (e : Entry). bm25_score w id e.term_freq) (entry_at es doc)) (ap (λ (n : Option Norms). id_among n doc) found ∙ ids_among (body_of term.field index.fieldnorms) doc)
    ∙ whole
  where
    whole : option_map (λ (e : Entry). bm25_score w (norm_id_in (body_of term.field index.fieldnorms) doc) e.term_freq) (entry_at es doc) ≡ term_score (scored_in index st) term doc
    whole = rw (listed, made) refl

pub phrase_opened : (index : OpenIndexState) (st : Statistics) (first : TermState) (others : List PhraseTerm) (slop : ℕ) (es : List Entry) (parts : List PhrasePartState) (norms : Option Norms) (w : Bm25State) → docs_of_term WithFreqsAndPositions index first ≡ Ok es → parts ≡ parts_of (scored_in index st) others
    → norms ≡ option_map norms_of_ids (body_of first.field index.fieldnorms) → w ≡ bm25_weight (idfs_of st (first ∷ map (λ (o : PhraseTerm). o.term) others)) st.num_docs (st.num_tokens first.field)
    → (doc : ℕ) → if_occurs (bm25_score w (id_among norms doc)) (phrase_count slop es parts doc) ≡ phrase_score (scored_in index st) first others slop doc
phrase_opened index st first others slop es parts norms w listed parts_are found made doc =
    ap (λ (id : ℕ). if_occurs (bm25_score w id) (phrase_count slop es parts doc)) (ap (λ (n : Option Norms). id_among n doc) found ∙ ids_among (body_of first.field index.fieldnorms) doc)
    ∙ phrase_same index st first others slop es parts w listed parts_are made doc

-- what keeps the documents from one on keeps those from a later one on
pub keeps_later : (from later : ℕ) (old new : ScorerState) → from ≤ later → KeepsFrom from old new → KeepsFrom later old new
keeps_later from later old new up k = record { alike = λ doc above. k.alike doc (omega (arith, up, above)); most = k.most; depth = k.depth; bounds = k.bounds; bounded = k.bounded }
