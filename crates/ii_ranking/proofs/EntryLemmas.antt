-- Laws of scores that are added entry by entry.
use Rattle.std.proofs.Common.{◌≡◌, ◌≢◌, ℕ, ◌<◌, ◌⊎◌, inl, inr, Bool, true, false, List, [], ◌∷◌, Option, None, Some, drop, get_or, if◌then◌else◌, length, nat_eq, nat_lt, refl, sym, ap, ◌∙◌, arith}
use Rattle.std.specs.Option.{option_map}
use Rattle.std.proofs.lemmas.Bool.{cases_eq, eq-eqb, lt-ltb, ne_eqb}
use Rattle.std.proofs.lemmas.List.{get_or-set_same, get_or-set_other, length-set}
use Rattle.ii_base.specs.declared.doc_id.TheConstants.{TERMINATED}
use Rattle.ii_base.specs.Entries.{Entry}
use Rattle.ii_bm25.specs.declared.bm25.TheConstants.{SCORE_ONE}
use Rattle.ii_docset.specs.Cursor.{IsAscending, doc_at, term_freq_at}
use Rattle.ii_docset.specs.Intersection.{has_doc}
use Rattle.ii_ranking.specs.Combinations.{AddsToEach, added_at}
use Rattle.ii_scorer.specs.Combinations.{either}
use Rattle.ii_ranking.specs.Scores.{entry_at}
use Rattle.ii_scorer.proofs.SumLemmas.{either_none}

-- below its first document a list has no entry
pub none_below : (doc : ℕ) (es : List Entry) → IsAscending es → doc < doc_at es → entry_at es doc ≡ None
none_below doc [] up low = refl
none_below doc (e ∷ es) up low =
    let first = up.0 in
    rw (ne_eqb e.doc doc (λ same. omega (arith, low, same))) (none_below doc es up.1 (omega (arith, low, first)))

-- the entry of the first document
pub entry_here : (e : Entry) (es : List Entry) → entry_at (e ∷ es) e.doc ≡ Some e
entry_here e es = rw (eq-eqb e.doc e.doc refl) refl

-- that of another one
entry_later : (doc : ℕ) (e : Entry) (es : List Entry) → e.doc ≢ doc → entry_at (e ∷ es) doc ≡ entry_at es doc
entry_later doc e es other = rw (ne_eqb e.doc doc other) refl

-- what the first document scores by its count
pub count_here : (score_of : ℕ → ℕ) (doc count : ℕ) (es : List Entry) → doc ≡ doc_at es → doc < TERMINATED → count ≡ term_freq_at false es → option_map (λ (e : Entry). score_of e.term_freq) (entry_at es doc) ≡ Some (score_of count)
count_here score_of doc count [] here low is = absurd (omega (arith, here, low))
count_here score_of doc count (e ∷ es) here low is =
    ap (λ (d : ℕ). option_map (λ (f : Entry). score_of f.term_freq) (entry_at (e ∷ es) d)) here ∙ ap (option_map (λ (f : Entry). score_of f.term_freq)) (entry_here e es) ∙ ap (λ (n : ℕ). Some (score_of n)) (sym is)

-- What documents score by the entries that are left, added to their scores, is what they score by all; a document without an entry has no score.
pub record IsAdding (score_of : ℕ → Option Entry → Option ℕ) (all rest : List Entry) (old new : List (Option ℕ)) : Type 0 where
  pub many : length new ≡ length old
  pub each : (doc : ℕ) → doc < length old → either (get_or new doc None) (score_of doc (entry_at rest doc)) ≡ either (get_or old doc None) (score_of doc (entry_at all doc))

-- the score of a document after that of one was added
added_here : (score : Option ℕ) (doc : ℕ) (row : List (Option ℕ)) → doc < length row → get_or (added_at score doc row) doc None ≡ either (get_or row doc None) score
added_here score doc row inside = rw (lt-ltb doc (length row) inside) (get_or-set_same row doc (either (get_or row doc None) score) None inside)

added_other : (score : Option ℕ) (doc other : ℕ) (row : List (Option ℕ)) → other ≢ doc → get_or (added_at score doc row) other None ≡ get_or row other None
added_other score doc other row differs = by (nat_lt doc (length row)) refl
  where
    by : (t : Bool) → nat_lt doc (length row) ≡ t → get_or (added_at score doc row) other None ≡ get_or row other None
    by true inside = rw inside (get_or-set_other row doc other (either (get_or row doc None) score) None differs)
    by false outside = rw outside refl

added_many : (score : Option ℕ) (doc : ℕ) (row : List (Option ℕ)) → length (added_at score doc row) ≡ length row
added_many score doc row = by (nat_lt doc (length row)) refl
  where
    by : (t : Bool) → nat_lt doc (length row) ≡ t → length (added_at score doc row) ≡ length row
    by true inside = rw inside (length-set row doc (either (get_or row doc None) score))
    by false outside = rw outside refl

-- one document more
pub adds_one : (score_of : ℕ → Option Entry → Option ℕ) → ((doc : ℕ) → score_of doc None ≡ None) → (doc : ℕ) (all rest later : List Entry) (old new : List (Option ℕ)) → doc ≡ doc_at rest → doc < TERMINATED → IsAscending rest → later ≡ drop 1 rest
    → IsAdding score_of all rest old new → IsAdding score_of all later old (added_at (score_of doc (entry_at rest doc)) doc new)
adds_one score_of none doc all [] later old new here low up on a = absurd (omega (arith, here, low))
adds_one score_of none doc all (e ∷ es) later old new here low up on a = record {
  many = added_many (score_of doc (entry_at (e ∷ es) doc)) doc new ∙ a.many;
  each = λ d inside. at d inside (cases_eq d doc);
}
  where
    rest_is : (d : ℕ) → score_of d (entry_at later d) ≡ score_of d (entry_at es d)
    rest_is d = ap (λ (row : List Entry). score_of d (entry_at row d)) on

    ends : score_of doc (entry_at later doc) ≡ None
    ends = rest_is doc ∙ ap (score_of doc) (none_below doc es up.1 (let first = up.0 in omega (arith, here, first))) ∙ none doc

    other_is : (d : ℕ) → d ≢ doc → score_of d (entry_at later d) ≡ score_of d (entry_at (e ∷ es) d)
    other_is d other = rest_is d ∙ ap (score_of d) (sym (entry_later d e es (λ same. other (sym same ∙ sym here))))

    at : (d : ℕ) → d < length old → (d ≡ doc) ⊎ (d ≢ doc) → either (get_or (added_at (score_of doc (entry_at (e ∷ es) doc)) doc new) d None) (score_of d (entry_at later d)) ≡ either (get_or old d None) (score_of d (entry_at all d))
    at d inside (inl same) =
        let many = a.many in
        ap (λ (n : ℕ). either (get_or (added_at (score_of doc (entry_at (e ∷ es) doc)) doc new) n None) (score_of n (entry_at later n))) same
        ∙ ap (either (get_or (added_at (score_of doc (entry_at (e ∷ es) doc)) doc new) doc None)) ends ∙ either_none (get_or (added_at (score_of doc (entry_at (e ∷ es) doc)) doc new) doc None) ∙ added_here (score_of doc (entry_at (e ∷ es) doc)) doc new (omega (arith, many, same, inside))
        ∙ a.each doc (omega (arith, same, inside)) ∙ ap (λ (n : ℕ). either (get_or old n None) (score_of n (entry_at all n))) (sym same)
    at d inside (inr other) = ap (λ (s : Option ℕ). either s (score_of d (entry_at later d))) (added_other (score_of doc (entry_at (e ∷ es) doc)) doc d new other) ∙ ap (either (get_or new d None)) (other_is d other) ∙ a.each d inside

-- no entry is left
pub adds_all : (score_of : ℕ → Option Entry → Option ℕ) → ((doc : ℕ) → score_of doc None ≡ None) → (all : List Entry) (old new : List (Option ℕ)) → IsAdding score_of all [] old new → AddsToEach (λ (doc : ℕ). score_of doc (entry_at all doc)) old new
adds_all score_of none all old new a = record {
  many = a.many;
  each = λ doc inside. sym (either_none (get_or new doc None)) ∙ ap (either (get_or new doc None)) (sym (none doc)) ∙ a.each doc inside;
}

-- 1.0 for the first document
pub one_here : (doc : ℕ) (es : List Entry) → doc ≡ doc_at es → doc < TERMINATED → Some SCORE_ONE ≡ option_map (λ (e : Entry). SCORE_ONE) (entry_at es doc)
one_here doc [] here low = absurd (omega (arith, here, low))
one_here doc (e ∷ es) here low = sym (ap (λ (d : ℕ). option_map (λ (f : Entry). SCORE_ONE) (entry_at (e ∷ es) d)) here ∙ ap (option_map (λ (f : Entry). SCORE_ONE)) (entry_here e es))

-- 1.0 for each document that a list has
pub ones : (es : List Entry) (doc : ℕ) → option_map (λ (e : Entry). SCORE_ONE) (entry_at es doc) ≡ (if has_doc es doc then Some SCORE_ONE else None)
ones [] doc = refl
ones (e ∷ es) doc = by (nat_eq e.doc doc) refl (ones es doc)
  where
    by : (t : Bool) → nat_eq e.doc doc ≡ t → option_map (λ (f : Entry). SCORE_ONE) (entry_at es doc) ≡ (if has_doc es doc then Some SCORE_ONE else None) → option_map (λ (f : Entry). SCORE_ONE) (entry_at (e ∷ es) doc) ≡ (if has_doc (e ∷ es) doc then Some SCORE_ONE else None)
    by true test later = rw test refl
    by false test later = rw test later
