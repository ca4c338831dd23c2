-- Laws of the scores of phrases.
use Rattle.std.proofs.Common.{◌≡◌, ◌∙◌, ℕ, ◌<◌, ◌≤◌, Bool, true, false, nat_eq, List, [], ◌∷◌, Option, drop, filter, length, refl, sym, ap, arith}
use Rattle.std.proofs.lemmas.Bool.{eqb-true}
use Rattle.std.proofs.lemmas.List.Elements.{filter_agree}
use Rattle.std.specs.Option.{option_map, unwrap_or}
use Rattle.ii_base.specs.declared.doc_id.TheConstants.{TERMINATED}
use Rattle.ii_base.specs.Entries.{Entry}
use Rattle.ii_docset.specs.Cursor.{IsAscending, doc_at, positions_at}
use Rattle.ii_query.specs.Phrase.{PhrasePartState, parts_have}
use Rattle.ii_query.specs.SloppyPhrase.{is_near, stand_near, ways_back}
use Rattle.ii_query.proofs.PhraseLemmas.{any_alike}
use Rattle.ii_ranking.specs.Scores.{entry_at, if_occurs, num_starts}
use Rattle.ii_ranking.proofs.EntryLemmas.{entry_here}

-- what a document scores by the entry of a phrase's first term
abbrev pub starts_score : ℕ → (ℕ → ℕ) → List PhrasePartState → Option Entry → Option ℕ
starts_score slop score_of parts found = if_occurs score_of (unwrap_or (option_map (num_starts slop parts) found) 0)

-- From a document on the terms of a phrase have what they had.
pub record HaveMoved (doc : ℕ) (old new : List PhrasePartState) : Type 0 where
  pub alike : (test : ℕ → List ℕ → Bool) (d : ℕ) → doc ≤ d → parts_have test new d ≡ parts_have test old d

pub moved_none : (doc : ℕ) (parts : List PhrasePartState) → HaveMoved doc parts parts
moved_none doc parts = record { alike = λ test d up. refl }

pub moved_on : (doc next : ℕ) (old now later : List PhrasePartState) → HaveMoved doc old now → HaveMoved doc now later → doc ≤ next → HaveMoved next old later
moved_on doc next old now later m n up = record { alike = λ test d above. n.alike test d (omega (arith, up, above)) ∙ m.alike test d (omega (arith, up, above)) }

-- what the first document scores by the number of its starts
pub starts_here : (slop : ℕ) (score_of : ℕ → ℕ) (doc count : ℕ) (es : List Entry) (old now : List PhrasePartState) → doc ≡ doc_at es → doc < TERMINATED → HaveMoved doc old now → count ≡ length (filter (stand_near slop now (doc_at es)) (positions_at es))
    → starts_score slop score_of old (entry_at es doc) ≡ if_occurs score_of count
starts_here slop score_of doc count [] old now here low m is = absurd (omega (arith, here, low))
starts_here slop score_of doc count (e ∷ es) old now here low m is =
    ap (λ (d : ℕ). starts_score slop score_of old (entry_at (e ∷ es) d)) here ∙ ap (starts_score slop score_of old) (entry_here e es)
    ∙ ap (if_occurs score_of) (ap length (filter_agree (stand_near slop old e.doc) (stand_near slop now e.doc)
    (λ start. any_alike (λ (back : ℕ). parts_have (is_near slop back start) old e.doc) (λ (back : ℕ). parts_have (is_near slop back start) now e.doc) (ways_back slop) (λ back. sym (m.alike (is_near slop back start) e.doc (omega (arith, here))))) e.positions) ∙ sym is)

-- the next document is greater
pub next_up : (es later : List Entry) → IsAscending es → later ≡ drop 1 es → doc_at es < TERMINATED → doc_at es ≤ doc_at later
next_up [] later up is low = absurd (omega (arith, low))
next_up (e ∷ es) later up is low = let first = up.0 in rw is (omega (arith, first))

-- what a document scores by the starts in its entry, once other terms moved up to it
pub starts_moved : (slop : ℕ) (score_of : ℕ → ℕ) (from doc : ℕ) (es : List Entry) (old new : List PhrasePartState) → from ≤ doc → HaveMoved from old new → starts_score slop score_of new (entry_at es doc) ≡ starts_score slop score_of old (entry_at es doc)
starts_moved slop score_of from doc [] old new up m = refl
starts_moved slop score_of from doc (e ∷ es) old new up m = by (nat_eq e.doc doc) refl (starts_moved slop score_of from doc es old new up m)
  where
    by : (t : Bool) → nat_eq e.doc doc ≡ t → starts_score slop score_of new (entry_at es doc) ≡ starts_score slop score_of old (entry_at es doc) → starts_score slop score_of new (entry_at (e ∷ es) doc) ≡ starts_score slop score_of old (entry_at (e ∷ es) doc)
    by true is later =
        let same = eqb-true e.doc doc is in
        rw is (ap (if_occurs score_of) (ap length (filter_agree (stand_near slop new e.doc) (stand_near slop old e.doc)
        (λ start. any_alike (λ (back : ℕ). parts_have (is_near slop back start) new e.doc) (λ (back : ℕ). parts_have (is_near slop back start) old e.doc) (ways_back slop) (λ back. m.alike (is_near slop back start) e.doc (omega (arith, up, same)))) e.positions)))
    by false is later = rw is later

-- the same terms
pub moved_same : (doc : ℕ) (old new : List PhrasePartState) → new ≡ old → HaveMoved doc old new
moved_same doc old new same = record { alike = λ test d up. ap (λ (parts : List PhrasePartState). parts_have test parts d) same }
