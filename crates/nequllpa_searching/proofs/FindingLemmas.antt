-- Documents found by a search, and the positions of terms in them.
use Rattle.std.proofs.Common.{◌≡◌, ◌≢◌, ◌∙◌, ◌==◌, ◌<◌, ◌≤◌, ◌+◌, ◌-◌, ℕ, zero, suc, Bool, true, false, cond, List, [], ◌∷◌, ◌++◌, add-one, append-nil, append_assoc, get_or, map, take, drop, length, nat_le, Option, None, Some, refl, sym, ap, arith, length-append}
use Rattle.std.specs.List.{find}
use Rattle.std.specs.Option.{option_map}
use Rattle.std.specs.Prelude.{Vec, filter}
use Rattle.std.specs.declared.alloc.Global.{Global}
use Rattle.std.proofs.Math.Nat.{le_refl}
use Rattle.std.proofs.Math.Seq.{drop-cons}
use Rattle.std.proofs.lemmas.Bool.{leb-true, leb-false}
use Rattle.std.proofs.lemmas.List.{map-append, take_all, take_at}
use Rattle.ii_segments.specs.Segments.{is_living}
use Rattle.ii_segments.proofs.CountLaws.{living_within}
use Rattle.ii_base.specs.declared.doc_id.TheConstants.{TERMINATED}
use Rattle.ii_base.specs.Entries.{Entry, docs_of, document}
use Rattle.ii_docset.specs.Cursor.{IsAscending, IsSound, doc_at, from_doc, positions_at}
use Rattle.ii_docset.proofs.CursorLemmas.{doc_below, from_doc_here, nothing_left}
use Rattle.nequllpa_searching.specs.Positions.{positions_in_doc}

-- the living documents
abbrev pub living_of : List Bool → List Entry → List ℕ
living_of alive es = filter (is_living alive) (docs_of es)

-- The documents taken so far, in front of the living ones that are left, are all, and not more than the limit.
pub record IsTaking (alive : List Bool) (limit : ℕ) (all rest : List Entry) (doc : ℕ) (docs : List ℕ) : Type 0 where
  pub here : doc ≡ doc_at rest
  pub sound : IsSound rest
  pub whole : docs ++ living_of alive rest ≡ living_of alive all
  pub few : length docs ≤ limit

pub taking_first : (alive : List Bool) (limit : ℕ) (es : List Entry) (doc : ℕ) (docs : List ℕ) → doc ≡ doc_at es → IsSound es → docs ≡ [] → IsTaking alive limit es es doc docs
taking_first alive limit es doc docs here sound none = record { here = here; sound = sound; whole = ap (λ (ds : List ℕ). ds ++ living_of alive es) none; few = omega (arith, ap length none) }

living_next : (alive : List Bool) (rest : List Entry) (doc : ℕ) → doc ≡ doc_at rest → doc < TERMINATED → living_of alive rest ≡ filter (is_living alive) (doc ∷ []) ++ living_of alive (drop 1 rest)
living_next alive [] doc here low = absurd (omega (arith, here, low))
living_next alive (e ∷ es) doc here low = first (is_living alive e.doc) refl ∙ ap (λ (d : ℕ). filter (is_living alive) (d ∷ []) ++ living_of alive es) (sym here)
  where
    first : (b : Bool) → is_living alive e.doc ≡ b → living_of alive (e ∷ es) ≡ filter (is_living alive) (e.doc ∷ []) ++ living_of alive es
    first true is = rw is refl
    first false is = rw is refl

length_one : (alive : List Bool) (doc : ℕ) → length (filter (is_living alive) (doc ∷ [])) ≤ 1
length_one alive doc = by (is_living alive doc) refl
  where
    by : (b : Bool) → is_living alive doc ≡ b → length (filter (is_living alive) (doc ∷ [])) ≤ 1
    by true is = rw is (omega arith)
    by false is = rw is (omega arith)

pub taking_next : (alive : List Bool) (limit : ℕ) (all rest now : List Entry) (doc next : ℕ) (docs more : List ℕ) → doc < TERMINATED → length docs < limit → more ≡ docs ++ filter (is_living alive) (doc ∷ []) → now ≡ drop 1 rest → next ≡ doc_at now → IsSound now
    → IsTaking alive limit all rest doc docs → IsTaking alive limit all now next more
taking_next alive limit all rest now doc next docs more low short more_is now_is next_is sound h =
    let one = filter (is_living alive) (doc ∷ []) in
    record {
      here = next_is;
      sound = sound;
      whole = ap (λ (ds : List ℕ). ds ++ living_of alive now) more_is ∙ ap (λ (es : List Entry). (docs ++ one) ++ living_of alive es) now_is
          ∙ append_assoc docs one (living_of alive (drop 1 rest)) ∙ ap (λ (ds : List ℕ). docs ++ ds) (sym (living_next alive rest doc h.here low)) ∙ h.whole;
      few = omega (arith, short, ap length more_is, length-append docs one, length_one alive doc);
    }

pub taking_ended : (alive : List Bool) (limit : ℕ) (all rest : List Entry) (doc : ℕ) (docs : List ℕ) → TERMINATED ≤ doc → IsTaking alive limit all rest doc docs → docs ≡ take limit (living_of alive all)
taking_ended alive limit all rest doc docs end h =
    let none : rest ≡ [] = sym (nothing_left rest h.sound.ascending (omega (arith, end, h.here))) in
    let all_of : docs ≡ living_of alive all = sym (append-nil docs) ∙ ap (λ (es : List Entry). docs ++ living_of alive es) (sym none) ∙ h.whole in
    all_of ∙ sym (take_all limit (living_of alive all) (omega (arith, h.few, ap length all_of)))

dead_past : (alive : List Bool) (doc : ℕ) → length alive ≤ doc → is_living alive doc ≡ false
dead_past [] zero past = refl
dead_past [] (suc doc) past = refl
dead_past (b ∷ bs) zero past = absurd (omega (arith, past))
dead_past (b ∷ bs) (suc doc) past = dead_past bs doc (omega (arith, past))

-- no more documents are alive than there are
few_living : (alive : List Bool) (least : ℕ) (es : List Entry) → least ≤ doc_at es → IsAscending es → length (living_of alive es) ≤ length alive - least
few_living alive least [] low ascending = omega arith
few_living alive least (e ∷ es) low ascending = by (is_living alive e.doc) refl (few_living alive (e.doc + 1) es (omega (arith, ascending.0)) ascending.1)
  where
    by : (b : Bool) → is_living alive e.doc ≡ b → length (living_of alive es) ≤ length alive - (e.doc + 1) → length (living_of alive (e ∷ es)) ≤ length alive - least
    by true lives few = rw lives (omega (arith, low, few, living_within alive e.doc lives))
    by false dead few = rw dead (omega (arith, low, few))

-- so those that were taken up to that number are all
pub all_living : (alive : List Bool) (es : List Entry) (docs : List ℕ) → IsSound es → docs ≡ take (length alive) (living_of alive es) → docs ≡ living_of alive es
all_living alive es docs sound is = is ∙ take_all (length alive) (living_of alive es) (omega (arith, few_living alive 0 es (omega arith) sound.ascending))

none_past : (alive : List Bool) (es : List Entry) → IsAscending es → length alive ≤ doc_at es → living_of alive es ≡ []
none_past alive [] ascending past = refl
none_past alive (e ∷ es) ascending past = rw (dead_past alive e.doc past) (let next = ascending.0 in none_past alive es ascending.1 (omega (arith, past, next)))

pub taking_past : (alive : List Bool) (limit : ℕ) (all rest : List Entry) (doc : ℕ) (docs : List ℕ) → length alive ≤ doc → IsTaking alive limit all rest doc docs → docs ≡ take limit (living_of alive all)
taking_past alive limit all rest doc docs past h =
    let none : living_of alive rest ≡ [] = none_past alive rest h.sound.ascending (omega (arith, past, h.here)) in
    let all_of : docs ≡ living_of alive all = sym (append-nil docs) ∙ ap (λ (ds : List ℕ). docs ++ ds) (sym none) ∙ h.whole in
    all_of ∙ sym (take_all limit (living_of alive all) (omega (arith, h.few, ap length all_of)))

pub taking_full : (alive : List Bool) (limit : ℕ) (all rest : List Entry) (doc : ℕ) (docs : List ℕ) → limit ≤ length docs → IsTaking alive limit all rest doc docs → docs ≡ take limit (living_of alive all)
taking_full alive limit all rest doc docs full h = sym (ap (take limit) (sym h.whole) ∙ take_at docs (living_of alive rest) limit (omega (arith, full, h.few)))

-- documents that are kept of ascending ones ascend

kept_here : (p : ℕ → Bool) (e : Entry) (es : List Entry) (b : Bool) → p e.doc ≡ b → e.doc < doc_at es → doc_at es ≤ doc_at (map document (filter p (docs_of es))) → e.doc ≤ doc_at (map document (filter p (docs_of (e ∷ es))))
kept_here p e es true is lt later = rw is (le_refl e.doc)
kept_here p e es false is lt later = rw is (omega (arith, lt, later))

kept_doc : (p : ℕ → Bool) (es : List Entry) → IsAscending es → doc_at es ≤ doc_at (map document (filter p (docs_of es)))
kept_doc p [] h = le_refl TERMINATED
kept_doc p (e ∷ es) h = kept_here p e es (p e.doc) refl h.0 (kept_doc p es h.1)

kept_more : (p : ℕ → Bool) (e : Entry) (es : List Entry) (b : Bool) → p e.doc ≡ b → e.doc < doc_at es → doc_at es ≤ doc_at (map document (filter p (docs_of es))) → IsAscending (map document (filter p (docs_of es))) → IsAscending (map document (filter p (docs_of (e ∷ es))))
kept_more p e es true is lt later rest = rw is (omega (arith, lt, later), rest)
kept_more p e es false is lt later rest = rw is rest

kept_ascend : (p : ℕ → Bool) (es : List Entry) → IsAscending es → IsAscending (map document (filter p (docs_of es)))
kept_ascend p [] h = tt
kept_ascend p (e ∷ es) h = kept_more p e es (p e.doc) refl h.0 (kept_doc p es h.1) (kept_ascend p es h.1)

take_below : (n : ℕ) (docs : List ℕ) → IsAscending (map document docs) → doc_at (map document docs) ≤ doc_at (map document (take n docs))
take_below zero docs h = doc_below (map document docs) h
take_below (suc n) [] h = le_refl TERMINATED
take_below (suc n) (d ∷ ds) h = le_refl d

take_ascend : (n : ℕ) (docs : List ℕ) → IsAscending (map document docs) → IsAscending (map document (take n docs))
take_ascend zero docs h = tt
take_ascend (suc n) [] h = tt
take_ascend (suc n) (d ∷ ds) h = (omega (arith, h.0, take_below n ds h.1), take_ascend n ds h.1)

pub living_ascend : (alive : List Bool) (limit : ℕ) (es : List Entry) → IsAscending es → IsAscending (map document (take limit (living_of alive es)))
living_ascend alive limit es h = take_ascend limit (living_of alive es) (kept_ascend (is_living alive) es h)

eqb_of : (a b : ℕ) → a ≡ b → (a == b) ≡ true
eqb_of a b e = grind (arith)

neqb_of : (a b : ℕ) → (a ≡ b → ⊥) → (a == b) ≡ false
neqb_of a b e = grind (arith)

found_by : (doc : ℕ) (e : Entry) (es : List Entry) (t : Bool) → nat_le doc e.doc ≡ t → (doc_at (from_doc doc es) ≡ doc → Some (positions_at (from_doc doc es)) ≡ positions_in_doc es doc)
    → doc_at (from_doc doc (e ∷ es)) ≡ doc → Some (positions_at (from_doc doc (e ∷ es))) ≡ positions_in_doc (e ∷ es) doc
found_by doc e es true at_least later here =
    let f : e.doc ≡ doc = rw at_least at here in
    let g : (e.doc == doc) ≡ true = eqb_of e.doc doc f in
    rw (at_least, g) refl
found_by doc e es false below later here =
    let f : doc_at (from_doc doc es) ≡ doc = rw below at here in
    let low : (e.doc ≡ doc → ⊥) = (λ same. let less = leb-false doc e.doc below in absurd (omega arith)) in
    let g : (e.doc == doc) ≡ false = neqb_of e.doc doc low in
    rw (below, g) (later f)

-- the document that is sought is the first of the remaining ones
found_front : (doc : ℕ) (es : List Entry) → doc < TERMINATED → doc_at (from_doc doc es) ≡ doc → Some (positions_at (from_doc doc es)) ≡ positions_in_doc es doc
found_front doc [] low here = absurd (omega arith)
found_front doc (e ∷ es) low here = found_by doc e es (nat_le doc e.doc) refl (found_front doc es low) here

pub place_found : (doc : ℕ) (es now : List Entry) (ps : List ℕ) → doc < TERMINATED → doc_at now ≡ doc → now ≡ from_doc doc es → ps ≡ positions_at now → Some ps ≡ positions_in_doc es doc
place_found doc es now ps low here now_is ps_is =
    let f : doc_at (from_doc doc es) ≡ doc = ap doc_at (sym now_is) ∙ here in
    ap (λ (xs : List ℕ). Some xs) (ps_is ∙ ap positions_at now_is) ∙ found_front doc es low f

missed_by : (doc : ℕ) (e : Entry) (es : List Entry) (t : Bool) → nat_le doc e.doc ≡ t → IsAscending (e ∷ es) → (doc_at (from_doc doc es) ≢ doc → None ≡ positions_in_doc es doc)
    → doc_at (from_doc doc (e ∷ es)) ≢ doc → None ≡ positions_in_doc (e ∷ es) doc
missed_by doc e es true at_least h later other =
    let f : (e.doc ≡ doc → ⊥) = rw at_least at other in
    let g : (e.doc == doc) ≡ false = neqb_of e.doc doc f in
    let low = leb-true doc e.doc at_least in
    let first = h.0 in
    let same : from_doc doc es ≡ es = from_doc_here doc es h.1 (omega arith) in
    let next : (doc_at (from_doc doc es) ≡ doc → ⊥) = (λ same_doc. let d : doc_at es ≡ doc = rw same at same_doc in absurd (above e.doc doc (doc_at es) low first d)) in
    rw g (later next)
  where
    above : (a b c : ℕ) → b ≤ a → a < c → c ≡ b → ⊥
    above a b c x y z = absurd (omega arith)
missed_by doc e es false below h later other =
    let f : (doc_at (from_doc doc es) ≡ doc → ⊥) = rw below at other in
    let low : (e.doc ≡ doc → ⊥) = (λ same. let less = leb-false doc e.doc below in absurd (omega arith)) in
    let g : (e.doc == doc) ≡ false = neqb_of e.doc doc low in
    rw g (later f)

-- another document is there, so the list does not have it
missed_front : (doc : ℕ) (es : List Entry) → IsAscending es → doc_at (from_doc doc es) ≢ doc → None ≡ positions_in_doc es doc
missed_front doc [] h other = refl
missed_front doc (e ∷ es) h other = missed_by doc e es (nat_le doc e.doc) refl h (missed_front doc es h.1) other

pub place_missed : (doc : ℕ) (es now : List Entry) → IsSound es → now ≡ from_doc doc es → doc_at now ≢ doc → None ≡ positions_in_doc es doc
place_missed doc es now sound now_is other = missed_front doc es sound.ascending (λ here. other (ap doc_at now_is ∙ here))

same_by : (least doc : ℕ) (e : Entry) (es : List Entry) (t : Bool) → nat_le least e.doc ≡ t → least ≤ doc → positions_in_doc (from_doc least es) doc ≡ positions_in_doc es doc
    → positions_in_doc (from_doc least (e ∷ es)) doc ≡ positions_in_doc (e ∷ es) doc
same_by least doc e es true at_least le later = rw at_least (same_front (e.doc == doc) e (from_doc least es) es doc later)
  where
    same_front : (t : Bool) (e : Entry) (xs ys : List Entry) (doc : ℕ) → positions_in_doc xs doc ≡ positions_in_doc ys doc
        → option_map (λ (e : Entry). e.positions) (cond t (Some e) (find (λ (e : Entry). e.doc == doc) xs)) ≡ option_map (λ (e : Entry). e.positions) (cond t (Some e) (find (λ (e : Entry). e.doc == doc) ys))
    same_front true e xs ys doc later = refl
    same_front false e xs ys doc later = later
same_by least doc e es false below le later =
    let low : (e.doc ≡ doc → ⊥) = (λ same. let less = leb-false least e.doc below in absurd (omega arith)) in
    let g : (e.doc == doc) ≡ false = neqb_of e.doc doc low in
    rw (below, g) later

-- what lies below a target isn't missed at documents from the target on
pub from_same : (least doc : ℕ) (es : List Entry) → least ≤ doc → positions_in_doc (from_doc least es) doc ≡ positions_in_doc es doc
from_same least doc [] le = refl
from_same least doc (e ∷ es) le = same_by least doc e es (nat_le least e.doc) refl le (from_same least doc es le)

-- nor at those of a list that ascends from there
pub later_same : (least : ℕ) (es : List Entry) (docs : List ℕ) → IsAscending (map document docs) → least ≤ doc_at (map document docs) → map (positions_in_doc (from_doc least es)) docs ≡ map (positions_in_doc es) docs
later_same least es [] h le = refl
later_same least es (d ∷ ds) h le =
    let first = h.0 in
    let tail : map (positions_in_doc (from_doc least es)) ds ≡ map (positions_in_doc es) ds = later_same least es ds h.1 (omega arith) in
    let head : positions_in_doc (from_doc least es) d ≡ positions_in_doc es d = from_same least d es le in
    rw (head, tail) refl

-- what is found, without where it lies in memory
abbrev pub Place : Type 0
Place = Option (Vec ℕ Global)

abbrev pub place_view : Place → Option (List ℕ)
place_view place = option_map (λ v. v.items) place

-- What was found of the documents before a place, in front of what is left to be found, is all; and the documents from there on ascend.
pub record IsPlacing (all : List Entry) (docs : List ℕ) (i : ℕ) (rest : List Entry) (places : List Place) : Type 0 where
  pub placed : map place_view places ++ map (positions_in_doc rest) (drop i docs) ≡ map (positions_in_doc all) docs
  pub ascending : IsAscending (map document (drop i docs))

pub placing_first : (all : List Entry) (docs : List ℕ) → IsAscending (map document docs) → IsPlacing all docs 0 all []
placing_first all docs h = record { placed = refl; ascending = h }

-- the document at a place
at_place : (docs : List ℕ) (i doc d : ℕ) → i < length docs → doc ≡ get_or docs i d → drop i docs ≡ doc ∷ drop (i + 1) docs
at_place docs i doc d inside is = drop-cons docs i d inside ∙ rw (is, add-one i) refl

pub placing_low : (all rest : List Entry) (docs : List ℕ) (i doc d : ℕ) (places : List Place) → i < length docs → doc ≡ get_or docs i d → IsPlacing all docs i rest places → doc < TERMINATED
placing_low all rest docs i doc d places inside is placing =
    let h : IsAscending (map document (doc ∷ drop (i + 1) docs)) = rw (at_place docs i doc d inside is) at placing.ascending in
    let first = h.0 in
    let up = doc_below (map document (drop (i + 1) docs)) h.1 in
    omega arith

pub placing_next : (all rest now : List Entry) (docs : List ℕ) (i doc d : ℕ) (places more : List Place) (place : Place) → i < length docs → doc ≡ get_or docs i d → now ≡ from_doc doc rest → place_view place ≡ positions_in_doc rest doc
    → more ≡ places ++ place ∷ [] → IsPlacing all docs i rest places → IsPlacing all docs (i + 1) now more
placing_next all rest now docs i doc d places more place inside is now_is place_is more_is placing =
    let others = drop (i + 1) docs in
    let h : IsAscending (map document (doc ∷ others)) = rw (at_place docs i doc d inside is) at placing.ascending in
    let first = h.0 in
    let same : map (positions_in_doc (from_doc doc rest)) others ≡ map (positions_in_doc rest) others = later_same doc rest others h.1 (omega arith) in
    let e : map place_view places ++ positions_in_doc rest doc ∷ map (positions_in_doc rest) others ≡ map (positions_in_doc all) docs = rw (at_place docs i doc d inside is) at placing.placed in
    record {
      placed = rw (more_is, now_is, same, map-append place_view places (place ∷ []), place_is) (append_assoc (map place_view places) (positions_in_doc rest doc ∷ []) (map (positions_in_doc rest) others) ∙ e);
      ascending = h.1;
    }

pub placing_all : (all rest : List Entry) (docs : List ℕ) (i : ℕ) (places : List Place) → length docs ≤ i → IsPlacing all docs i rest places → map place_view places ≡ map (positions_in_doc all) docs
placing_all all rest docs i places end placing =
    let e : map place_view places ++ [] ≡ map (positions_in_doc all) docs = ap (λ (ds : List ℕ). map place_view places ++ map (positions_in_doc rest) ds) (sym (drop-end i docs end)) ∙ placing.placed in
    sym (append-nil (map place_view places)) ∙ e
  where
    drop-end : (i : ℕ) (docs : List ℕ) → length docs ≤ i → drop i docs ≡ []
    drop-end zero [] h = refl
    drop-end (suc i) [] h = refl
    drop-end zero (d ∷ ds) h = absurd (omega arith)
    drop-end (suc i) (d ∷ ds) h = drop-end i ds (omega arith)
