-- Documents that have a phrase.
use Rattle.std.proofs.Common.{◌≡◌, ◌≢◌, ◌∙◌, ℕ, ◌+◌, ◌-◌, ◌<◌, ◌≤◌, Bool, true, false, ◌&&◌, List, [], ◌∷◌, drop, inl, inr, refl, sym, ap, subst, arith}
use Rattle.std.specs.Prelude.{filter, map, nat_eq}
use Rattle.std.specs.List.{AllByRecursion, list_any}
use Rattle.std.proofs.Math.Bool.{or-false}
use Rattle.std.proofs.lemmas.Bool.{cases_lt, eq-eqb, ne_eqb}
use Rattle.std.proofs.lemmas.Bool.Decides.{eqb_tells, leb_tells}
use Rattle.ii_base.specs.declared.doc_id.TheConstants.{TERMINATED}
use Rattle.ii_base.specs.Entries.{Entry, docs_of, document}
use Rattle.ii_docset.specs.Cursor.{IsAscending, IsCurrent, IsSound, doc_at, from_doc, positions_at}
use Rattle.ii_docset.proofs.CursorLemmas.{doc_below, from_doc_here, ascending_sound}
use Rattle.ii_docset.specs.Intersection.{has_doc}
use Rattle.ii_query.specs.Combined.{IsAtFirst}
use Rattle.ii_query.specs.Phrase.{IsAtDoc, MeetsAt, PhrasePartState, begins_phrase, has_position, has_positions, is_among, parts_have, parts_pass, phrase_docs, stand_from}
use Rattle.ii_query.specs.SloppyPhrase.{begins_near, is_near, sloppy_docs, stand_near, stand_near_here, ways_back}
use Rattle.ii_docset.proofs.IntersectionLemmas.{doc_at-from_doc}

-- the documents of the entries of a list for which something holds
abbrev pub kept : (Entry → Bool) → List Entry → List Entry
kept holds es = map document (docs_of (filter holds es))

-- they ascend, from the first document of the list on
kept_ascends : (holds : Entry → Bool) (es : List Entry) → IsAscending es → IsAscending (kept holds es) × (doc_at es ≤ doc_at (kept holds es))
kept_ascends holds [] h = (tt, omega arith)
kept_ascends holds (e ∷ es) h = by (kept_ascends holds es h.1) (holds e) refl
  where
    by : IsAscending (kept holds es) × (doc_at es ≤ doc_at (kept holds es)) → (b : Bool) → holds e ≡ b → IsAscending (kept holds (e ∷ es)) × (e.doc ≤ doc_at (kept holds (e ∷ es)))
    by later true is = let low = h.0 in let up = later.1 in rw (is) ((omega (arith, low, up), later.0), omega arith)
    by later false is = let low = h.0 in let up = later.1 in rw (is) (later.0, omega (arith, low, up))

pub kept_sound : (holds : Entry → Bool) (es : List Entry) → IsSound es → IsSound (kept holds es)
kept_sound holds es sound = ascending_sound (docs_of (filter holds es)) (kept_ascends holds es sound.ascending).0

-- without the first document, which is kept
pub kept_drop : (holds : Entry → Bool) (es : List Entry) → IsAtFirst es (kept holds es) → kept holds (drop 1 es) ≡ drop 1 (kept holds es)
kept_drop holds [] at = refl
kept_drop holds (e ∷ es) at = by (holds e) refl at.here
  where
    by : (b : Bool) → holds e ≡ b → doc_at (kept holds (e ∷ es)) ≡ e.doc → kept holds es ≡ drop 1 (kept holds (e ∷ es))
    by true is here = rw (is) refl
    by false is here =
        let low = at.sound.ascending.0 in
        let up = (kept_ascends holds es at.sound.ascending.1).1 in
        let same : doc_at (kept holds es) ≡ e.doc = rw is at here in
        absurd (omega (arith, low, up, same))

-- from a document on
pub kept_from : (holds : Entry → Bool) (target : ℕ) (es : List Entry) → kept holds (from_doc target es) ≡ from_doc target (kept holds es)
kept_from holds target [] = refl
kept_from holds target (e ∷ es) = by (kept_from holds target es) (holds e) refl
  where
    by : kept holds (from_doc target es) ≡ from_doc target (kept holds es) → (b : Bool) → holds e ≡ b → kept holds (from_doc target (e ∷ es)) ≡ from_doc target (kept holds (e ∷ es))
    by later true is = elim (leb_tells target e.doc) [
      | inl h ↦ rw (h.0, is, h.0, later) refl
      | inr h ↦ rw (h.0, is, h.0, later) refl
    ]
    by later false is = elim (leb_tells target e.doc) [
      | inl h ↦ rw (h.0, is, later) refl
      | inr h ↦ rw (h.0, is, later) refl
    ]

-- what holds of all entries from a least document on is kept alike
kept_alike : (holds alike : Entry → Bool) (least : ℕ) (es : List Entry) → IsAscending es → least ≤ doc_at es → ((e : Entry) → least ≤ e.doc → holds e ≡ alike e) → kept holds es ≡ kept alike es
kept_alike holds alike least [] ascend low same = refl
kept_alike holds alike least (e ∷ es) ascend low same = by (alike e) refl (kept_alike holds alike least es ascend.1 (let next = ascend.0 in omega (arith, low, next)) same)
  where
    by : (b : Bool) → alike e ≡ b → kept holds es ≡ kept alike es → kept holds (e ∷ es) ≡ kept alike (e ∷ es)
    by true is later = rw (same e low, is, later) refl
    by false is later = rw (same e low, is, later) refl

-- what holds of no entry below a document keeps none below it
kept_above : (holds : Entry → Bool) (bound : ℕ) (es : List Entry) → bound ≤ TERMINATED → ((e : Entry) → e.doc < bound → holds e ≡ false) → bound ≤ doc_at (kept holds es)
kept_above holds bound [] up none = up
kept_above holds bound (e ∷ es) up none = elim (cases_lt e.doc bound) [
  | inl low ↦ rw (none e low) (kept_above holds bound es up none)
  | inr high ↦ by (kept_above holds bound es up none) (holds e) refl high
]
  where
    by : bound ≤ doc_at (kept holds es) → (b : Bool) → holds e ≡ b → bound ≤ e.doc → bound ≤ doc_at (kept holds (e ∷ es))
    by later true is high = rw is high
    by later false is high = rw is later

pub phrase_sound : (es : List Entry) (others : List PhrasePartState) → IsSound es → IsSound (phrase_docs es others)
phrase_sound es others sound = kept_sound (begins_phrase others) es sound

pub phrase_drop : (es : List Entry) (others : List PhrasePartState) → IsAtFirst es (phrase_docs es others) → phrase_docs (drop 1 es) others ≡ drop 1 (phrase_docs es others)
phrase_drop es others at = kept_drop (begins_phrase others) es at

pub phrase_from : (target : ℕ) (es : List Entry) (others : List PhrasePartState) → phrase_docs (from_doc target es) others ≡ from_doc target (phrase_docs es others)
phrase_from target es others = kept_from (begins_phrase others) target es

pub any_alike : (f g : ℕ → Bool) (ps : List ℕ) → ((p : ℕ) → f p ≡ g p) → list_any f ps ≡ list_any g ps
any_alike f g [] same = refl
any_alike f g (p ∷ ps) same = rw (same p, any_alike f g ps same) refl

pub any_none : (f : ℕ → Bool) (ps : List ℕ) → ((p : ℕ) → f p ≡ false) → list_any f ps ≡ false
any_none f [] none = refl
any_none f (p ∷ ps) none = rw (none p) (any_none f ps none)

-- a list of which documents below a target are dropped has the same positions from it on
pub positions_from : (test : List ℕ → Bool) (target doc : ℕ) (es : List Entry) → target ≤ doc → has_positions test (from_doc target es) doc ≡ has_positions test es doc
positions_from test target doc [] up = refl
positions_from test target doc (e ∷ es) up =
    let later = positions_from test target doc es up in
    elim (leb_tells target e.doc) [
      | inl h ↦ rw (h.0, later) refl
      | inr h ↦ rw (h.0, ne_eqb e.doc doc (λ same. omega (arith, h.1, same))) later
    ]

-- below its first document it has none
pub positions_below : (test : List ℕ → Bool) (doc : ℕ) (es : List Entry) → IsAscending es → doc < doc_at es → has_positions test es doc ≡ false
positions_below test doc [] ascend low = refl
positions_below test doc (e ∷ es) ascend low =
    let first = ascend.0 in
    rw (ne_eqb e.doc doc (λ same. omega (arith, low, same))) (positions_below test doc es ascend.1 (omega (arith, low, first)))

-- at its first document it has those of its entry
positions_here : (test : List ℕ → Bool) (doc : ℕ) (es : List Entry) → IsAscending es → doc_at es ≡ doc → doc < TERMINATED → has_positions test es doc ≡ test (positions_at es)
positions_here test doc [] ascend here low = absurd (omega (arith, here, low))
positions_here test doc (e ∷ es) ascend here low =
    let next = ascend.0 in
    rw (eq-eqb e.doc doc here, positions_below test doc es ascend.1 (omega (arith, here, next))) (or-false (test e.positions))

pub has_here : (doc position : ℕ) (es : List Entry) → IsAscending es → doc_at es ≡ doc → doc < TERMINATED → has_position es doc position ≡ is_among (positions_at es) position
has_here doc position es ascend here low = positions_here (λ (ps : List ℕ). is_among ps position) doc es ascend here low

-- the other terms pass a test, given that all are at the document
pub pass_at : (test : ℕ → List ℕ → Bool) (others : List PhrasePartState) (doc : ℕ) → AllByRecursion (IsAtDoc doc) others → doc < TERMINATED → parts_pass test others ≡ parts_have test others doc
pass_at test [] doc at low = refl
pass_at test (p ∷ ps) doc at low = rw (positions_here (test p.distance) doc p.rest at.0.sound.ascending at.0.here low, pass_at test ps doc at.1 low) refl

pub are_current : (others : List PhrasePartState) (doc : ℕ) → AllByRecursion (IsAtDoc doc) others → doc < TERMINATED → AllByRecursion (λ (p : PhrasePartState). IsCurrent p.rest) others
are_current [] doc at low = tt
are_current (p ∷ ps) doc at low = (let here = at.0.here in omega (arith, here, low), are_current ps doc at.1 low)

-- no document loses its phrase where the other terms are taken to the first one
pub met_alike : (slop doc bound : ℕ) (es : List Entry) (old new : List PhrasePartState) → MeetsAt doc old new bound → IsAscending es → doc ≡ doc_at es → sloppy_docs slop es new ≡ sloppy_docs slop es old
met_alike slop doc bound es old new m ascend here =
    kept_alike (begins_near slop new) (begins_near slop old) doc es ascend (omega (arith, here))
    (λ e up. any_alike (stand_near slop new e.doc) (stand_near slop old e.doc) e.positions
    (λ p. any_alike (λ (back : ℕ). parts_have (is_near slop back p) new e.doc) (λ (back : ℕ). parts_have (is_near slop back p) old e.doc) (ways_back slop) (λ back. m.alike (is_near slop back p) e.doc up)))

-- a term is at a greater document
pub met_above : (slop doc bound : ℕ) (es : List Entry) (old new : List PhrasePartState) → MeetsAt doc old new bound → bound ≢ doc → bound ≤ doc_at (sloppy_docs slop es new)
met_above slop doc bound es old new m other =
    let low = m.low in
    kept_above (begins_near slop new) bound es m.up_to
    (λ e lower. any_none (stand_near slop new e.doc) e.positions
    (λ p. any_none (λ (back : ℕ). parts_have (is_near slop back p) new e.doc) (ways_back slop) (λ back. m.none (is_near slop back p) e.doc lower (omega (arith, low, other)))))

here_is : (slop doc : ℕ) (e : Entry) (others : List PhrasePartState) → AllByRecursion (IsAtDoc doc) others → doc ≡ e.doc → doc < TERMINATED → begins_near slop others e ≡ list_any (stand_near_here slop others) e.positions
here_is slop doc e others at here low =
    any_alike (stand_near slop others e.doc) (stand_near_here slop others) e.positions
    (λ p. any_alike (λ (back : ℕ). parts_have (is_near slop back p) others e.doc) (λ (back : ℕ). parts_pass (is_near slop back p) others) (ways_back slop)
    (λ back. ap (λ (d : ℕ). parts_have (is_near slop back p) others d) (sym here) ∙ sym (pass_at (is_near slop back p) others doc at low)))

-- all terms are at the document, and there is a phrase
pub met_here : (slop doc : ℕ) (es : List Entry) (others : List PhrasePartState) → AllByRecursion (IsAtDoc doc) others → doc ≡ doc_at es → doc < TERMINATED → list_any (stand_near_here slop others) (positions_at es) ≡ true → doc_at (sloppy_docs slop es others) ≡ doc
met_here slop doc [] others at here low is = absurd (omega (arith, here, low))
met_here slop doc (e ∷ es) others at here low is = rw (here_is slop doc e others at here low, is) (sym here)

-- or there is none
pub met_without : (slop doc : ℕ) (es : List Entry) (others : List PhrasePartState) → AllByRecursion (IsAtDoc doc) others → IsAscending es → doc ≡ doc_at es → doc < TERMINATED → list_any (stand_near_here slop others) (positions_at es) ≡ false → doc + 1 ≤ doc_at (sloppy_docs slop es others)
met_without slop doc [] others at ascend here low is = absurd (omega (arith, here, low))
met_without slop doc (e ∷ es) others at ascend here low is =
    let next = ascend.0 in
    let up = (kept_ascends (begins_near slop others) es ascend.1).1 in
    rw (here_is slop doc e others at here low, is) (omega (arith, here, next, up))

pub phrase_above : (slop : ℕ) (es : List Entry) (others : List PhrasePartState) → IsAscending es → doc_at es ≤ doc_at (sloppy_docs slop es others)
phrase_above slop es others ascend = (kept_ascends (begins_near slop others) es ascend).1

-- A document is found below which there is no phrase.
pub phrase_bound : (slop bound : ℕ) (es : List Entry) (others : List PhrasePartState) → IsSound es → bound ≤ doc_at (sloppy_docs slop es others) → bound ≤ TERMINATED
phrase_bound slop bound es others sound least = let below = doc_below (sloppy_docs slop es others) (kept_sound (begins_near slop others) es sound).ascending in omega (arith, least, below)

pub phrase_on : (slop bound : ℕ) (es later : List Entry) (others : List PhrasePartState) → IsSound es → bound ≤ doc_at (sloppy_docs slop es others) → later ≡ from_doc bound es → sloppy_docs slop later others ≡ sloppy_docs slop es others
phrase_on slop bound es later others sound least is =
    ap (λ (l : List Entry). sloppy_docs slop l others) is ∙ kept_from (begins_near slop others) bound es ∙ from_doc_here bound (sloppy_docs slop es others) (kept_sound (begins_near slop others) es sound).ascending least

pub phrase_smaller : (slop doc bound next : ℕ) (es later : List Entry) (others : List PhrasePartState) → IsSound es → doc < TERMINATED → doc ≤ bound → bound ≢ doc → bound ≤ doc_at (sloppy_docs slop es others) → later ≡ from_doc bound es → next ≡ doc_at later
    → TERMINATED - next < TERMINATED - doc
phrase_smaller slop doc bound next es later others sound low up other least is here =
    let reached = subst (λ (l : List Entry). bound ≤ doc_at l) (sym is) (doc_at-from_doc bound es (phrase_bound slop bound es others sound least)) in
    omega (arith, low, up, other, reached, here)

-- a document is kept for one of its positions exactly where its entry is
pub begins_has : (test : ℕ → ℕ → Bool) (doc : ℕ) (es : List Entry) → has_doc (kept (λ (e : Entry). list_any (test e.doc) e.positions) es) doc ≡ list_any (λ (e : Entry). nat_eq e.doc doc && list_any (test doc) e.positions) es
begins_has test doc [] = refl
begins_has test doc (e ∷ es) = by (list_any (test e.doc) e.positions) refl (begins_has test doc es)
  where
    by : (b : Bool) → list_any (test e.doc) e.positions ≡ b → has_doc (kept (λ (f : Entry). list_any (test f.doc) f.positions) es) doc ≡ list_any (λ (f : Entry). nat_eq f.doc doc && list_any (test doc) f.positions) es
        → has_doc (kept (λ (f : Entry). list_any (test f.doc) f.positions) (e ∷ es)) doc ≡ list_any (λ (f : Entry). nat_eq f.doc doc && list_any (test doc) f.positions) (e ∷ es)
    by true is later = elim (eqb_tells e.doc doc) [
      | inl h ↦ rw (is, h.0, subst (λ (d : ℕ). list_any (test d) e.positions ≡ true) h.1 is) refl
      | inr h ↦ rw (is, h.0) later
    ]
    by false is later = elim (eqb_tells e.doc doc) [
      | inl h ↦ rw (is, h.0, subst (λ (d : ℕ). list_any (test d) e.positions ≡ false) h.1 is) later
      | inr h ↦ rw (is, h.0) later
    ]
