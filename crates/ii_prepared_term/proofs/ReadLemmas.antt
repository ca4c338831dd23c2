-- Laws of the blocks that a cursor decodes of its list.
use Rattle.std.proofs.Common.{◌≡◌, ◌∙◌, inl, inr, ℕ, ◌+◌, ◌*◌, ◌<◌, ◌≤◌, Bool, false, List, [], ◌∷◌, ◌++◌, append_assoc, length, length-append, nat_le, nat_lt, refl, sym, ap, subst, arith, if◌then◌else◌}
use Rattle.std.specs.List.{AllByRecursion}
use Rattle.std.proofs.lemmas.Bool.{le-ltb, lt-ltb}
use Rattle.std.proofs.lemmas.Bool.Decides.{leb_tells}
use Rattle.std.proofs.lemmas.List.{length-map}
use Rattle.std.proofs.lemmas.List.Sums.{sum_by-append, sum_by-cons}
use Rattle.ii_base.specs.Entries.{Entry, docs_of}
use Rattle.ii_base.specs.declared.doc_id.TheConstants.{TERMINATED}
use Rattle.ii_check.proofs.DecodedBlocksLaws.{all_append, allowed_last}
use Rattle.ii_docset.specs.Cursor.{IsAscending, IsSound, doc_at, from_doc}
use Rattle.ii_docset.proofs.CursorLemmas.{from_doc_here}
use Rattle.ii_docset.proofs.IntersectionLemmas.{doc_at-from_doc}
use Rattle.ii_reader.specs.SegmentPostings.{DecodesOnce, SegmentPostingsState, StandsInBlock, WentLazily}
use Rattle.ii_scorer.specs.BlockLists.{HasFirstFrom, ReadsWhere, num_below}
use Rattle.ii_prepared_term.specs.PreparedScorers.{HasRest, IsAtStart, IsScorer, PreparedScorerState, ReadsRest, list_with, remaining_term}
use Rattle.ii_prepared_term.specs.PreparedTerms.{IsPrepared, PreparedTermState}
use Rattle.ii_prepared_term.proofs.PreparedLemmas.{first_up, still_prepared}
use Rattle.ii_scorer.proofs.BlockListLaws.{reads_none, reads_on, reads_weaker}

-- ---- how many documents are below one
below_all : (doc : ℕ) (xs : List ℕ) → AllByRecursion (λ (d : ℕ). d < doc) xs → num_below doc xs ≡ length xs
below_all doc [] all = refl
below_all doc (x ∷ xs) all = sum_by-cons (λ (d : ℕ). if nat_lt d doc then 1 else 0) x xs ∙ (let here = ap {B = ℕ} (λ (t : Bool). if t then 1 else 0) (lt-ltb x doc all.0) in let rest = below_all doc xs all.1 in omega (arith, here, rest))

below_none : (doc : ℕ) (xs : List ℕ) → AllByRecursion (λ (d : ℕ). doc ≤ d) xs → num_below doc xs ≡ 0
below_none doc [] all = refl
below_none doc (x ∷ xs) all = sum_by-cons (λ (d : ℕ). if nat_lt d doc then 1 else 0) x xs ∙ (let here = ap {B = ℕ} (λ (t : Bool). if t then 1 else 0) (le-ltb x doc all.0) in let rest = below_none doc xs all.1 in omega (arith, here, rest))

below_first : (doc : ℕ) (xs ys : List ℕ) → AllByRecursion (λ (d : ℕ). d < doc) xs → AllByRecursion (λ (d : ℕ). doc ≤ d) ys → num_below doc (xs ++ ys) ≡ length xs
below_first doc xs ys low high = sum_by-append (λ (d : ℕ). if nat_lt d doc then 1 else 0) xs ys ∙ (let all = below_all doc xs low in let none = below_none doc ys high in omega (arith, all, none))

below_later : (doc later : ℕ) (xs : List ℕ) → doc ≤ later → AllByRecursion (λ (d : ℕ). d < doc) xs → AllByRecursion (λ (d : ℕ). d < later) xs
below_later doc later [] up all = tt
below_later doc later (x ∷ xs) up all = (omega (arith, up, all.0), below_later doc later xs up all.1)

-- ---- the documents that a cursor drops, and those that are left
record AreParts (from : ℕ) (es : List Entry) : Type 0 where
  pub dropped : List ℕ
  pub are : docs_of es ≡ dropped ++ docs_of (from_doc from es)
  pub low : AllByRecursion (λ (doc : ℕ). doc < from) dropped
  pub high : AllByRecursion (λ (doc : ℕ). from ≤ doc) (docs_of (from_doc from es))

all_above : (from : ℕ) (es : List Entry) → IsAscending es → from ≤ doc_at es → AllByRecursion (λ (doc : ℕ). from ≤ doc) (docs_of es)
all_above from [] up low = tt
all_above from (e ∷ es) up low = (low, all_above from es up.1 (let next = up.0 in omega (arith, low, next)))

parts : (from : ℕ) (es : List Entry) → IsAscending es → AreParts from es
parts from [] up = record { dropped = []; are = refl; low = tt; high = tt }
parts from (e ∷ es) up = elim (leb_tells from e.doc) [
  | inl here ↦ kept here.1
  | inr past ↦ drops past.0 past.1 (parts from es up.1)
]
  where
    kept : from ≤ e.doc → AreParts from (e ∷ es)
    kept low =
        let all : from_doc from (e ∷ es) ≡ e ∷ es = from_doc_here from (e ∷ es) up low in
        record {
          dropped = [];
          are = ap docs_of (sym all);
          low = tt;
          high = subst (λ (fs : List Entry). AllByRecursion (λ (doc : ℕ). from ≤ doc) (docs_of fs)) (sym all) (all_above from (e ∷ es) up low);
        }

    drops : nat_le from e.doc ≡ false → e.doc < from → AreParts from es → AreParts from (e ∷ es)
    drops test past p =
        let less : from_doc from (e ∷ es) ≡ from_doc from es = rw test refl in
        record {
          dropped = e.doc ∷ p.dropped;
          are = ap (λ (docs : List ℕ). e.doc ∷ docs) p.are ∙ ap (λ (fs : List Entry). e.doc ∷ (p.dropped ++ docs_of fs)) (sym less);
          low = (past, p.low);
          high = subst (λ (fs : List Entry). AllByRecursion (λ (doc : ℕ). from ≤ doc) (docs_of fs)) (sym less) p.high;
        }

-- ---- a cursor has the rest of a list
-- at its start all of it
pub all_left : (cursor : SegmentPostingsState) → IsAtStart cursor → HasRest (docs_of cursor.rest) cursor
all_left cursor start = record { before = []; are = refl; passed = tt; many = start.many ∙ sym (length-map cursor.rest (λ (e : Entry). e.doc)) }

-- after a move the rest of it
module _ (docs : List ℕ) (from : ℕ) (old new : SegmentPostingsState) (h : HasRest docs old) (up : IsAscending old.rest) (is : new.rest ≡ from_doc from old.rest) where
  p : AreParts from old.rest
  p = parts from old.rest up

  now_are : docs ≡ (h.before ++ p.dropped) ++ docs_of new.rest
  now_are =
      h.are ∙ ap (λ (xs : List ℕ). h.before ++ xs) p.are ∙ sym (append_assoc h.before p.dropped (docs_of (from_doc from old.rest)))
      ∙ ap (λ (es : List Entry). (h.before ++ p.dropped) ++ docs_of es) (sym is)

  pub rest_later : IsAscending new.rest → from ≤ TERMINATED → new.doc_freq ≡ old.doc_freq → HasRest docs new
  rest_later later end many = record {
    before = h.before ++ p.dropped;
    are = now_are;
    passed =
        let low : from ≤ doc_at new.rest = subst (λ (es : List Entry). from ≤ doc_at es) (sym is) (doc_at-from_doc from old.rest end) in
        let first : doc_at old.rest ≤ doc_at new.rest = subst (λ (es : List Entry). doc_at old.rest ≤ doc_at es) (sym is) (first_up from old.rest up) in
        all_append (λ (doc : ℕ). doc < doc_at new.rest) h.before p.dropped (below_later (doc_at old.rest) (doc_at new.rest) h.before first h.passed) (below_later from (doc_at new.rest) p.dropped low p.low);
    many = many ∙ h.many;
  }

  -- the block that a cursor goes to has the first document from the target on
  some : (es : List Entry) → doc_at es < TERMINATED → 0 < length es
  some [] low = absurd (omega (arith, low))
  some (e ∷ es) low = omega arith

  pub reads_one : (IsAllowed : ℕ → Type 0) → IsAllowed from → doc_at old.rest < from → doc_at new.rest < TERMINATED → WentLazily old new → DecodesOnce old new → StandsInBlock new → ReadsWhere IsAllowed (list_with docs old) (list_with docs new)
  reads_one IsAllowed allowed ahead current went once place = record {
    docs = refl;
    forward = went.forward;
    doc_blocks = allowed_last (HasFirstFrom IsAllowed docs) old.block new.block old.doc_blocks new.doc_blocks has once.doc_blocks;
    freq_blocks = allowed_last (HasFirstFrom IsAllowed docs) old.block new.block old.freq_blocks new.freq_blocks has once.freq_blocks;
  }
    where
      count : num_below from docs ≡ length (h.before ++ p.dropped)
      count = ap (num_below from) now_are ∙ below_first from (h.before ++ p.dropped) (docs_of new.rest)
          (all_append (λ (doc : ℕ). doc < from) h.before p.dropped (below_later (doc_at old.rest) from h.before (omega (arith, ahead)) h.passed) p.low)
          (subst (λ (es : List Entry). AllByRecursion (λ (doc : ℕ). from ≤ doc) (docs_of es)) (sym is) p.high)

      long : length docs ≡ length (h.before ++ p.dropped) + length new.rest
      long = ap length now_are ∙ length-append (h.before ++ p.dropped) (docs_of new.rest) ∙ ap (λ (n : ℕ). length (h.before ++ p.dropped) + n) (length-map new.rest (λ (e : Entry). e.doc))

      has : HasFirstFrom IsAllowed docs new.block
      has =
          let left = some new.rest current in
          let here = place.here left in
          let near = place.near in
          let many = went.doc_freq in
          let all = h.many in
          record {
            doc = from;
            allowed = allowed;
            inside = omega (arith, count, long, left);
            here = let first : 128 * new.block ≤ num_below from docs = omega (arith, count, long, here, many, all) in let last : num_below from docs < 128 * new.block + 128 = omega (arith, count, long, near, many, all) in omega (arith, first, last);
          }

-- ---- what cursors read
pub rest_none : (IsAllowed : ℕ → Type 0) (cursor : SegmentPostingsState) → ReadsRest IsAllowed cursor cursor
rest_none IsAllowed cursor = record { many = refl; reads = λ docs h. reads_none IsAllowed (list_with docs cursor) }

pub rest_weaker : (P Q : ℕ → Type 0) (old new : SegmentPostingsState) → ((doc : ℕ) → P doc → Q doc) → ReadsRest P old new → ReadsRest Q old new
rest_weaker P Q old new weaker r = record { many = r.many; reads = λ docs h. reads_weaker P Q weaker (list_with docs old) (list_with docs new) (r.reads docs h) }

pub rest_on : (P : ℕ → Type 0) (from : ℕ) (old now new : SegmentPostingsState) → IsAscending old.rest → now.rest ≡ from_doc from old.rest → IsAscending now.rest → from ≤ TERMINATED → ReadsRest P old now → ReadsRest P now new → ReadsRest P old new
rest_on P from old now new up is later end first second = record {
  many = second.many ∙ first.many;
  reads = λ docs h. reads_on P (list_with docs old) (list_with docs now) (list_with docs new) (first.reads docs h) (second.reads docs (rest_later docs from old now h up is later end first.many));
}

-- a scorer whose cursor went on
pub still_scorer : (s : PreparedScorerState) (dropped : ℕ) (cursor : SegmentPostingsState) → IsScorer s → dropped ≤ TERMINATED → cursor.rest ≡ from_doc dropped s.cursor.rest → IsSound cursor.rest → cursor.doc_freq ≡ s.cursor.doc_freq → IsScorer (record s { cursor = cursor })
still_scorer s dropped cursor is end rest sound many = record {
  prepared = still_prepared (remaining_term s) dropped cursor is.prepared end rest sound;
  list = rest_later (docs_of s.term.cursor.rest) dropped s.cursor cursor is.list is.prepared.sound.ascending rest sound.ascending end many;
}

-- a scorer at the start of a list
pub first_scorer : (t : PreparedTermState) → IsPrepared t → IsAtStart t.cursor → IsScorer (record { term = t; cursor = t.cursor })
first_scorer t is start = record { prepared = is; list = all_left t.cursor start }
