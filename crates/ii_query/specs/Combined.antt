-- The documents of combined cursors.
use Rattle.std.specs.Prelude.{◌≡◌, ℕ, ◌<◌, ◌≤◌, Bool, true, false, if◌then◌else◌, List, [], ◌∷◌, filter, length, map, nat_le, not}
use Rattle.std.specs.List.{list_all, range_with_len}
use Rattle.ii_base.specs.Entries.{Entry, docs_of, document}
use Rattle.ii_base.specs.declared.doc_id.TheConstants.{TERMINATED}
use Rattle.ii_docset.specs.Cursor.{doc_at, IsSound}
use Rattle.ii_docset.specs.Intersection.{has_doc}

-- two cursors
pub record Parts (A B : Type 0) : Type 0 where
  pub first : A
  pub other : B

-- the remaining documents of a cursor, its hint, its nesting depth, and the cursors under it
pub record QueryCursorState (T : Type 0) : Type 0 where
  pub rest : List Entry
  pub hint : ℕ
  pub depth : ℕ
  pub cursors : List T

-- n documents, from a first one on
abbrev pub all_from : ℕ → ℕ → List Entry
all_from doc n = map document (range_with_len doc n)

-- the documents of a list that pass a test
abbrev pub picked : (ℕ → Bool) → List Entry → List Entry
picked holds es = map document (filter holds (docs_of es))

-- the documents that both lists have
abbrev pub common : List Entry → List Entry → List Entry
common es fs = picked (has_doc fs) es

-- the documents of a list that another list doesn't have
abbrev pub without : List Entry → List Entry → List Entry
without es fs = picked (λ (d : ℕ). not (has_doc fs d)) es

-- a document inserted into ascending documents, once
abbrev pub put_in : ℕ → List ℕ → List ℕ
put_in doc [] = doc ∷ []
put_in doc (d ∷ ds) = if nat_le doc d then (if nat_le d doc then d ∷ ds else doc ∷ d ∷ ds) else d ∷ put_in doc ds

-- the documents of one list inserted into another
abbrev pub put_all : List ℕ → List ℕ → List ℕ
put_all [] docs = docs
put_all (d ∷ ds) docs = put_in d (put_all ds docs)

-- the documents that at least one of two lists has
abbrev pub either : List Entry → List Entry → List Entry
either es fs = map document (put_all (docs_of es) (docs_of fs))

-- whether each list has a document
abbrev pub all_have : List (List Entry) → ℕ → Bool
all_have lists doc = list_all (λ (es : List Entry). has_doc es doc) lists

-- the documents of the first list that all other lists have; none if there is no list
abbrev pub intersection_of : List (List Entry) → List Entry
intersection_of [] = []
intersection_of (es ∷ others) = picked (all_have others) es

-- the documents that at least one list has
abbrev pub union_of : List (List Entry) → List Entry
union_of [] = []
union_of (es ∷ others) = either es (union_of others)

-- The picked documents of a list start with its first document, or there are none.
pub record IsAtFirst (es combined : List Entry) : Type 0 where
  pub sound : IsSound es
  pub here : doc_at combined ≡ doc_at es

-- The remaining documents start with this one, or there are none if it is TERMINATED.
pub record StandsAt (doc : ℕ) (es : List Entry) : Type 0 where
  pub sound : IsSound es
  pub here : doc ≡ doc_at es

-- The same, and a hint is at least the number of remaining documents.
pub record StandsWithin (doc hint : ℕ) (es : List Entry) : Type 0 where
  pub sound : IsSound es
  pub here : doc ≡ doc_at es
  pub enough : length es ≤ hint

-- The result of seeking lists to a document: the document itself if all of them have it, else a greater one, below which no document is in all of them.
pub record SeekAnswer (doc bound : ℕ) (lists : List (List Entry)) : Type 0 where
  pub low : doc ≤ bound
  pub up_to : bound ≤ TERMINATED
  pub met : bound ≡ doc → all_have lists doc ≡ true
  pub none : (d : ℕ) → doc ≤ d → d < bound → all_have lists d ≡ false
