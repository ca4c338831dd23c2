-- The documents of a phrase.
use Rattle.std.specs.Prelude.{◌≡◌, ℕ, ◌+◌, ◌-◌, ◌/◌, ◌<◌, ◌≤◌, Bool, ◌&&◌, false, if◌then◌else◌, List, [], ◌∷◌, drop, filter, length, map, nat_eq}
use Rattle.std.specs.List.{AllByRecursion, list_all, list_any, sum_by}
use Rattle.ii_base.specs.Entries.{Entry, docs_of, document}
use Rattle.ii_base.specs.declared.doc_id.TheConstants.{TERMINATED}
use Rattle.ii_docset.specs.Cursor.{IsSound, doc_at, positions_at}
use Rattle.ii_query.specs.declared.position_piece.TheConstants.{POSITIONS_READ}

-- a term of a phrase: its remaining documents, and its distance from the first term
pub record PhrasePartState : Type 0 where
  pub distance : ℕ
  pub rest : List Entry

-- a term of a phrase, the cursor over its postings, and how many positions of the current document were read, whether these were found to be all, and how many were passed
pub record PhraseTermState (P : Type 0) : Type 0 where
  pub part : PhrasePartState
  pub cursor : P
  pub read : ℕ
  pub ended : Bool
  pub passed : ℕ

-- the remaining documents of a phrase's first term, the other terms, all cursors, and all terms with what they read
pub record PhraseMatchState (P : Type 0) : Type 0 where
  pub first : List Entry
  pub others : List PhrasePartState
  pub cursors : List P
  pub terms : List (PhraseTermState P)

-- a term of which no position of the current document was read
abbrev pub unread_term : {P : Type 0} → ℕ → List Entry → P → PhraseTermState P
unread_term distance rest cursor = record { part = record { distance = distance; rest = rest }; cursor = cursor; read = 0; ended = false; passed = 0 }

-- a term as it was before positions of its current document were read
abbrev pub unread : {P : Type 0} → PhraseTermState P → PhraseTermState P
unread t = unread_term t.part.distance t.part.rest t.cursor

-- No position of a term's current document was read.
abbrev pub IsUnread : {P : Type 0} → PhraseTermState P → Type 0
IsUnread t = t ≡ unread t

-- So it is, unless the term's current document is below this one.
abbrev pub IsUnreadFrom : {P : Type 0} → ℕ → PhraseTermState P → Type 0
IsUnreadFrom doc t = doc ≤ doc_at t.part.rest → IsUnread t

-- the terms without their cursors
abbrev pub parts_in : {P : Type 0} → List (PhraseTermState P) → List PhrasePartState
parts_in terms = map (λ (t : PhraseTermState _). t.part) terms

-- the cursors of the terms
abbrev pub cursors_in : {P : Type 0} → List (PhraseTermState P) → List P
cursors_in terms = map (λ (t : PhraseTermState _). t.cursor) terms

-- A bound on what a cursor did between two states, for some number of reads and of positions read.
pub record Spent {P : Type 0} (spent : ℕ → ℕ → P → P → Type 0) (old new : P) : Type 0 where
  pub asked : ℕ
  pub count : ℕ
  pub by : spent asked count old new

-- the number of positions in a list
abbrev pub num_positions : List Entry → ℕ
num_positions es = sum_by (λ (e : Entry). length e.positions) es

-- how many calls read the positions of a document at most, POSITIONS_READ at a time
abbrev pub most_reads : ℕ → ℕ
most_reads n = n / POSITIONS_READ + 1

-- the number of positions in a list, without those of the first document that were read
abbrev pub positions_left : ℕ → List Entry → ℕ
positions_left read [] = 0
positions_left read (e ∷ es) = (length e.positions - read) + num_positions es

-- how many calls read them at most
abbrev pub reads_left : ℕ → Bool → List Entry → ℕ
reads_left read ended [] = 0
reads_left read ended (e ∷ es) = (if ended then 0 else most_reads (length e.positions - read)) + sum_by (λ (f : Entry). most_reads (length f.positions)) es

-- Between two states a term read no position twice: its calls and the positions that they read are no more than those left before without those left after.
pub record ReadsOnce {P : Type 0} (spent : ℕ → ℕ → P → P → Type 0) (old new : PhraseTermState P) : Type 0 where
  pub asked : ℕ
  pub count : ℕ
  pub by : spent asked count old.cursor new.cursor
  pub reads : asked + reads_left new.read new.ended new.part.rest ≤ reads_left old.read old.ended old.part.rest
  pub positions : count + positions_left new.read new.part.rest ≤ positions_left old.read old.part.rest

-- whether a number belongs to a list of positions
abbrev pub is_among : List ℕ → ℕ → Bool
is_among positions position = list_any (λ (p : ℕ). nat_eq p position) positions

-- whether a list has a document whose positions pass a test
abbrev pub has_positions : (List ℕ → Bool) → List Entry → ℕ → Bool
has_positions test es doc = list_any (λ (e : Entry). nat_eq e.doc doc && test e.positions) es

-- whether a list has a document with a position
abbrev pub has_position : List Entry → ℕ → ℕ → Bool
has_position es doc position = has_positions (λ (positions : List ℕ). is_among positions position) es doc

-- whether the positions of each other term in a document pass a test of its distance and them
abbrev pub parts_have : (ℕ → List ℕ → Bool) → List PhrasePartState → ℕ → Bool
parts_have test others doc = list_all (λ (p : PhrasePartState). has_positions (test p.distance) p.rest doc) others

-- whether those in its current document do
abbrev pub parts_pass : (ℕ → List ℕ → Bool) → List PhrasePartState → Bool
parts_pass test others = list_all (λ (p : PhrasePartState). test p.distance (positions_at p.rest)) others

-- whether a position is at a distance from a start
abbrev pub is_at : ℕ → ℕ → List ℕ → Bool
is_at start distance positions = is_among positions (start + distance)

-- whether each other term occurs in a document at its distance from a position
abbrev pub stand_from : List PhrasePartState → ℕ → ℕ → Bool
stand_from others doc start = parts_have (is_at start) others doc

-- whether they do for at least one position of an entry
abbrev pub begins_phrase : List PhrasePartState → Entry → Bool
begins_phrase others e = list_any (stand_from others e.doc) e.positions

-- the documents of a phrase
abbrev pub phrase_docs : List Entry → List PhrasePartState → List Entry
phrase_docs es others = map document (docs_of (filter (begins_phrase others) es))

-- whether each other term occurs in its current document at its distance from a position
abbrev pub stand_here : List PhrasePartState → ℕ → Bool
stand_here others start = parts_pass (is_at start) others

-- whether a term occurs in its current document at its distance from a position, among the positions that weren't passed
abbrev pub is_left : {P : Type 0} → PhraseTermState P → ℕ → Bool
is_left t start = is_among (drop t.passed (positions_at t.part.rest)) (start + t.part.distance)

-- whether each term does
abbrev pub stand_left : {P : Type 0} → List (PhraseTermState P) → ℕ → Bool
stand_left terms start = list_all (λ (t : PhraseTermState _). is_left t start) terms

-- A document is the current one of a term.
pub record IsAtDoc (doc : ℕ) (part : PhrasePartState) : Type 0 where
  pub sound : IsSound part.rest
  pub here : doc_at part.rest ≡ doc

-- The result of seeking terms to a document: none dropped a document from it on, and all are at it, or the result is greater, and no document below it has all terms.
pub record MeetsAt (doc : ℕ) (old new : List PhrasePartState) (bound : ℕ) : Type 0 where
  pub alike : (test : ℕ → List ℕ → Bool) (d : ℕ) → doc ≤ d → parts_have test new d ≡ parts_have test old d
  pub low : doc ≤ bound
  pub up_to : bound ≤ TERMINATED
  pub met : bound ≡ doc → AllByRecursion (IsAtDoc doc) new
  pub none : (test : ℕ → List ℕ → Bool) (d : ℕ) → d < bound → doc < bound → parts_have test new d ≡ false

-- The result of a search for the first document of a list, from a document on: no document of the list is below the result, and if that is the document itself, it is the first one.
pub record IsCandidate (doc : ℕ) (docs : List Entry) (bound : ℕ) : Type 0 where
  pub low : doc ≤ bound
  pub least : bound ≤ doc_at docs
  pub here : bound ≡ doc → doc_at docs ≡ doc
