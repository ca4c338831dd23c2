-- The written terms of a field, and the open one.
use Rattle.std.specs.Prelude.{◌≡◌, ℕ, ◌+◌, ◌^◌, ◌<◌, ◌≤◌, ◌⊎◌, Bool, true, false, if◌then◌else◌, IsTrue, List, [], ◌++◌, length, map}
use Rattle.std.specs.List.{flat_map, AllByRecursion}
use Rattle.ii_io.specs.declared.faults.Fault.{Fault}
use Rattle.ii_io.specs.declared.faults.Fault.TheVariants.{Limit, OutOfMemory, Write}
use Rattle.ii_io.specs.declared.faults.LimitName.TheVariants as limit
use Rattle.ii_io.specs.CountingWriter.{CountingWriterState, IsFull}
use Rattle.ii_base.specs.declared.schema.index_record_option.IndexRecordOption.{IndexRecordOption}
use Rattle.ii_base.specs.Options.{has_positions}
use Rattle.ii_layout.specs.Written.{written_postings}
use Rattle.ii_termdict.specs.ReadBack.{AreAscending}
use Rattle.ii_termdict.specs.Written.{written_dictionary}
use Rattle.ii_recorder.specs.Terms.{FieldBodies, IsShort, WrittenTerm, postings_bytes, positions_bytes, positions_body, infos_from}
use Rattle.ii_recorder.specs.OpenTerm.{OpenTermState}
use Rattle.ii_recorder.specs.TermPlaces.{TermPlacesState, with_term}

-- The open term, what is kept of the others, and whether a term is open.
pub record FieldTermsState : Type 0 where
  pub term : OpenTermState
  pub places : TermPlacesState
  pub term_open : Bool

-- the state from its parts
abbrev pub field_terms : OpenTermState → TermPlacesState → Bool → FieldTermsState
field_terms term places term_open = record { term = term; places = places; term_open = term_open }

-- Before any error: only an open term has a key without info, or deltas, and deltas only with positions.
pub record IsUnrefused (s : FieldTermsState) : Type 0 where
  pub places : s.places.closed ≡ false
  pub between : s.term_open ≡ false → (length s.places.keys ≡ length s.places.infos) × (s.term.deltas ≡ [])
  pub plain : has_positions s.term.mode ≡ false → s.term.deltas ≡ []
  pub inside : s.term_open ≡ true → length s.places.keys ≡ length s.places.infos + 1

-- The state that an ended term leaves.
pub record IsLeft (old new : OpenTermState) : Type 0 where
  pub mode : new.mode ≡ old.mode
  pub norms : new.norms ≡ old.norms
  pub located : has_positions old.mode ≡ true → new.deltas ≡ []
  pub plain : has_positions old.mode ≡ false → new.deltas ≡ old.deltas

-- the open term as it is written under a key
abbrev pub term_under : List ℕ → OpenTermState → WrittenTerm
term_under key t = record { key = key; norms = t.norms; skip_info = t.skip_info; docs = t.docs; freqs = t.freqs; deltas = t.deltas }

-- Written terms, each shorter than 2 ^ 32 bytes and ending below 2 ^ 56, then the keys of unwritten ones.
pub record HasTerms (mode : IndexRecordOption) (places : TermPlacesState) (ts : List WrittenTerm) (pending : List (List ℕ)) : Type 0 where
  pub keys : places.keys ≡ map (λ (t : WrittenTerm). t.key) ts ++ pending
  pub infos : places.infos ≡ infos_from mode 0 0 ts
  pub postings : places.postings_end ≡ length (flat_map postings_bytes ts)
  pub positions : places.positions_end ≡ length (positions_body mode ts)
  pub ascending : AreAscending places.keys
  pub short : AllByRecursion (IsShort mode) ts
  pub within : (places.postings_end < 2 ^ 56) × (places.positions_end < 2 ^ 56)

-- the bytes that are written when the open term is ended
abbrev pub bytes_of : OpenTermState → FieldBodies
bytes_of t = record { terms = []; postings = written_postings t.norms t.skip_info t.docs t.freqs; positions = positions_bytes t.mode t.deltas }

-- The postings or the positions of a term have 2 ^ 32 bytes or more.
abbrev pub IsTooLong : OpenTermState → Type 0
IsTooLong t = (2 ^ 32 ≤ length (written_postings t.norms t.skip_info t.docs t.freqs)) ⊎ (2 ^ 32 ≤ length (positions_bytes t.mode t.deltas))

-- With this term, the postings or the positions of all terms would end at 2 ^ 56 or later.
abbrev pub PassOffsets : TermPlacesState → OpenTermState → Type 0
PassOffsets p t = (2 ^ 56 ≤ p.postings_end + length (written_postings t.norms t.skip_info t.docs t.freqs)) ⊎ (2 ^ 56 ≤ p.positions_end + length (positions_bytes t.mode t.deltas))

-- Neither limit of a term is exceeded.
abbrev pub IsWithinLimits : FieldTermsState → Type 0
IsWithinLimits s = (¬ IsTooLong s.term) × (¬ PassOffsets s.places s.term)

-- A term doesn't fit: a count of a writer would exceed its type, or an end 2 ^ 56.
abbrev pub HasNoRoom : OpenTermState → TermPlacesState → CountingWriterState → CountingWriterState → Type 0
HasNoRoom t p postings positions =
    IsFull postings (length (written_postings t.norms t.skip_info t.docs t.freqs)) ⊎ (IsTrue (has_positions t.mode) × IsFull positions (length (positions_bytes t.mode t.deltas))) ⊎ PassOffsets p t

-- The errors of ending a term.
abbrev pub IsEndFault : OpenTermState → TermPlacesState → CountingWriterState → CountingWriterState → Fault → Type 0
IsEndFault t p postings positions fault =
    (fault ≡ OutOfMemory) ⊎ (fault ≡ Write) ⊎ ((fault ≡ Limit limit.Offset) × HasNoRoom t p postings positions) ⊎ ((fault ≡ Limit limit.TermBytes) × IsTooLong t)

-- the terms after the open one is ended, if there is one
abbrev pub places_after : FieldTermsState → TermPlacesState
places_after s =
    if s.term_open then with_term s.places (length s.term.docs) (length (written_postings s.term.norms s.term.skip_info s.term.docs s.term.freqs)) (length (positions_bytes s.term.mode s.term.deltas))
    else s.places

-- the bytes that are written when a field without an open term is ended
abbrev pub dictionary_of : FieldTermsState → FieldBodies
dictionary_of s = record { terms = written_dictionary s.places.keys s.places.infos; postings = []; positions = [] }

-- the bytes that are written when the open term, if there is one, and the field are ended
abbrev pub closing_bytes : FieldTermsState → FieldBodies
closing_bytes s = record {
  terms = written_dictionary (places_after s).keys (places_after s).infos;
  postings = if s.term_open then (bytes_of s.term).postings else [];
  positions = if s.term_open then (bytes_of s.term).positions else [];
}

-- A term was ended: its place is kept, and no limit was exceeded.
pub record EndsTerm (old new : FieldTermsState) : Type 0 where
  pub places : new.places ≡ with_term old.places (length old.term.docs)
      (length (written_postings old.term.norms old.term.skip_info old.term.docs old.term.freqs)) (length (positions_bytes old.term.mode old.term.deltas))
  pub short : IsShort old.term.mode (term_under [] old.term)
  pub within : (new.places.postings_end < 2 ^ 56) × (new.places.positions_end < 2 ^ 56)
  pub left : IsLeft old.term new.term
  pub ended : new.term_open ≡ false
