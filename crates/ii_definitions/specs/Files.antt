-- What the three index files hold.
use Rattle.std.specs.Prelude.{◌≡◌, ℕ, ◌≤◌, false, List, length, nat_lt, Some, Ok, is_some, IsTrue, MatchOption}
use Rattle.std.specs.List.{slice_range}
use Rattle.std.specs.declared.ops.Range.{Range}
use Rattle.ii_io.specs.Numbers.{number_at}
use Rattle.ii_io.specs.Composite.{Body, body_of, composite}
use Rattle.ii_base.specs.declared.schema.index_record_option.IndexRecordOption.{IndexRecordOption}
use Rattle.ii_termstore.specs.declared.term_info.TermInfo.{TermInfo}
use Rattle.ii_termdict.specs.Dictionary.{TermEntry, dictionary, info_under}
use Rattle.ii_layout.specs.TermList.{term_list}
use Rattle.ii_definitions.specs.Tokens.{IndexToken}
use Rattle.ii_definitions.specs.Postings.{field_count, grouped, key_postings, occurs, tokens_at}

-- A range lies within bytes.
abbrev pub LiesIn : List ℕ → Range ℕ → Type 0
LiesIn bytes range = (range.start ≤ range.end) × (range.end ≤ length bytes)

-- the bytes in a range
abbrev pub bytes_in : List ℕ → Range ℕ → List ℕ
bytes_in bytes range = slice_range bytes range.start range.end

-- The bytes of a term, in the bodies of its field, give the postings of its key for each request.
pub record HoldsTerm (option : IndexRecordOption) (field : ℕ) (key postings positions : List ℕ) (ts : List IndexToken) (info : TermInfo) : Type 0 where
  pub occurred : IsTrue (occurs field key ts)
  pub doc_freq : info.doc_freq ≡ length (grouped (tokens_at field key ts))
  pub postings_range : LiesIn postings info.postings_range
  pub positions_range : LiesIn positions info.positions_range
  pub lists : (requested : IndexRecordOption) →
      term_list option requested info.doc_freq (bytes_in postings info.postings_range) (Some (bytes_in positions info.positions_range))
      ≡ Ok (key_postings option field key requested ts)

-- The bodies of a field hold its number of tokens, exactly the keys that occurred, and the postings of each.
pub record HoldsField (option : IndexRecordOption) (field : ℕ) (terms postings positions : List ℕ) (ts : List IndexToken) : Type 0 where
  pub entries : List TermEntry
  pub postings_body : List ℕ
  pub counted : number_at 8 postings ≡ Some (field_count field ts, postings_body)
  pub sorted : dictionary terms ≡ Ok entries
  pub exact : (key : List ℕ) → MatchOption (info_under key entries) (occurs field key ts ≡ false) (HoldsTerm option field key postings_body positions ts)

-- A field has a body exactly where it has tokens.
abbrev pub HasField : ℕ → List Body → List IndexToken → Type 0
HasField field bodies ts = is_some (body_of field bodies) ≡ nat_lt 0 (field_count field ts)

-- Three files hold tokens, those of each field by its option.
pub record HoldTokens (option : ℕ → IndexRecordOption) (terms postings positions : List ℕ) (ts : List IndexToken) : Type 0 where
  pub term_bodies : List Body
  pub postings_bodies : List Body
  pub positions_bodies : List Body
  pub opened_terms : composite terms ≡ Some term_bodies
  pub opened_postings : composite postings ≡ Some postings_bodies
  pub opened_positions : composite positions ≡ Some positions_bodies
  pub present : (field : ℕ) → HasField field term_bodies ts × HasField field postings_bodies ts × HasField field positions_bodies ts
  pub fields : (field : ℕ) (t p q : List ℕ) → body_of field term_bodies ≡ Some t → body_of field postings_bodies ≡ Some p → body_of field positions_bodies ≡ Some q
      → HoldsField (option field) field t p q ts
