-- What the bodies of a field hold of the written terms.
use Rattle.std.specs.Prelude.{◌≡◌, ℕ, ◌/◌, ◌^◌, ◌<◌, Bool, false, List, bytes_eq, length, map, Some, Ok, MatchOption}
use Rattle.std.specs.List.{Contains, AllByRecursion, flat_map, list_any}
use Rattle.ii_io.specs.Numbers.{number_at}
use Rattle.ii_base.specs.declared.schema.index_record_option.IndexRecordOption.{IndexRecordOption}
use Rattle.ii_termstore.specs.declared.term_info.TermInfo.{TermInfo}
use Rattle.ii_termstore.specs.declared.term_info_store.TheConstants.{BLOCK_LEN}
use Rattle.ii_termstore.specs.Written.{blocks_bytes}
use Rattle.ii_termdict.specs.Dictionary.{TermEntry, dictionary, entry_keys, info_under}
use Rattle.ii_termdict.specs.ReadBack.{AreAscending}
use Rattle.ii_definitions.specs.Files.{LiesIn, bytes_in}
use Rattle.ii_recorder.specs.Terms.{FieldBodies, IsShort, WrittenTerm, field_bodies, infos_from, postings_bytes, positions_body, positions_bytes}

-- The info of a term has its document frequency and the ranges of its bytes.
pub record HoldsWritten (mode : IndexRecordOption) (postings positions : List ℕ) (t : WrittenTerm) (info : TermInfo) : Type 0 where
  pub doc_freq : info.doc_freq ≡ length t.docs
  pub postings_range : LiesIn postings info.postings_range
  pub positions_range : LiesIn positions info.positions_range
  pub postings_are : bytes_in postings info.postings_range ≡ postings_bytes t
  pub positions_are : bytes_in positions info.positions_range ≡ positions_bytes mode t.deltas

-- A key is that of a written term, and its info describes that term.
pub record HoldsKey (mode : IndexRecordOption) (postings positions : List ℕ) (ts : List WrittenTerm) (key : List ℕ) (info : TermInfo) : Type 0 where
  pub term : WrittenTerm
  pub written : Contains ts term
  pub key_is : term.key ≡ key
  pub held : HoldsWritten mode postings positions term info

-- the keys of terms
abbrev pub written_keys : List WrittenTerm → List (List ℕ)
written_keys ts = map (λ (t : WrittenTerm). t.key) ts

-- whether a term was written under a key
abbrev pub has_key : List ℕ → List WrittenTerm → Bool
has_key key ts = list_any (λ (t : WrittenTerm). bytes_eq key t.key) ts

-- The bodies of a field hold its number of tokens, exactly the ascending keys of its terms, and their bytes.
pub record HoldsTerms (mode : IndexRecordOption) (tokens : ℕ) (bodies : FieldBodies) (ts : List WrittenTerm) : Type 0 where
  pub entries : List TermEntry
  pub postings_body : List ℕ
  pub counted : number_at 8 bodies.postings ≡ Some (tokens, postings_body)
  pub sorted : dictionary bodies.terms ≡ Ok entries
  pub keys : entry_keys entries ≡ written_keys ts
  pub ascending : AreAscending (written_keys ts)
  pub exact : (key : List ℕ) → MatchOption (info_under key entries) (has_key key ts ≡ false) (HoldsKey mode postings_body bodies.positions ts key)

-- The key of a written term leads to that term.
pub record KeepsTerm (mode : IndexRecordOption) (entries : List TermEntry) (postings positions : List ℕ) (t : WrittenTerm) : Type 0 where
  pub info : TermInfo
  pub found : info_under t.key entries ≡ Some info
  pub held : HoldsWritten mode postings positions t info

-- Terms whose bodies read back: their keys ascend, and their infos fit their types.
pub record AreHoldable (mode : IndexRecordOption) (ts : List WrittenTerm) : Type 0 where
  pub ascending : AreAscending (written_keys ts)
  pub small : length (flat_map (λ (k : List ℕ). k) (written_keys ts)) < 2 ^ 64
  pub few : length ts < 2 ^ 64
  pub bits : length (blocks_bytes (infos_from mode 0 0 ts) (length (infos_from mode 0 0 ts) / BLOCK_LEN)) < 2 ^ 64
  pub short : AllByRecursion (IsShort mode) ts
  pub counts : AllByRecursion (λ (t : WrittenTerm). length t.docs < 2 ^ 32) ts
  pub within : (length (flat_map postings_bytes ts) < 2 ^ 56) × (length (positions_body mode ts) < 2 ^ 56)

-- The bodies that are written for a field hold its terms, each under its key.
abbrev pub HoldsWhatIsWritten : Type 0
HoldsWhatIsWritten = (mode : IndexRecordOption) (tokens : ℕ) (ts : List WrittenTerm) → tokens < 2 ^ 64 → AreHoldable mode ts → HoldsTerms mode tokens (field_bodies mode tokens ts) ts

-- The law: bodies that hold terms hold each of them.
abbrev pub HoldsEachTerm : Type 0
HoldsEachTerm =
    (mode : IndexRecordOption) (tokens : ℕ) (bodies : FieldBodies) (ts : List WrittenTerm) (h : HoldsTerms mode tokens bodies ts) (t : WrittenTerm) → Contains ts t
    → KeepsTerm mode h.entries h.postings_body bodies.positions t
