-- The postings of a key, from the tokens.
use Rattle.std.specs.Prelude.{◌≡◌, ℕ, ◌<◌, length, ◌+◌, Bool, ◌&&◌, ◌==◌, if◌then◌else◌, List, [], ◌∷◌, bytes_eq, count_by, filter, map}
use Rattle.std.specs.List.{list_any}
use Rattle.ii_base.specs.declared.schema.index_record_option.IndexRecordOption.{IndexRecordOption}
use Rattle.ii_base.specs.declared.schema.index_record_option.IndexRecordOption.TheVariants.{Basic}
use Rattle.ii_base.specs.Options.{downgrade}
use Rattle.ii_base.specs.Entries.{Entry}
use Rattle.ii_definitions.specs.Cut.{cut_entry}
use Rattle.ii_definitions.specs.Tokens.{IndexToken}

-- whether a token has this field and key
abbrev pub is_at : ℕ → List ℕ → IndexToken → Bool
is_at field key t = (t.field == field) && bytes_eq t.key key

-- the tokens of a key
abbrev pub tokens_at : ℕ → List ℕ → List IndexToken → List IndexToken
tokens_at field key ts = filter (is_at field key) ts

-- a token as an entry of its own
abbrev pub entry_of : IndexToken → Entry
entry_of t = record { doc = t.doc; term_freq = 1; positions = t.position ∷ [] }

-- the entries with an earlier token: in the first entry if it has that document, else in a new entry
abbrev pub with_token : IndexToken → List Entry → List Entry
with_token t [] = entry_of t ∷ []
with_token t (e ∷ es) =
    if e.doc == t.doc then record { doc = e.doc; term_freq = e.term_freq + 1; positions = t.position ∷ e.positions } ∷ es
    else entry_of t ∷ e ∷ es

-- the tokens grouped by document
abbrev pub grouped : List IndexToken → List Entry
grouped [] = []
grouped (t ∷ ts) = with_token t (grouped ts)

-- An entry has at least one position, and as many as its term frequency.
pub record IsCounted (e : Entry) : Type 0 where
  pub many : length e.positions ≡ e.term_freq
  pub some : 0 < e.term_freq

-- what is kept of a key with these tokens: for a value's key only documents
abbrev pub kind_of : IndexRecordOption → List IndexToken → IndexRecordOption
kind_of option [] = option
kind_of option (t ∷ ts) = if t.of_text then option else Basic

-- the tokens of one key, as its postings
abbrev pub postings_from : IndexRecordOption → IndexRecordOption → List IndexToken → List Entry
postings_from option requested ts = map (cut_entry (downgrade (kind_of option ts) requested)) (grouped ts)

-- the postings of a key in a field with this option, as far as they are requested
abbrev pub key_postings : IndexRecordOption → ℕ → List ℕ → IndexRecordOption → List IndexToken → List Entry
key_postings option field key requested ts = postings_from option requested (tokens_at field key ts)

-- whether a key occurred
abbrev pub occurs : ℕ → List ℕ → List IndexToken → Bool
occurs field key ts = list_any (is_at field key) ts

-- the number of tokens of a field
abbrev pub field_count : ℕ → List IndexToken → ℕ
field_count field ts = count_by (λ (t : IndexToken). t.field == field) ts

-- the number of tokens of a document in a field
abbrev pub doc_count : ℕ → ℕ → List IndexToken → ℕ
doc_count doc field ts = count_by (λ (t : IndexToken). (t.doc == doc) && (t.field == field)) ts
