-- What is written for the tokens of a field.
use Rattle.std.specs.Prelude.{ℕ, ◌==◌, List, filter, map, Option, Some}
use Rattle.std.specs.Cmp.Lexicographic.{slice_cmp}
use Rattle.std.specs.FinMap.{from_entries, keys}
use Rattle.std.specs.List.{AllByRecursion}
use Rattle.std.specs.Ordering.{nat_cmp}
use Rattle.ii_base.specs.declared.schema.index_record_option.IndexRecordOption.{IndexRecordOption}
use Rattle.ii_base.specs.Entries.{Entry, docs_of}
use Rattle.ii_fieldnorm.specs.Readers.{Norms}
use Rattle.ii_definitions.specs.Cut.{cut_entry}
use Rattle.ii_definitions.specs.Files.{HoldsField}
use Rattle.ii_definitions.specs.Postings.{field_count, grouped, kind_of, tokens_at}
use Rattle.ii_definitions.specs.Tokens.{IndexToken}
use Rattle.ii_definitions.specs.TrueBounds.{HasTrueTerms}
use Rattle.ii_recorder.specs.HeldTerms.{HoldsTerms}
use Rattle.ii_recorder.specs.Pushed.{AreReadable, pushed_deltas, pushed_freqs}
use Rattle.ii_recorder.specs.Terms.{FieldBodies, WrittenTerm}

-- the keys of a field that occurred, each once, in ascending order
abbrev pub field_keys : ℕ → List IndexToken → List (List ℕ)
field_keys field ts = keys (from_entries {X = Unit {0}} {R = slice_cmp nat_cmp} (map (λ (t : IndexToken). (t.key, tt)) (filter (λ (t : IndexToken). t.field == field) ts)))

-- the entries of a key with these tokens, as a field with the option `mode` keeps them
abbrev pub kept_entries : IndexRecordOption → List IndexToken → List Entry
kept_entries mode tokens = map (cut_entry (kind_of mode tokens)) (grouped tokens)

-- entries of a key as they are written, with the norms of its field
abbrev pub entries_term : Option Norms → IndexRecordOption → List ℕ → List Entry → WrittenTerm
entries_term norms kind key es = record { key = key; norms = norms; skip_info = kind; docs = docs_of es; freqs = pushed_freqs kind es; deltas = pushed_deltas es }

-- the postings of a key as a field with the option `mode` writes them
abbrev pub token_term : Option Norms → IndexRecordOption → ℕ → List IndexToken → List ℕ → WrittenTerm
token_term norms mode field ts key = entries_term norms (kind_of mode (tokens_at field key ts)) key (kept_entries mode (tokens_at field key ts))

-- What is written for the tokens of a key can be read back.
abbrev pub IsReadableKey : IndexRecordOption → ℕ → List IndexToken → List ℕ → Type 0
IsReadableKey mode field ts key = AreReadable (kind_of mode (tokens_at field key ts)) (kept_entries mode (tokens_at field key ts))

-- Bodies that hold what is written for the tokens of a field hold these tokens.
abbrev pub HoldsItsTokens : Type 0
HoldsItsTokens = (norms : Option Norms) (mode : IndexRecordOption) (field : ℕ) (ts : List IndexToken) (bodies : FieldBodies)
    → AllByRecursion (IsReadableKey mode field ts) (field_keys field ts)
    → HoldsTerms mode (field_count field ts) bodies (map (token_term norms mode field ts) (field_keys field ts))
    → HoldsField mode field bodies.terms bodies.postings bodies.positions ts

-- Bodies that hold what is written for the tokens of a field with norms have true bounds.
abbrev pub BoundsItsTokens : Type 0
BoundsItsTokens = (norms : Norms) (mode : IndexRecordOption) (field : ℕ) (ts : List IndexToken) (bodies : FieldBodies)
    → AllByRecursion (IsReadableKey mode field ts) (field_keys field ts)
    → HoldsTerms mode (field_count field ts) bodies (map (token_term (Some norms) mode field ts) (field_keys field ts))
    → HasTrueTerms mode norms bodies.terms bodies.postings
