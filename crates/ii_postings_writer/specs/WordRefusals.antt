-- Which words of a text are refused, apart from allocation failures.
use Rattle.std.specs.Prelude.{ℕ, ◌+◌, ◌-◌, ◌^◌, ◌||◌, ◌==◌, if◌then◌else◌, List, [], ◌∷◌, ◌++◌, nat_lt, nat_le, Option, None, Some, unwrap_or}
use Rattle.std.specs.List.{find}
use Rattle.ii_io.specs.declared.faults.Fault.{Fault}
use Rattle.ii_io.specs.declared.faults.Fault.TheVariants.{Limit}
use Rattle.ii_io.specs.declared.faults.LimitName.TheVariants as limit
use Rattle.ii_base.specs.declared.schema.index_record_option.IndexRecordOption.{IndexRecordOption}
use Rattle.ii_base.specs.Words.{Word}
use Rattle.ii_json.specs.LeafVisit.{first_fault}
use Rattle.ii_base.specs.Entries.{Entry}
use Rattle.ii_recorder.specs.Recorded.{begun, position_fault, u32_max}
use Rattle.ii_definitions.specs.Tokens.{IndexToken, Piece, end_after, word_token}
use Rattle.ii_definitions.specs.Postings.{field_count, key_postings}

-- the greatest number of 64 bits
abbrev pub u64_max : ℕ
u64_max = 2 ^ 64 - 1

-- the entry of a token's document in the postings of its key so far
abbrev pub open_entry : IndexRecordOption → IndexToken → List IndexToken → Entry
open_entry option t ts = unwrap_or (find (λ (e : Entry). e.doc == t.doc) (key_postings option t.field t.key option ts)) (begun option t.doc)

-- why a word can't be the next token: where it ends, the number of tokens, or its position can't be recorded
abbrev pub word_fault : IndexRecordOption → Piece → ℕ → ℕ → List IndexToken → Word → Option Fault
word_fault option p begin in_group ts w =
    if nat_lt u32_max (begin + w.position + w.position_length) then Some (Limit limit.Position)
    else if nat_le u32_max in_group || nat_le u64_max (field_count p.field ts) then Some (Limit limit.Tokens)
    else let t = word_token p begin w in position_fault option t.position (open_entry option t ts)

-- the first fault of kept words, in order
abbrev pub words_fault : IndexRecordOption → Piece → ℕ → ℕ → List IndexToken → List Word → Option Fault
words_fault option p begin in_group ts [] = None
words_fault option p begin in_group ts (w ∷ ws) = first_fault (word_fault option p begin in_group ts w) (words_fault option p begin (in_group + 1) (ts ++ word_token p begin w ∷ []) ws)

-- the fault of the gap after a text, which is checked last
abbrev pub gap_fault : ℕ → List Word → Option Fault
gap_fault begin ws = if nat_lt u32_max (end_after begin ws) then Some (Limit limit.Position) else None
