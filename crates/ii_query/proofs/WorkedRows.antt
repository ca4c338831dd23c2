-- Computed examples of hints, of phrases with slop, of what a phrase may still read, and of sets of documents.
use Rattle.std.proofs.Common.{◌≡◌, ℕ, ◌^◌, ◌-◌, true, false, List, [], ◌∷◌, replicate, refl, arith}
use Rattle.ii_base.specs.Entries.{Entry, docs_of}
use Rattle.ii_query.specs.BitSet.{docs_of_set}
use Rattle.ii_query.specs.Combined.{QueryCursorState}
use Rattle.ii_query.specs.Phrase.{PhrasePartState, most_reads, phrase_docs, positions_left, reads_left}
use Rattle.ii_query.specs.QueryCursor.{LeadsWith, sum_of_hints}
use Rattle.ii_query.specs.SloppyPhrase.{sloppy_docs}

-- a cursor without documents that has a hint
abbrev pub hinted : ℕ → QueryCursorState ℕ
hinted hint = record { rest = []; hint = hint; depth = 0; cursors = [] }

pub sum_of_two : sum_of_hints (hinted 3 ∷ hinted 5 ∷ []) ≡ 8
sum_of_two = refl

pub sum_of_none : sum_of_hints {T = ℕ} [] ≡ 0
sum_of_none = refl

-- the sum of two hints that have 33 bits together
pub sum_past_32_bits : sum_of_hints (hinted (2 ^ 31) ∷ hinted (2 ^ 31) ∷ []) ≡ 2 ^ 32 - 1
sum_past_32_bits = refl

-- the lesser of two hints leads, also of two equal ones
pub lesser_leads : LeadsWith 3 (hinted 3 ∷ hinted 5 ∷ [])
lesser_leads = (refl, (omega arith, (omega arith, tt)))

pub equal_leads : LeadsWith 3 (hinted 3 ∷ hinted 3 ∷ [])
equal_leads = (refl, (omega arith, (omega arith, tt)))

-- a document with one position
abbrev pub at_one : ℕ → ℕ → Entry
at_one doc position = record { doc = doc; term_freq = 1; positions = position ∷ [] }

-- the words of `old wide sea` and of `sea old`
abbrev pub old_docs : List Entry
old_docs = at_one 0 0 ∷ at_one 1 1 ∷ []

abbrev pub then_sea : List PhrasePartState
then_sea = record { distance = 1; rest = at_one 0 2 ∷ at_one 1 0 ∷ [] } ∷ []

-- "old sea", and with slops 0, 1 and 2
pub old_sea : docs_of (phrase_docs old_docs then_sea) ≡ []
old_sea = refl

pub old_sea_within_0 : docs_of (sloppy_docs 0 old_docs then_sea) ≡ []
old_sea_within_0 = refl

pub old_sea_within_1 : docs_of (sloppy_docs 1 old_docs then_sea) ≡ 0 ∷ []
old_sea_within_1 = refl

pub old_sea_within_2 : docs_of (sloppy_docs 2 old_docs then_sea) ≡ 0 ∷ 1 ∷ []
old_sea_within_2 = refl

-- "a b c" in `a x b y c`, with slops 1 and 2
abbrev pub then_b_c : List PhrasePartState
then_b_c = record { distance = 1; rest = at_one 0 2 ∷ [] } ∷ record { distance = 2; rest = at_one 0 4 ∷ [] } ∷ []

pub a_b_c_within_1 : docs_of (sloppy_docs 1 (at_one 0 0 ∷ []) then_b_c) ≡ []
a_b_c_within_1 = refl

pub a_b_c_within_2 : docs_of (sloppy_docs 2 (at_one 0 0 ∷ []) then_b_c) ≡ 0 ∷ []
a_b_c_within_2 = refl

-- a last call finds that no position is left
pub reads_of_63 : most_reads 63 ≡ 1
reads_of_63 = refl

pub reads_of_64 : most_reads 64 ≡ 2
reads_of_64 = refl

-- a document of 100 positions, and one of a single position
abbrev pub two_documents : List Entry
two_documents = record { doc = 1; term_freq = 100; positions = replicate 100 5 } ∷ record { doc = 2; term_freq = 1; positions = 7 ∷ [] } ∷ []

-- what is left of them at first, after one call, and after two
pub left_at_first : positions_left 0 two_documents ≡ 101
left_at_first = refl

pub reads_at_first : reads_left 0 false two_documents ≡ 3
reads_at_first = refl

pub left_after_one : positions_left 64 two_documents ≡ 37
left_after_one = refl

pub reads_after_one : reads_left 64 false two_documents ≡ 2
reads_after_one = refl

pub left_after_two : positions_left 100 two_documents ≡ 1
left_after_two = refl

pub reads_after_two : reads_left 100 true two_documents ≡ 1
reads_after_two = refl

-- bits 0 and 2 of a word, and bit 1 of another one
pub set_of_three : docs_of (docs_of_set (5 ∷ 2 ∷ [])) ≡ 0 ∷ 2 ∷ 65 ∷ []
set_of_three = refl

pub set_of_none : docs_of (docs_of_set (0 ∷ [])) ≡ []
set_of_none = refl
