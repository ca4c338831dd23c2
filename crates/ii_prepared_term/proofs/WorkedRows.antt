-- Rows that compute the definitions of a prepared term.
use Rattle.std.proofs.Common.{◌≡◌, ℕ, ◌+◌, ◌*◌, ◌^◌, List, [], ◌∷◌, Option, None, Some, Ok, Err, if◌then◌else◌, nat_eq, refl, arith}
use Rattle.ii_io.specs.declared.faults.Part.TheVariants.{Range}
use Rattle.ii_base.specs.Entries.{Entry, counted}
use Rattle.ii_bm25.specs.Bm25.{Bm25State}
use Rattle.ii_base.specs.declared.schema.index_record_option.IndexRecordOption.TheVariants.{Basic}
use Rattle.ii_block_shares.specs.BlockShares.{last_end, runs_of, share_byte}
use Rattle.ii_block_shares.specs.declared.block_shares.BlockShare.{BlockShare}
use Rattle.ii_reader.specs.SegmentPostings.{postings_of_none}
use Rattle.ii_ranking.specs.Listing.{scored_below}
use Rattle.ii_ranking.specs.Scores.{entry_at}
use Rattle.ii_ranking.specs.TermWeights.{score_by_entry}
use Rattle.ii_prepared_term.specs.PreparedQueries.{PreparedQueryState, bound_under, prepared_query_bound, prepared_query_score}
use Rattle.ii_prepared_term.specs.PreparedScorers.{HasRest}
use Rattle.ii_prepared_term.specs.PreparedTerms.{EndAhead, PreparedTermState, prepared_bound}
use Rattle.ii_prepared_term.specs.QueryBounds.{greatest_listed}
use Rattle.ii_prepared_term.specs.QueryDocs.{docs_or_none}
use Rattle.ii_prepared_term.specs.ScoredLists.{entries_of, listed_score}

-- two documents with the counts 3 and 1
abbrev list : List Entry
list = counted 7 3 ∷ counted 9 1 ∷ []

-- a weight of 1.0 whose length part is 1.0 for the norm id 1
abbrev weight : Bm25State
weight = record { weight = 4194304; lengths = 0 ∷ 1048576 ∷ [] }

-- three times of four score three quarters of 2^16 times the weight, in a field without norms
row_score : score_by_entry (record { weight = weight; norms = None }) 7 (entry_at list 7) ≡ Some 206158430208
row_score = refl

row_none : score_by_entry (record { weight = weight; norms = None }) 8 (entry_at list 8) ≡ None
row_none = refl

-- runs that end after a document of the list, the first of which is over
abbrev runs : List BlockShare
runs = record { end = 4; share = 0 } ∷ record { end = 10; share = 191 } ∷ []

row_ends : EndAhead runs list
row_ends = (λ ahead. absurd (omega (arith, ahead)), (λ ahead. refl, tt))

-- the greatest of their ends, and the bound of a document of the second, 192/256 of 2^28 times the weight; there is none after it
row_last_end : last_end runs ≡ 10
row_last_end = refl

abbrev term : PreparedTermState
term = record { by = record { weight = weight; norms = None }; shares = runs; cursor = record (postings_of_none Basic Basic) { rest = list; doc_freq = 2 } }

row_bound : prepared_bound term 7 ≡ 206158430208
row_bound = refl

row_no_bound : prepared_bound term 10 ≡ 0
row_no_bound = refl

-- of the list the cursor has the rest, after a document that was passed
row_rest : HasRest (3 ∷ 7 ∷ 9 ∷ []) (record term.cursor { doc_freq = 3 })
row_rest = record { before = 3 ∷ []; are = refl; passed = (omega arith, tt); many = refl }

-- of three documents the second scores 5, and is listed alone
abbrev one_scores : ℕ → Option ℕ
one_scores doc = if nat_eq doc 1 then Some 5 else None

row_listed : scored_below 3 one_scores ≡ (5, 1) ∷ []
unfolding scored_below
row_listed = refl

row_none_listed : scored_below 1 one_scores ≡ []
unfolding scored_below
row_none_listed = refl

row_listed_score : listed_score (record { rest = entries_of ((5, 1) ∷ []); most = 5 }) 1 ≡ Some 5
row_listed_score = refl

-- a prepared query scores what its row says, at most the bound of its other row, and nothing after them
abbrev query : PreparedQueryState
query = record { scores = None ∷ Some 5 ∷ []; bounds = 6 ∷ 7 ∷ []; depth = 0; lists = [] }

row_query_bound : prepared_query_bound query 1 ≡ 7
row_query_bound = refl

-- two queries together
row_both_bounds : bound_under (query ∷ query ∷ []) 0 ≡ 12
row_both_bounds = refl

row_query : prepared_query_score query 1 ≡ Some 5
row_query = refl

row_query_none : prepared_query_score query 0 ≡ None
row_query_none = refl

row_query_end : prepared_query_score query 2 ≡ None
row_query_end = refl

-- the documents of a list, and of one that is corrupt
row_docs : docs_or_none (Ok list) ≡ 7 ∷ 9 ∷ []
row_docs = refl

row_no_docs : docs_or_none (Err Range) ≡ []
row_no_docs = refl

-- a list of two documents has one run, which ends after the second; a share of 3 * 2^20 is that of the byte 2
row_runs : runs_of (λ (e : Entry). e.term_freq * 2 ^ 20) list ≡ record { end = 10; share = 2 } ∷ []
unfolding runs_of
row_runs = refl

-- a share between two bytes is rounded up
row_rounded_up : share_byte (2 ^ 20 + 1) ≡ 1
row_rounded_up = refl

row_greatest : greatest_listed ((3, 1) ∷ (5, 4) ∷ (4, 9) ∷ []) ≡ 5
row_greatest = refl
