-- The definitions on small rows.
use Rattle.std.proofs.Common.{◌≡◌, [], ◌∷◌, None, Some, false, inl, inr, refl, true}
use Rattle.ii_base.specs.Terms.{TermState}
use Rattle.ii_base.specs.declared.schema.index_record_option.IndexRecordOption.TheVariants.{Basic, WithFreqsAndPositions}
use Rattle.ii_query_parser.specs.Queries.{one_phrase, one_term, without}
use Rattle.ii_file_slice.specs.declared.faults.FileFault.TheVariants.{Index}
use Rattle.ii_io.specs.declared.faults.Fault.TheVariants.{Damaged}
use Rattle.ii_io.specs.declared.faults.Part.TheVariants.{Range, TermStore}
use Rattle.ii_warmup.specs.Faults.{IsCopyFault}
use Rattle.ii_warmup.specs.IndexParts.{reads_norms}
use Rattle.ii_warmup.specs.QueryTerms.{docs_only, names_field, requested_of, tree_terms, with_positions}
use Rattle.ii_warmup.specs.declared.scoring.EnableScoring.TheVariants.{Disabled, Enabled}

abbrev sea : TermState
sea = record { field = 0; value = 115 ∷ [] }

abbrev old : TermState
old = record { field = 0; value = 111 ∷ [] }

-- a word and not a phrase: the documents of the word, and the positions of both terms of the phrase
query_row : tree_terms (without (one_term sea) (one_phrase old (record { distance = 1; term = sea } ∷ []) 0)) ≡ docs_only sea ∷ with_positions old ∷ with_positions sea ∷ []
query_row = refl

-- a term that is wanted with and without positions is read with them
both_row : requested_of (docs_only sea ∷ with_positions sea ∷ []) [] 0 (115 ∷ []) ≡ Some WithFreqsAndPositions
both_row = refl

docs_row : requested_of (docs_only sea ∷ with_positions old ∷ []) [] 0 (115 ∷ []) ≡ Some Basic
docs_row = refl

-- the same key in another field isn't wanted
other_row : requested_of (docs_only sea ∷ []) [] 1 (115 ∷ []) ≡ None
other_row = refl

-- a query names the fields of its terms alone
named_row : names_field (docs_only sea ∷ []) [] 0 ≡ true
named_row = refl

unnamed_row : names_field (docs_only sea ∷ []) [] 1 ≡ false
unnamed_row = refl

-- norms are read for a search that ranks
ranking_row : (reads_norms Enabled ≡ true) × (reads_norms Disabled ≡ false)
ranking_row = (refl, refl)

-- a term whose range passes the end of its body, or has 2^32 bytes, can't be read
fault_row : IsCopyFault false true (Index (Damaged Range))
fault_row = inr (inr (inl (refl, refl)))

long_row : IsCopyFault true false (Index (Damaged TermStore))
long_row = inr (inr (inr (refl, refl)))
