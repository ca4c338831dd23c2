-- What recorders hold and add for two documents with positions, and a term that is found by its key.
use Rattle.std.proofs.Common.{◌≡◌, List, [], ◌∷◌, true, false, Some, None, refl}
use Rattle.ii_base.specs.declared.schema.index_record_option.IndexRecordOption.TheVariants.{Basic, WithFreqs, WithFreqsAndPositions}
use Rattle.ii_base.specs.Entries.{Entry, counted, docs_of, document}
use Rattle.ii_recorder.specs.HeldTerms.{has_key}
use Rattle.ii_recorder.specs.Pushed.{pushed_deltas, pushed_freqs}
use Rattle.ii_recorder.specs.Terms.{WrittenTerm}
use Rattle.ii_io.specs.Vints.{vint_u32}
use Rattle.std.specs.List.{flat_map}
use Rattle.ii_recorder.specs.Gathered.{counts_state, docs_state, positions_state}

abbrev two_documents : List Entry
two_documents = record { doc = 0; term_freq = 2; positions = 0 ∷ 4 ∷ [] } ∷ record { doc = 3; term_freq = 1; positions = 1 ∷ [] } ∷ []

pub docs_are : docs_of two_documents ≡ 0 ∷ 3 ∷ []
docs_are = refl

pub counts_are : pushed_freqs WithFreqsAndPositions two_documents ≡ 2 ∷ 1 ∷ []
counts_are = refl

pub counts_alone : pushed_freqs WithFreqs two_documents ≡ 2 ∷ 1 ∷ []
counts_alone = refl

pub no_counts : pushed_freqs Basic two_documents ≡ 0 ∷ 0 ∷ []
no_counts = refl

pub deltas_are : pushed_deltas two_documents ≡ 0 ∷ 4 ∷ 1 ∷ []
deltas_are = refl

abbrev one_term : List WrittenTerm
one_term = record { key = 97 ∷ []; norms = None; skip_info = Basic; docs = 0 ∷ []; freqs = 0 ∷ []; deltas = [] } ∷ []

pub is_there : has_key (97 ∷ []) one_term ≡ true
is_there = refl

pub is_not_there : has_key (98 ∷ []) one_term ≡ false
is_not_there = refl

-- the bytes of recorders, the second document open
pub positions_bytes_are : flat_map vint_u32 (0 ∷ 1 ∷ 5 ∷ 0 ∷ 3 ∷ 2 ∷ []) ≡ 128 ∷ 129 ∷ 133 ∷ 128 ∷ 131 ∷ 130 ∷ []
unfolding vint_u32
positions_bytes_are = refl

pub positions_are : positions_state (128 ∷ 129 ∷ 133 ∷ 128 ∷ 131 ∷ 130 ∷ []) ≡ record { option = WithFreqsAndPositions; closed = record { doc = 0; term_freq = 2; positions = 0 ∷ 4 ∷ [] } ∷ []; pending = Some (record { doc = 3; term_freq = 1; positions = 1 ∷ [] }) }
positions_are = refl

pub counts_bytes_are : flat_map vint_u32 (0 ∷ 2 ∷ 3 ∷ []) ≡ 128 ∷ 130 ∷ 131 ∷ []
unfolding vint_u32
counts_bytes_are = refl

pub counts_read : counts_state (128 ∷ 130 ∷ 131 ∷ []) 1 ≡ record { option = WithFreqs; closed = counted 0 2 ∷ []; pending = Some (counted 3 1) }
counts_read = refl

pub docs_bytes_are : flat_map vint_u32 (0 ∷ 3 ∷ []) ≡ 128 ∷ 131 ∷ []
unfolding vint_u32
docs_bytes_are = refl

pub docs_read : docs_state (128 ∷ 131 ∷ []) true ≡ record { option = Basic; closed = document 0 ∷ []; pending = Some (document 3) }
docs_read = refl
