-- Without tokens, no limit is exceeded.
use Rattle.std.proofs.Common.{inl, inr, ◌≡◌, ℕ, suc, ◌+◌, ◌*◌, ◌≤◌, ◌<◌, ◌^◌, Bool, true, false, List, [], ◌∷◌, length, map, nat_lt, refl, ap, subst, arith, length-append, None}
use Rattle.std.specs.Prelude.{filter}
use Rattle.std.specs.List.{enumerate_from}
use Rattle.std.proofs.lemmas.List.FromFn.{length-map-range_with_len}
use Rattle.ii_io.specs.Composite.{bodies_bytes, places_from, table_bytes, written_composite}
use Rattle.ii_io.specs.CountingWriter.{IsFull}
use Rattle.ii_io.specs.declared.faults.Fault.{Fault}
use Rattle.ii_io.proofs.CompositeWriteLemmas.{length-table_bytes}
use Rattle.ii_base.specs.Schema.{SchemaEntry, keeps_norms}
use Rattle.ii_base.specs.declared.schema.index_record_option.IndexRecordOption.{IndexRecordOption}
use Rattle.ii_fieldnorm.specs.Buffers.{norm_fields}
use Rattle.ii_fieldnorm.specs.Norms.{id_of_norm}
use Rattle.ii_definitions.specs.Fields.{option_of}
use Rattle.ii_definitions.specs.Norms.{HoldNorms, norm_body}
use Rattle.ii_definitions.specs.Postings.{doc_count}
use Rattle.ii_definitions.specs.Tokens.{IndexToken}
use Rattle.ii_recorder.specs.Terms.{FieldBodies, WrittenTerm}
use Rattle.ii_postings_writer.specs.TermLimits.{AreWithin, FirstOf, HasLargeSum, IsLong, IsWithin, PassEnds}
use Rattle.ii_postings_writer.specs.TokenFiles.{FirstEnds, FirstTerm, token_terms, fields_of, file_bodies, token_bodies}
use Rattle.ii_recorder.specs.TokenTerms.{field_keys, token_term}
use Rattle.ii_postings_writer.proofs.TokenTerms.{no_keys}
use Rattle.ii_indexing.specs.IndexFiles.{PassLimits}
use Rattle.ii_indexing.specs.RamFiles.{IsRamFault, empty_file}

no_terms : (es : List SchemaEntry) (field : ℕ) → token_terms es [] field ≡ []
no_terms es field = ap (map (token_term None (option_of es field) field [])) (no_keys field)

none_of_first : {X : Type 0} (Q P : X → Type 0) → ((x : X) → P x → ⊥) → (xs : List X) → FirstOf Q P xs → ⊥
none_of_first Q P none [] found = found
none_of_first Q P none (x ∷ xs) (inl here) = none x here
none_of_first Q P none (x ∷ xs) (inr later) = none_of_first Q P none xs later.1

no_first_term : (P : IndexRecordOption → WrittenTerm → Type 0) (es : List SchemaEntry) → FirstTerm P es [] → ⊥
no_first_term P es found =
    none_of_first (λ field. AreWithin (option_of es field) (token_terms es [] field)) (λ field. FirstOf (IsWithin (option_of es field)) (P (option_of es field)) (token_terms es [] field))
    (λ field here. absurd (subst (FirstOf (IsWithin (option_of es field)) (P (option_of es field))) (no_terms es field) here)) (fields_of es) found

no_ends : (mode : IndexRecordOption) → PassEnds mode [] → ⊥
no_ends mode (inl far) = absurd (omega (arith, far))
no_ends mode (inr far) = absurd (omega (arith, far))

no_first_ends : (es : List SchemaEntry) → FirstEnds es [] → ⊥
no_first_ends es found =
    none_of_first (λ field. AreWithin (option_of es field) (token_terms es [] field)) (λ field. PassEnds (option_of es field) (token_terms es [] field))
    (λ field here. no_ends (option_of es field) (subst (PassEnds (option_of es field)) (no_terms es field) here)) (fields_of es) found

none_with_terms : (fs : List ℕ) → filter (λ (field : ℕ). nat_lt 0 (length (field_keys field []))) fs ≡ []
none_with_terms [] = refl
none_with_terms (f ∷ fs) =
    let none : nat_lt 0 (length (field_keys f [])) ≡ false = ap (λ (ks : List (List ℕ)). nat_lt 0 (length ks)) (no_keys f) in
    rw none (none_with_terms fs)

no_bodies : (part : FieldBodies → List ℕ) (es : List SchemaEntry) → file_bodies part es [] ≡ []
no_bodies part es = ap (map (λ (field : ℕ). record { field = field; bytes = part (token_bodies es [] field) })) (none_with_terms (fields_of es))

-- an empty file has room for `size` bytes
pub room : (size : ℕ) → size < 2 ^ 64 → IsFull empty_file size → ⊥
room size low (inl past) = absurd (omega (arith, low, past))
room size low (inr most) = absurd (omega (arith, most))

has_room : (part : FieldBodies → List ℕ) (es : List SchemaEntry) → IsFull empty_file (length (written_composite (file_bodies part es []))) → ⊥
has_room part es full = room (length (written_composite [])) (omega (arith, length-table_bytes [])) (subst (λ bs. IsFull empty_file (length (written_composite bs))) (no_bodies part es) full)

no_limit : (es : List SchemaEntry) (fault : Fault) → PassLimits es empty_file empty_file empty_file [] fault → ⊥
no_limit es fault (inl sum) = no_first_term (λ mode. HasLargeSum) es sum.1
no_limit es fault (inr (inl long)) = no_first_term IsLong es long.1
no_limit es fault (inr (inr (offset, inl (inl full)))) = has_room (λ b. b.terms) es full
no_limit es fault (inr (inr (offset, inl (inr (inl full))))) = has_room (λ b. b.postings) es full
no_limit es fault (inr (inr (offset, inl (inr (inr full))))) = has_room (λ b. b.positions) es full
no_limit es fault (inr (inr (offset, inr far))) = no_first_ends es far

-- The file of norms.
module _ (n : ℕ) (low : n ≤ 2147483647) (ts : List IndexToken) where
  short_bodies : (fs : List ℕ) → length (bodies_bytes (map (norm_body n ts) fs)) ≤ 2147483647 * length fs
  short_bodies [] = omega (arith)
  short_bodies (f ∷ fs) =
      let own = (norm_body n ts f).bytes in
      omega (arith, low, length-append own (bodies_bytes (map (norm_body n ts) fs)), length-map-range_with_len (λ (doc : ℕ). id_of_norm (doc_count doc f ts)) 0 n, short_bodies fs)

  few_fields : (first : ℕ) (es : List SchemaEntry) → length (map (λ (f : ℕ × SchemaEntry). f.0) (filter (λ (f : ℕ × SchemaEntry). keeps_norms f.1) (enumerate_from first es))) ≤ length es
  few_fields first [] = omega (arith)
  few_fields first (e ∷ es) = by_case (keeps_norms e) refl (few_fields (first + 1) es)
    where
      by_case : (b : Bool) → keeps_norms e ≡ b → length (map (λ (f : ℕ × SchemaEntry). f.0) (filter (λ (f : ℕ × SchemaEntry). keeps_norms f.1) (enumerate_from (first + 1) es))) ≤ length es
          → length (map (λ (f : ℕ × SchemaEntry). f.0) (filter (λ (f : ℕ × SchemaEntry). keeps_norms f.1) (enumerate_from first (e ∷ es)))) ≤ suc (length es)
      by_case true is rest = rw is (omega (arith, rest))
      by_case false is rest = rw is (omega (arith, rest))

  places_many : (start : ℕ) (fs : List ℕ) → length (places_from start (map (norm_body n ts) fs)) ≡ length fs
  places_many start [] = refl
  places_many start (f ∷ fs) = ap (λ (m : ℕ). suc m) (places_many (start + length (norm_body n ts f).bytes) fs)

  -- it always has room in memory
  pub norms_have_room : (es : List SchemaEntry) (bytes : List ℕ) → length es < 2 ^ 32 → HoldNorms es n bytes ts → IsFull empty_file (length bytes) → ⊥
  norms_have_room es bytes few hold full =
      let fs = norm_fields es in
      let bodies = map (norm_body n ts) fs in
      room (length bytes)
      (omega (arith, few, ap length hold.written, length-append (bodies_bytes bodies) (table_bytes (places_from 0 bodies)), short_bodies fs, few_fields 0 es, length-table_bytes (places_from 0 bodies), places_many 0 fs))
      full

-- an index of no tokens can be written to memory, if there is enough of it
pub no_tokens_no_limit : (es : List SchemaEntry) (n : ℕ) (fault : Fault) → length es < 2 ^ 32 → n ≤ 2147483647 → IsRamFault es n [] fault → ⊥
no_tokens_no_limit es n fault few low (inl limits) = no_limit es fault limits
no_tokens_no_limit es n fault few low (inr norms) = norms_have_room n low [] es norms.1 few norms.2 norms.3
