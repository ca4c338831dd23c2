-- If the tokens exceed no limit, only an allocation can fail.
use Rattle.std.proofs.Common.{inl, inr, ◌≡◌, ℕ, zero, suc, ◌+◌, ◌≤◌, ◌<◌, ◌^◌, List, [], ◌∷◌, length, Result, Ok, Err, arith}
use Rattle.std.specs.Prelude.{◌⊎◌, IfErr}
use Rattle.std.specs.List.{AllByRecursion, range_with_len}
use Rattle.ii_io.specs.declared.faults.Fault.{Fault}
use Rattle.ii_io.specs.declared.faults.Fault.TheVariants.{OutOfMemory}
use Rattle.ii_base.specs.Schema.{SchemaEntry}
use Rattle.ii_base.specs.declared.schema.index_record_option.IndexRecordOption.{IndexRecordOption}
use Rattle.ii_definitions.specs.Fields.{option_of}
use Rattle.ii_definitions.specs.Tokens.{IndexToken}
use Rattle.ii_recorder.specs.Terms.{WrittenTerm}
use Rattle.ii_postings_writer.specs.TermLimits.{AreWithin, FirstOf, HasLargeSum, IsLong, IsWithin, PassEnds}
use Rattle.ii_postings_writer.specs.TokenFiles.{FirstEnds, FirstTerm, token_terms}
use Rattle.ii_indexing.specs.IndexFiles.{HaveNoRoom, PassLimits}
use Rattle.ii_reader.specs.OpenIndex.{OpenIndexState}
use Rattle.ii_indexing.specs.RamFiles.{IsRamFault, empty_file}
use Rattle.ii_ram.proofs.NoTokens.{norms_have_room}

none_of_terms : (mode : IndexRecordOption) (P : WrittenTerm → Type 0) → ((t : WrittenTerm) → IsWithin mode t → P t → ⊥) → (ts : List WrittenTerm) → AllByRecursion (IsWithin mode) ts → FirstOf (IsWithin mode) P ts → ⊥
none_of_terms mode P none [] within found = found
none_of_terms mode P none (t ∷ ts) within (inl here) = none t within.0 here
none_of_terms mode P none (t ∷ ts) within (inr later) = none_of_terms mode P none ts within.1 later.1

none_of_fields : (Q P : ℕ → Type 0) (n : ℕ) → ((field : ℕ) → field < n → P field → ⊥) → (first k : ℕ) → first + k ≤ n → FirstOf Q P (range_with_len first k) → ⊥
none_of_fields Q P n none first zero low found = found
none_of_fields Q P n none first (suc k) low (inl here) = none first (omega (arith, low)) here
none_of_fields Q P n none first (suc k) low (inr later) = none_of_fields Q P n none (first + 1) k (omega (arith, low)) later.1

not_large : (mode : IndexRecordOption) (t : WrittenTerm) → IsWithin mode t → HasLargeSum t → ⊥
not_large mode t within large = within.0 large

not_long : (mode : IndexRecordOption) (t : WrittenTerm) → IsWithin mode t → IsLong mode t → ⊥
not_long mode t within (small, inl long) = absurd (omega (arith, long, within.1.0))
not_long mode t within (small, inr long) = absurd (omega (arith, long, within.1.1))

module _ (es : List SchemaEntry) (ts : List IndexToken) (within : (field : ℕ) → field < length es → AreWithin (option_of es field) (token_terms es ts field)) where
  no_first_term : (P : IndexRecordOption → WrittenTerm → Type 0) → ((mode : IndexRecordOption) (t : WrittenTerm) → IsWithin mode t → P mode t → ⊥) → FirstTerm P es ts → ⊥
  no_first_term P none found =
      none_of_fields (λ field. AreWithin (option_of es field) (token_terms es ts field)) (λ field. FirstOf (IsWithin (option_of es field)) (P (option_of es field)) (token_terms es ts field)) (length es)
      (λ field inside here. none_of_terms (option_of es field) (P (option_of es field)) (none (option_of es field)) (token_terms es ts field) (within field inside).terms here) 0 (length es) (omega (arith)) found

  no_first_ends : FirstEnds es ts → ⊥
  no_first_ends found =
      none_of_fields (λ field. AreWithin (option_of es field) (token_terms es ts field)) (λ field. PassEnds (option_of es field) (token_terms es ts field)) (length es) (λ field inside far. (within field inside).ends far) 0 (length es) (omega (arith)) found

  module _ (room : ¬ HaveNoRoom es empty_file empty_file empty_file ts) where
    no_limit : (fault : Fault) → PassLimits es empty_file empty_file empty_file ts fault → ⊥
    no_limit fault (inl sum) = no_first_term (λ mode. HasLargeSum) not_large sum.1
    no_limit fault (inr (inl long)) = no_first_term IsLong not_long long.1
    no_limit fault (inr (inr (offset, inl full))) = room full
    no_limit fault (inr (inr (offset, inr far))) = no_first_ends far

    -- what is refused is so for memory
    pub memory_within : (n : ℕ) (answer : Result OpenIndexState Fault) → length es < 2 ^ 32 → n ≤ 2147483647 → IfErr answer (λ e. (e ≡ OutOfMemory) ⊎ IsRamFault es n ts e) → IfErr answer (λ e. e ≡ OutOfMemory)
    memory_within n (Ok index) few low fault = tt
    memory_within n (Err e) few low (inl memory) = memory
    memory_within n (Err e) few low (inr (inl limits)) = absurd (no_limit e limits)
    memory_within n (Err e) few low (inr (inr norms)) = absurd (norms_have_room n low ts es norms.1 few norms.2 norms.3)
