-- What a recorder has of a key can be written and read back.
use Rattle.std.proofs.Common.{inl, inr, true≢false, length-append, ◌≡◌, ℕ, ◌<◌, List, [], ◌∷◌, length, Option, Some, None, refl, sym, ap, ◌∙◌, subst, arith}
use Rattle.std.specs.Prelude.{◌⊎◌, IsTrue, IsSome, if◌then◌else◌}
use Rattle.std.proofs.lemmas.List.{length-map}
use Rattle.ii_base.specs.declared.schema.index_record_option.IndexRecordOption.{IndexRecordOption}
use Rattle.ii_base.specs.declared.schema.index_record_option.IndexRecordOption.TheVariants.{Basic, WithFreqs, WithFreqsAndPositions}
use Rattle.ii_base.specs.Options.{has_freq}
use Rattle.ii_base.specs.Entries.{Entry}
use Rattle.ii_fieldnorm.specs.Readers.{Norms}
use Rattle.ii_definitions.specs.Cut.{cut_entry}
use Rattle.ii_definitions.specs.Postings.{grouped, kind_of, occurs, tokens_at}
use Rattle.ii_definitions.specs.Tokens.{IndexToken}
use Rattle.ii_postings_writer.specs.Records.{HasPostings}
use Rattle.ii_recorder.specs.Pushed.{AreReadable, FillTooLarge, pushed_freqs}
use Rattle.ii_recorder.specs.Recorded.{RecorderState, entries_of_recorder}
use Rattle.ii_postings_writer.specs.SortedTerms.{IsTold, IsWritable, SortedTerm, term_option}
use Rattle.ii_recorder.proofs.TokenLaws.{kind_which, some_occurred}
use Rattle.ii_recorder.specs.TokenTerms.{IsReadableKey, kept_entries}

-- as which option a term of its field's option is written
skip_is : (mode : IndexRecordOption) → (if has_freq mode then mode else Basic) ≡ mode
skip_is Basic = refl
skip_is WithFreqs = refl
skip_is WithFreqsAndPositions = refl

some_pending : (r : RecorderState) → IsSome r.pending → 0 < length (entries_of_recorder r)
some_pending r opened = by_case r.pending refl
  where
    by_case : (o : Option Entry) → r.pending ≡ o → 0 < length (entries_of_recorder r)
    by_case None is = absurd (true≢false (sym (subst IsSome is opened)))
    by_case (Some e) is = rw is (omega (arith, length-append r.closed (e ∷ [])))

-- a recorder with the postings of a key tells that it occurred
pub recorder_occurred : (mode : IndexRecordOption) (field : ℕ) (key : List ℕ) (ts : List IndexToken) (r : RecorderState) → HasPostings (kind_of mode (tokens_at field key ts)) (tokens_at field key ts) r → IsTrue (occurs field key ts)
recorder_occurred mode field key ts r has =
    let es = grouped (tokens_at field key ts) in
    some_occurred field key ts (subst (λ (n : ℕ). 0 < n) (ap length has.entries ∙ length-map es (cut_entry (kind_of mode (tokens_at field key ts)))) (some_pending r has.opened))

-- the option of a term that keeps what its field records, or documents alone
option_is : (mode kind : IndexRecordOption) → (kind ≡ mode) ⊎ (kind ≡ Basic) → (if has_freq kind then mode else Basic) ≡ kind
option_is mode kind (inl same) = subst (λ (m : IndexRecordOption). (if has_freq kind then m else Basic) ≡ kind) same (skip_is kind)
option_is mode kind (inr basic) = subst (λ (k : IndexRecordOption). (if has_freq k then mode else Basic) ≡ k) (sym basic) refl

-- what a recorder has of a key can be read back
pub readable_key : (norms : Option Norms) (mode : IndexRecordOption) (field : ℕ) (ts : List IndexToken) (s : SortedTerm) → HasPostings (kind_of mode (tokens_at field s.key ts)) (tokens_at field s.key ts) s.recorder
    → IsTold mode s → IsWritable norms s → IsReadableKey mode field ts s.key
readable_key norms mode field ts s has told writable =
    let o = s.recorder.option in
    let es = entries_of_recorder s.recorder in
    let option : term_option mode s ≡ o = option_is mode o (subst (λ (k : IndexRecordOption). (k ≡ mode) ⊎ (k ≡ Basic)) (sym has.kept) (kind_which mode (tokens_at field s.key ts))) in
    let own : AreReadable o es = record {
      documents = writable.ascending;
      some = some_pending s.recorder has.opened;
      counted = writable.counted;
      fit = told.fit;
      small = subst (λ (k : IndexRecordOption). ¬ FillTooLarge k [] (pushed_freqs o es)) option told.small;
      located = told.located;
    } in
    subst (λ (k : IndexRecordOption). AreReadable k (kept_entries mode (tokens_at field s.key ts))) has.kept (subst (AreReadable o) has.entries own)
