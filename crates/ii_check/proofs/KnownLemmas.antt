-- Bytes that are known to hold postings.
use Rattle.std.proofs.Common.{◌≡◌, ℕ, ◌/◌, ◌<◌, ◌≤◌, Bool, ◌&&◌, ◌||◌, List, [], length, drop, nat_lt, refl, ◌∙◌, arith}
use Rattle.std.specs.Prelude.{IsOk}
use Rattle.std.proofs.lemmas.Bool.{lt-ltb}
use Rattle.ii_base.specs.Options.{has_freq}
use Rattle.ii_layout.specs.SkipList.{IsSplit}
use Rattle.ii_layout.specs.Postings.{postings}
use Rattle.ii_check.specs.declared.freq_reading_option.FreqReadingOption.{FreqReadingOption}
use Rattle.ii_check.specs.FreqReading.{reading_by}
use Rattle.ii_check.proofs.CheckLemmas.{many_entries}
use Rattle.ii_check.proofs.CheckedPostingsLemmas.{Asked, Checks, finds_known, is_checked}

-- a full block determines whether term frequencies are read
reads_there : (recorded requested : Bool) (blocks n : ℕ) (after : List ℕ) → 0 < blocks → n ≡ blocks
    → reading_by recorded requested (recorded && (nat_lt 0 blocks || nat_lt 0 (length {A = ℕ} []))) ≡ reading_by recorded requested (recorded && (nat_lt 0 n || nat_lt 0 (length after)))
reads_there recorded requested blocks n after some same =
    let full = lt-ltb 0 blocks some in
    rw (same, full) refl

pub known_checked : (a : Asked) (reading : FreqReadingOption) → IsOk (postings a.recorded a.requested a.doc_freq a.bytes) → IsSplit a.recorded (a.doc_freq / 128) a.bytes a.skip_info a.entries a.body → 128 ≤ a.doc_freq
    → reading ≡ reading_by (has_freq a.skip_info) (has_freq a.requested) (has_freq a.skip_info && (nat_lt 0 (a.doc_freq / 128) || nat_lt 0 (length {A = ℕ} []))) → Checks a reading
known_checked a reading known split long reading_is =
    let (docs, after, freqs, f) = finds_known a known split in
    let many = many_entries a.skip_info (a.doc_freq / 128) (drop a.entries a.bytes) (drop a.body a.bytes) in
    is_checked a docs after freqs reading f (reading_is ∙ reads_there (has_freq a.skip_info) (has_freq a.requested) (a.doc_freq / 128) _ after (omega arith) many)
