-- A written term reads back as its list, with positions.
use Rattle.std.proofs.Common.{◌≡◌, ℕ, Bool, true, false, ◌&&◌, if◌then◌else◌, List, [], length, Option, Some, None, refl, sym, ap, ◌∙◌}
use Rattle.std.proofs.lemmas.Bool.{eq-eqb}
use Rattle.std.proofs.lemmas.List.{append-nil}
use Rattle.std.specs.List.{sum}
use Rattle.ii_base.specs.declared.schema.index_record_option.IndexRecordOption.{IndexRecordOption}
use Rattle.ii_base.specs.declared.schema.index_record_option.IndexRecordOption.TheVariants.{Basic, WithFreqs, WithFreqsAndPositions}
use Rattle.ii_base.specs.Options.{downgrade, has_freq, has_positions}
use Rattle.ii_layout.specs.Positions.{deltas_at, written_positions}
use Rattle.ii_layout.specs.Written.{written_postings, freqs_read}
use Rattle.ii_layout.specs.TermList.{deltas_if, docs_and_freqs, AreDeltas, ReadsTermBack, ReadsUncountedTermBack}
use Rattle.ii_layout.proofs.ReadBackLemmas.{tells_same, tells_basic}
use Rattle.ii_layout.proofs.PositionLaws.{reads_positions_back}
use Rattle.ii_layout.proofs.WrittenLaws.{docs_read, freqs_found, none_found}

-- the positions of a term that are read
located_read : (asked : Bool) (freqs : Option (List ℕ)) (counts deltas bytes : List ℕ) → (asked ≡ true → freqs ≡ Some counts) → (asked ≡ true → deltas_at counts bytes ≡ Some deltas)
    → deltas_if asked freqs (Some bytes) ≡ Some (if asked then Some deltas else None)
located_read false freqs counts deltas bytes counted located = refl
located_read true freqs counts deltas bytes counted located = rw (counted refl, located refl) refl

deltas_back : (freqs deltas : List ℕ) → AreDeltas freqs deltas → deltas_at freqs (written_positions deltas) ≡ Some deltas
deltas_back freqs deltas are = rw (reads_positions_back deltas are.small are.few, eq-eqb (length deltas) (sum freqs) are.many, are.fit) refl

nothing_located : (asked : Bool) (positions : Option (List ℕ)) → deltas_if asked None positions ≡ Some None
nothing_located true positions = refl
nothing_located false positions = refl

both_have : (recorded requested : IndexRecordOption) → has_positions (downgrade recorded requested) ≡ true → (has_positions recorded ≡ true) × ((has_freq requested && has_freq recorded) ≡ true)
both_have WithFreqsAndPositions WithFreqsAndPositions e = (refl, refl)
both_have WithFreqsAndPositions WithFreqs e = absurd (cc)
both_have WithFreqsAndPositions Basic e = absurd (cc)
both_have WithFreqs Basic e = absurd (cc)
both_have WithFreqs WithFreqs e = absurd (cc)
both_have WithFreqs WithFreqsAndPositions e = absurd (cc)
both_have Basic Basic e = absurd (cc)
both_have Basic WithFreqs e = absurd (cc)
both_have Basic WithFreqsAndPositions e = absurd (cc)

pub reads_term_back : ReadsTermBack
reads_term_back norms recorded requested docs freqs deltas bytes are few some counts located =
    let read = ap (docs_and_freqs recorded requested (length docs)) (sym (append-nil (written_postings norms recorded docs freqs)))
    ∙ docs_read norms recorded recorded docs freqs [] are few requested (freqs_read recorded requested freqs) (tells_same recorded) counts (freqs_found norms recorded requested docs freqs [] are few counts some)
    in
    let positions = located_read (has_positions (downgrade recorded requested)) (freqs_read recorded requested freqs) freqs deltas bytes
    (λ asked. rw ((both_have recorded requested asked).1) refl)
    (λ asked. let here = located ((both_have recorded requested asked).0) in rw here.0 (deltas_back freqs deltas here.1))
    in
    rw (read, positions) refl

pub reads_uncounted_term_back : ReadsUncountedTermBack
reads_uncounted_term_back norms recorded requested docs freqs positions are few =
    let read = ap (docs_and_freqs recorded requested (length docs)) (sym (append-nil (written_postings norms Basic docs freqs)))
    ∙ docs_read norms recorded Basic docs freqs [] are few requested None (tells_basic recorded) (λ has. absurd (cc)) (none_found norms recorded requested docs freqs are few)
    in
    rw (read, nothing_located (has_positions (downgrade recorded requested)) positions) refl
