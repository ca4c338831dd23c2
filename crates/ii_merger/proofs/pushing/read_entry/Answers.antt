use Rattle.std.proofs.Common.{◌≡◌, ◌∙◌, ℕ, List, false, inl, length, refl, sym, ap}
use Rattle.std.specs.Prelude.{Option}
use Rattle.ii_io.specs.declared.faults.Part.{Part}
use Rattle.ii_base.specs.declared.schema.index_record_option.IndexRecordOption.{IndexRecordOption}
use Rattle.ii_base.specs.Entries.{Entry}
use Rattle.ii_codes.specs.Sums.{differences}
use Rattle.ii_codes.proofs.SortedVintLemmas.{length-differences}
use Rattle.ii_docset.specs.Cursor.{positions_at, term_freq_at}
use Rattle.ii_merger.specs.MergeSources.{count_damage}
use Rattle.ii_merger.proofs.pushing.read_entry.Goals as goal

-- the counts of the current entry
counts_are : (kind : IndexRecordOption) (damage : Option Part) (freq : ℕ) (deltas : List ℕ) (es rest : List Entry) → damage ≡ count_damage kind freq (length deltas) → freq ≡ term_freq_at false rest → rest ≡ es → deltas ≡ differences 0 (positions_at es)
    → damage ≡ count_damage kind (term_freq_at false es) (length (positions_at es))
counts_are kind damage freq deltas es rest is of same read =
    is
    ∙ ap (λ (n : ℕ). count_damage kind n (length deltas)) (of ∙ ap (term_freq_at false) same)
    ∙ ap (count_damage kind (term_freq_at false es)) (ap length read ∙ length-differences 0 (positions_at es))

pub returns-in-None-clause-sound : goal.returns-in-None-clause-sound
returns-in-None-clause-sound c =
    sym (counts_are c.args.kind c.count_damage.result c.term_freq-term_freq.result c.as_slice.result.now c.args.postings.now.rest c.read_deltas.new.postings.rest
    c.count_damage.ensures c.term_freq-term_freq.ensures.entry c.read_deltas.ensures.rest (c.as_slice.ensures.value ∙ c.in_default.ensures.ok))
    ∙ c.in-None.is

pub returns-in-Some-clause-fault : goal.returns-in-Some-clause-fault
returns-in-Some-clause-fault c =
    inl (record {
      part = c.in-Some.part;
      is = sym (counts_are c.args.kind c.count_damage.result c.term_freq-term_freq.result c.as_slice.result.now c.args.postings.now.rest c.read_deltas.new.postings.rest
          c.count_damage.ensures c.term_freq-term_freq.ensures.entry c.read_deltas.ensures.rest (c.as_slice.ensures.value ∙ c.in_default.ensures.ok)) ∙ c.in-Some.is;
      reported = refl;
    })
