-- What documents score by the number of their tokens.
use Rattle.std.proofs.Common.{◌≡◌, ◌∙◌, ℕ, suc, ◌<◌, Bool, true, false, ◌&&◌, List, [], ◌∷◌, Option, None, Some, filter, if◌then◌else◌, length, map, min, nat_eq, refl, sym, ap, subst, arith}
use Rattle.std.specs.List.{AllByRecursion}
use Rattle.std.specs.Option.{option_map}
use Rattle.std.proofs.lemmas.Bool.{ne_eqb}
use Rattle.std.proofs.lemmas.List.Sums.{length-filter}
use Rattle.ii_base.specs.Entries.{Entry}
use Rattle.ii_base.specs.Options.{downgrade, has_freq}
use Rattle.ii_base.specs.Terms.{TermState}
use Rattle.ii_base.specs.declared.schema.index_record_option.IndexRecordOption.{IndexRecordOption}
use Rattle.ii_base.specs.declared.schema.index_record_option.IndexRecordOption.TheVariants.{Basic, WithFreqs, WithFreqsAndPositions}
use Rattle.ii_definitions.specs.Cut.{cut_entry}
use Rattle.ii_definitions.specs.Fields.{option_of}
use Rattle.ii_definitions.specs.Postings.{IsCounted, grouped, is_at, kind_of, tokens_at}
use Rattle.ii_definitions.specs.Tokens.{IndexToken}
use Rattle.ii_definitions.proofs.GroupedLaws.{grouped_counted}
use Rattle.ii_segments.proofs.OrderLemmas.{ascend_from_order, filter_ascends}
use Rattle.ii_query_parser.specs.Queries.{are_of_texts, is_token_of}
use Rattle.ii_ranking.specs.Scores.{entry_at, if_occurs, score_by, scored_by_tokens}
use Rattle.ii_ranking.specs.TokenCounts.{TermsScoreByCounts, num_tokens_of}
use Rattle.ii_ranking.proofs.EntryTokens.{positions_at, positions_of, token_positions}

-- the entry of a document, after all were cut
pub cut_at : (option : IndexRecordOption) (es : List Entry) (doc : ℕ) → entry_at (map (cut_entry option) es) doc ≡ option_map (cut_entry option) (entry_at es doc)
cut_at option [] doc = refl
cut_at option (e ∷ es) doc = by (nat_eq e.doc doc) refl (cut_at option es doc)
  where
    by : (b : Bool) → nat_eq e.doc doc ≡ b → entry_at (map (cut_entry option) es) doc ≡ option_map (cut_entry option) (entry_at es doc)
        → entry_at (map (cut_entry option) (e ∷ es)) doc ≡ option_map (cut_entry option) (entry_at (e ∷ es) doc)
    by true here later = rw here refl
    by false other later = rw other later

-- the number of a document's tokens among those of a key
pub counted_at : (term : TermState) (doc : ℕ) (ts : List IndexToken) → length (token_positions doc (tokens_at term.field term.value ts)) ≡ num_tokens_of ts term doc
counted_at term doc ts = many ts ∙ length-filter (is_token_of term doc) ts
  where
    many : (us : List IndexToken) → length (token_positions doc (tokens_at term.field term.value us)) ≡ length (filter (is_token_of term doc) us)
    many [] = refl
    many (t ∷ us) = by (is_at term.field term.value t) refl (nat_eq t.doc doc) refl (many us)
      where
        by : (b : Bool) → is_at term.field term.value t ≡ b → (c : Bool) → nat_eq t.doc doc ≡ c → length (token_positions doc (tokens_at term.field term.value us)) ≡ length (filter (is_token_of term doc) us)
            → length (token_positions doc (tokens_at term.field term.value (t ∷ us))) ≡ length (filter (is_token_of term doc) (t ∷ us))
        by true is true here later = rw (is, here) (ap suc later)
        by true is false other later = rw (is, other) later
        by false is true here later = rw (is, here) later
        by false is false other later = rw (is, other) later

-- what an entry counts, as far as it is kept
entry_counted : (es : List Entry) (doc : ℕ) (e : Entry) → AllByRecursion IsCounted es → entry_at es doc ≡ Some e → IsCounted e
entry_counted [] doc e all is = absurd (cc)
entry_counted (f ∷ fs) doc e all is = by (nat_eq f.doc doc) refl (entry_counted fs doc e all.1)
  where
    by : (b : Bool) → nat_eq f.doc doc ≡ b → (entry_at fs doc ≡ Some e → IsCounted e) → IsCounted e
    by true here later = let same : f ≡ e = (let found : Some f ≡ Some e = rw here at is in cc) in subst IsCounted same all.0
    by false other later = later (rw other at is)

-- whether counts are kept of a key
kept_counts : (option : IndexRecordOption) (t : IndexToken) (ts : List IndexToken) → has_freq (downgrade (kind_of option (t ∷ ts)) WithFreqs) ≡ (are_of_texts (t ∷ ts) && has_freq option)
kept_counts option t ts = by option t.of_text
  where
    by : (o : IndexRecordOption) (texts : Bool) → has_freq (downgrade (if texts then o else Basic) WithFreqs) ≡ (texts && has_freq o)
    by o false = refl
    by Basic true = refl
    by WithFreqs true = refl
    by WithFreqsAndPositions true = refl

module _ (option : IndexRecordOption) (us : List IndexToken) (doc : ℕ) (score_of : ℕ → ℕ) where
  -- what a count scores, as far as it is kept
  abbrev scored_count : ℕ → Option ℕ
  scored_count n = if_occurs score_of (if are_of_texts us && has_freq option then n else min 1 n)

  scored_cut : (kept : Bool) (n : ℕ) → 0 < n → if_occurs score_of (if kept then n else min 1 n) ≡ Some (score_of (if kept then n else 1))
  scored_cut true n some = rw (ne_eqb n 0 (λ same. omega (arith, some, same))) refl
  scored_cut false n some = let one : min 1 n ≡ 1 = omega (arith, some) in ap (if_occurs score_of) one

  scored_none : scored_count 0 ≡ None
  scored_none = by (are_of_texts us && has_freq option)
    where
      by : (kept : Bool) → if_occurs score_of (if kept then 0 else min 1 0) ≡ None
      by true = refl
      by false = refl

  by_entry : (found : Option Entry) → entry_at (grouped us) doc ≡ found → (n : ℕ) → length (positions_of found) ≡ n
      → option_map (λ (e : Entry). score_of e.term_freq) (option_map (cut_entry (downgrade (kind_of option us) WithFreqs)) found) ≡ scored_count n
  by_entry None is n many = sym scored_none ∙ ap scored_count many
  by_entry (Some e) is n many = some us is
    where
      counted : IsCounted e
      counted = entry_counted (grouped us) doc e (grouped_counted us) is

      freq : e.term_freq ≡ n
      freq = sym counted.many ∙ many

      some : (vs : List IndexToken) → entry_at (grouped vs) doc ≡ Some e → Some (score_of (if has_freq (downgrade (kind_of option vs) WithFreqs) then e.term_freq else 1)) ≡ if_occurs score_of (if are_of_texts vs && has_freq option then n else min 1 n)
      some [] there = absurd (cc)
      some (v ∷ vs) there =
          (λ j. Some (score_of (if kept_counts option v vs j then freq j else 1)))
          ∙ sym (scored_cut (are_of_texts (v ∷ vs) && has_freq option) n (let more = counted.some in omega (arith, more, freq)))

pub terms_score_by_counts : TermsScoreByCounts
terms_score_by_counts schema ts st term doc ordered =
    let option = option_of schema term.field in
    let us = tokens_at term.field term.value ts in
    let score_of = score_by (scored_by_tokens schema ts st) (term ∷ []) term.field doc in
    let up = filter_ascends (is_at term.field term.value) 0 ts (ascend_from_order ts ordered) in
    ap (option_map (λ (e : Entry). score_of e.term_freq)) (cut_at (downgrade (kind_of option us) WithFreqs) (grouped us) doc)
    ∙ by_entry option us doc score_of (entry_at (grouped us) doc) refl (num_tokens_of ts term doc) (ap length (positions_at 0 us up doc) ∙ counted_at term doc ts)
