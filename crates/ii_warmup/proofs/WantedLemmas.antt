-- Gathering the wanted terms of a dictionary.
use Rattle.std.proofs.Common.{◌≡◌, ◌∙◌, ℕ, zero, suc, ◌+◌, ◌-◌, ◌<◌, ◌≤◌, Bool, List, [], ◌∷◌, ◌++◌, Option, None, Some, add-one, filter, is_some, length, map, nat_lt, refl, sym, ap, subst, take, arith}
use Rattle.std.specs.Prelude.{if◌then◌else◌, slice_get}
use Rattle.std.specs.Option.{option_map}
use Rattle.std.proofs.lemmas.Bool.{lt-ltb}
use Rattle.std.proofs.lemmas.List.Elements.{filter_map-append}
use Rattle.std.proofs.lemmas.List.Kept.{IsStrictlySortedBy-filter}
use Rattle.std.specs.Ordering.{nat_cmp}
use Rattle.std.specs.Cmp.Lexicographic.{slice_cmp}
use Rattle.ii_base.specs.declared.schema.index_record_option.IndexRecordOption.{IndexRecordOption}
use Rattle.ii_termdict.specs.Dictionary.{TermEntry, entry_infos, entry_keys}
use Rattle.ii_termdict.specs.ReadBack.{AreAscending}
use Rattle.ii_termdict.specs.TermStreamer.{TermStreamerState}
use Rattle.ii_termstore.specs.declared.term_info.TermInfo.{TermInfo}
use Rattle.ii_warmup.specs.Warmup.{WantedTermState, wanted_entries, wanted_keys, wanted_view}
use Rattle.ii_warmup.specs.declared.wanted_terms.WantedTerm.{WantedTerm}

-- an entry at a place
entry_taken : (es : List TermEntry) (i : ℕ) (key : List ℕ) (info : TermInfo) → slice_get (entry_keys es) i ≡ Some key → slice_get (entry_infos es) i ≡ Some info → take (suc i) es ≡ take i es ++ (key, info) ∷ []
entry_taken [] i key info key_is info_is = absurd (cc)
entry_taken (e ∷ es) zero key info key_is info_is =
    let first : e.0 ≡ key = cc in
    let other : e.1 ≡ info = cc in
    let both : e ≡ (key, info) = rw (← first, ← other) refl in
    rw both refl
entry_taken (e ∷ es) (suc i) key info key_is info_is = ap (λ (rest : List TermEntry). e ∷ rest) (entry_taken es i key info key_is info_is)

past_end : (n : ℕ) (es : List TermEntry) → length es ≤ n → take n es ≡ es
past_end zero [] h = refl
past_end (suc n) [] h = refl
past_end zero (e ∷ es) h = absurd (omega arith)
past_end (suc n) (e ∷ es) h = ap (λ (rest : List TermEntry). e ∷ rest) (past_end n es (omega arith))

-- a streamer that isn't at its end advances
pub advanced : (old new : TermStreamerState) (result : Bool) → old.passed < length old.entries → result ≡ nat_lt old.passed (length old.entries)
    → new ≡ record old { passed = if result then old.passed + 1 else old.passed } → new ≡ record old { passed = old.passed + 1 }
advanced old new result inside found is = is ∙ rw (found, lt-ltb old.passed (length old.entries) inside) refl

module _ (requested : List ℕ → Option IndexRecordOption) (es : List TermEntry) where
  -- The wanted terms among the entries before a place were gathered.
  pub record IsGathering (i : ℕ) (stream : TermStreamerState) (wanted : List WantedTerm) : Type 0 where
    pub entries : stream.entries ≡ es
    pub passed : stream.passed ≡ i
    pub gathered : map wanted_view wanted ≡ wanted_entries requested (take i es)

  pub gathering_next : (i : ℕ) (old new : TermStreamerState) (result : Bool) (key : List ℕ) (info : TermInfo) (before after : List WantedTerm) → i < length es → IsGathering i old before → result ≡ nat_lt old.passed (length old.entries)
      → new ≡ record old { passed = if result then old.passed + 1 else old.passed } → slice_get (entry_keys new.entries) (new.passed - 1) ≡ Some key → slice_get (entry_infos new.entries) (new.passed - 1) ≡ Some info
      → map wanted_view after ≡ map wanted_view before ++ wanted_entries requested ((key, info) ∷ []) → IsGathering (i + 1) new after
  gathering_next i old new result key info before after inside g found is key_is info_is pushed =
      let more : new ≡ record old { passed = old.passed + 1 } = advanced old new result (rw (g.entries, g.passed) inside) found is in
      let entries : new.entries ≡ es = ap (λ (s : TermStreamerState). s.entries) more ∙ g.entries in
      let passed : new.passed ≡ i + 1 = ap (λ (s : TermStreamerState). s.passed) more ∙ ap (λ (n : ℕ). n + 1) g.passed in
      let place : new.passed - 1 ≡ i = omega (arith, passed) in
      let key_at : slice_get (entry_keys es) i ≡ Some key = rw (← entries, ← place) key_is in
      let info_at : slice_get (entry_infos es) i ≡ Some info = rw (← entries, ← place) info_is in
      record {
        entries = entries;
        passed = passed;
        gathered =
            pushed ∙ ap (λ (ts : List WantedTermState). ts ++ wanted_entries requested ((key, info) ∷ [])) g.gathered
            ∙ sym (filter_map-append (λ (e : TermEntry). option_map (λ (o : IndexRecordOption). record { key = e.0; info = e.1; option = o }) (requested e.0)) (take i es) ((key, info) ∷ []))
            ∙ ap (wanted_entries requested) (sym (entry_taken es i key info key_at info_at) ∙ ap (λ (n : ℕ). take n es) (sym (add-one i)));
      }

  pub gathered_all : (i : ℕ) (stream : TermStreamerState) (wanted : List WantedTerm) → length es ≤ i → IsGathering i stream wanted → map wanted_view wanted ≡ wanted_entries requested es
  gathered_all i stream wanted end g = g.gathered ∙ ap (wanted_entries requested) (past_end i es end)

-- the keys of wanted terms
keys_viewed : (wanted : List WantedTerm) → wanted_keys wanted ≡ map (λ (t : WantedTermState). t.key) (map wanted_view wanted)
keys_viewed [] = refl
keys_viewed (t ∷ ts) = ap (λ (rest : List (List ℕ)). t.key.items ∷ rest) (keys_viewed ts)

keys_requested : (requested : List ℕ → Option IndexRecordOption) (es : List TermEntry) → map (λ (t : WantedTermState). t.key) (wanted_entries requested es) ≡ filter (λ (key : List ℕ). is_some (requested key)) (entry_keys es)
keys_requested requested [] = refl
keys_requested requested (e ∷ es) = by (requested e.0) refl (keys_requested requested es)
  where
    by : (r : Option IndexRecordOption) → requested e.0 ≡ r → map (λ (t : WantedTermState). t.key) (wanted_entries requested es) ≡ filter (λ (key : List ℕ). is_some (requested key)) (entry_keys es)
        → map (λ (t : WantedTermState). t.key) (wanted_entries requested (e ∷ es)) ≡ filter (λ (key : List ℕ). is_some (requested key)) (entry_keys (e ∷ es))
    by None at rest = rw at rest
    by (Some o) at rest = rw at (ap (λ (keys : List (List ℕ)). e.0 ∷ keys) rest)

pub wanted_ascend : (requested : List ℕ → Option IndexRecordOption) (es : List TermEntry) (wanted : List WantedTerm) → AreAscending (entry_keys es) → map wanted_view wanted ≡ wanted_entries requested es → AreAscending (wanted_keys wanted)
wanted_ascend requested es wanted ascend is =
    subst AreAscending (sym (keys_viewed wanted ∙ ap (map (λ (t : WantedTermState). t.key)) is ∙ keys_requested requested es)) (IsStrictlySortedBy-filter (slice_cmp nat_cmp) (λ (key : List ℕ). is_some (requested key)) (entry_keys es) ascend)
