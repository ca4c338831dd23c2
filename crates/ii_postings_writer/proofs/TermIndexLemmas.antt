-- The recorders of terms, as a map has them.
use Rattle.std.proofs.Common.{◌≡◌, ℕ, Bool, true, false, List, [], ◌∷◌, map, cond, refl, sym, ap, ◌∙◌, Some, None, Option, Ok, Err, Result, subst}
use Rattle.std.specs.Prelude.{All, MatchOption, OnOk, bytes_eq, unwrap_or, ⊤}
use Rattle.std.proofs.lemmas.List.Elements.{All-cons, All-head, All-tail}
use Rattle.std.specs.Map.{lookup, keys_of}
use Rattle.std.specs.Option.{option_map}
use Rattle.indexmap.specs.IndexMap.{IndexMap, Updates, UpdatesBy, get_by, insert_entry, keys}
use Rattle.ii_base.specs.declared.schema.index_record_option.IndexRecordOption.{IndexRecordOption}
use Rattle.ii_recorder.specs.declared.recorder.AnyRecorder.{AnyRecorder}
use Rattle.ii_recorder.specs.AnyRecorder.{any_state}
use Rattle.ii_recorder.specs.Recorded.{RecorderState}
use Rattle.ii_postings_writer.specs.IndexingTerm.{AreTermBytes}
use Rattle.ii_postings_writer.proofs.ByteKeys.{Key, is_key, lookup_seen, updated, updates_at}
use Rattle.ii_postings_writer.specs.IndexingContext.{AllEndBy, EndsBy, IsRecorded, TermIndex, new_recorder, recorded_at, recorder_of, recorder_or_new}

abbrev pub stored : List (Key × AnyRecorder) → TermIndex
stored es = map (λ (e : Key × AnyRecorder). (e.0, any_state e.1)) es

pub recorder_of-stored : (es : List (Key × AnyRecorder)) (bytes : List ℕ) → recorder_of (stored es) bytes ≡ option_map any_state (lookup (is_key bytes) es)
recorder_of-stored es bytes = lookup_seen any_state es bytes

whole_entries : (es : List (Key × AnyRecorder)) (k : Key) (v : AnyRecorder) → All AreTermBytes (keys_of es) → AreTermBytes k
    → All AreTermBytes (keys_of (insert_entry bytes_eq es k v))
whole_entries [] k v h long = All-cons AreTermBytes k [] long h
whole_entries (e ∷ es) k v h long = by (bytes_eq k e.0) (whole_entries es k v (All-tail AreTermBytes e.0 (keys_of es) h) long)
  where
    by : (b : Bool) → All AreTermBytes (keys_of (insert_entry bytes_eq es k v))
        → All AreTermBytes (keys_of (cond b ((e.0, v) ∷ es) (e ∷ insert_entry bytes_eq es k v)))
    by true rest = h
    by false rest = All-cons AreTermBytes e.0 (keys_of (insert_entry bytes_eq es k v)) (All-head AreTermBytes e.0 (keys_of es) h) rest

module _ {S : Type 0} where
  pub recorder_under : (m : IndexMap Key AnyRecorder S) (terms : TermIndex) (bytes : List ℕ) (found : Option AnyRecorder) → stored m.entries ≡ terms → found ≡ get_by (is_key bytes) m → recorder_of terms bytes ≡ option_map any_state found
  recorder_under m terms bytes found is at = ap (λ (t : TermIndex). recorder_of t bytes) (sym is) ∙ recorder_of-stored m.entries bytes ∙ ap (option_map any_state) (sym at)

  -- a position was recorded where the recorder of the term was
  pub is_recorded : (option : IndexRecordOption) (doc position : ℕ) (term : List ℕ) (m n : IndexMap Key AnyRecorder S) (w : AnyRecorder) (terms : TermIndex)
      → UpdatesBy bytes_eq (is_key term) m n (Some w) → stored m.entries ≡ terms
      → any_state w ≡ recorded_at doc position (recorder_or_new option terms term) → IsRecorded option doc position term terms (stored n.entries)
  is_recorded option doc position term m n w terms h is state bytes = recorder_of-stored n.entries bytes ∙ ap (option_map any_state) (updated term m n (Some w) h bytes) ∙ by (bytes_eq term bytes)
    where
      by : (b : Bool) → option_map any_state (cond b (Some w) (get_by (is_key bytes) m)) ≡ cond b (Some (recorded_at doc position (recorder_or_new option terms term))) (recorder_of terms bytes)
      by true = ap (λ (r : RecorderState). Some r) state
      by false = sym (recorder_under m terms bytes (get_by (is_key bytes) m) is refl)

pub ends_under : (doc : ℕ) (terms : TermIndex) (bytes : List ℕ) (r : AnyRecorder) → recorder_of terms bytes ≡ Some (any_state r) → AllEndBy doc terms → EndsBy doc (any_state r)
ends_under doc terms bytes r is h = subst (λ (found : Option RecorderState). MatchOption found ⊤ (EndsBy doc)) is (h bytes)

-- the recorder of a term, or none
pub found_or_new : (option : IndexRecordOption) (terms : TermIndex) (bytes : List ℕ) (found : Option AnyRecorder) → recorder_of terms bytes ≡ option_map any_state found → recorder_or_new option terms bytes ≡ unwrap_or (option_map any_state found) (new_recorder option)
found_or_new option terms bytes found is = ap (λ (o : Option RecorderState). unwrap_or o (new_recorder option)) is

-- keys that are long enough, with one more
pub whole_keys : {S : Type 0} (m n : IndexMap Key AnyRecorder S) (k : Key) (v : AnyRecorder) → n.entries ≡ insert_entry bytes_eq m.entries k v
    → All AreTermBytes (keys m) → AreTermBytes k → All AreTermBytes (keys n)
whole_keys m n k v is h long = subst (λ (es : List (Key × AnyRecorder)). All AreTermBytes (keys_of es)) (sym is) (whole_entries m.entries k v h long)

-- a position was recorded in a recorder of its own
pub is_inserted : {S : Type 0} (option : IndexRecordOption) (doc position : ℕ) (term : List ℕ) (m n : IndexMap Key AnyRecorder S) (k : Key) (w : AnyRecorder) (terms : TermIndex)
    → Updates bytes_eq m n k (Some w) → k ≡ term → stored m.entries ≡ terms → recorder_of terms term ≡ None
    → any_state w ≡ recorded_at doc position (new_recorder option) → IsRecorded option doc position term terms (stored n.entries)
is_inserted option doc position term m n k w terms h key is absent state =
    is_recorded option doc position term m n w terms (updates_at k term key m n (Some w) h) is (state ∙ ap (recorded_at doc position) (sym (found_or_new option terms term None absent)))

pub on_ok : {X E : Type 0} (r : Result X E) (P Q : Type 0) → (P → Q) → OnOk r P → OnOk r Q
on_ok (Ok x) P Q f h = f h
on_ok (Err e) P Q f h = h

pub on_both : {X E : Type 0} (r : Result X E) (P R Q : Type 0) → (P → R → Q) → OnOk r P → OnOk r R → OnOk r Q
on_both (Ok x) P R Q f h k = f h k
on_both (Err e) P R Q f h k = h
