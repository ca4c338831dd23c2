-- What is written for the tokens of a field holds them.
use Rattle.std.proofs.Common.{inl, inr, ◌≡◌, ℕ, zero, suc, ◌<◌, ◌==◌, Bool, true, false, ◌||◌, List, [], ◌∷◌, length, map, get_or, Option, Some, None, Ok, refl, sym, ap, ◌∙◌, subst, nat_eq, arith}
use Rattle.std.specs.Prelude.{◌⊎◌, IsTrue, MatchOption, Result, bytes_eq, filter, if◌then◌else◌, is_some}
use Rattle.std.specs.Ordering.{eq_by_cmp, nat_cmp}
use Rattle.std.specs.Cmp.Lexicographic.{nat_list_cmp_total, slice_cmp}
use Rattle.std.specs.FinMap.{contains_key-keys, from_entries, get-from_entries}
use Rattle.std.specs.FinMap.Entries.{is_some-find}
use Rattle.std.specs.List.{AllByRecursion, list_any}
use Rattle.std.proofs.lemmas.Cmp.{nat_list_eq_equiv}
use Rattle.std.proofs.lemmas.List.{length-map}
use Rattle.std.proofs.lemmas.Map.Text.{is_eq-slice_cmp}
use Rattle.ii_io.specs.declared.faults.Part.{Part}
use Rattle.ii_base.specs.declared.schema.index_record_option.IndexRecordOption.{IndexRecordOption}
use Rattle.ii_base.specs.declared.schema.index_record_option.IndexRecordOption.TheVariants.{Basic, WithFreqs, WithFreqsAndPositions}
use Rattle.ii_base.specs.Options.{downgrade, has_freq}
use Rattle.ii_io.specs.StepLemmas.{some-same}
use Rattle.ii_base.specs.Entries.{Entry, docs_of}
use Rattle.ii_fieldnorm.specs.Readers.{Norms}
use Rattle.ii_layout.specs.TermList.{ReadsUncountedTermBack, term_list}
use Rattle.ii_layout.specs.WrittenBounds.{BoundsWrittenTerms, HasTrueBounds}
use Rattle.ii_termstore.specs.declared.term_info.TermInfo.{TermInfo}
use Rattle.ii_termdict.specs.Dictionary.{dictionary, info_under}
use Rattle.ii_definitions.specs.Cut.{cut_entry}
use Rattle.ii_definitions.specs.Files.{HoldsField, HoldsTerm, bytes_in}
use Rattle.ii_definitions.specs.Postings.{field_count, grouped, kind_of, occurs, tokens_at}
use Rattle.ii_definitions.specs.Tokens.{IndexToken}
use Rattle.ii_definitions.proofs.GroupedLaws.{none_occurs}
use Rattle.ii_recorder.specs.HeldTerms.{HoldsKey, HoldsTerms, HoldsWritten, has_key}
use Rattle.ii_recorder.specs.Pushed.{AreReadable, ReadsEntriesBack, pushed_freqs}
use Rattle.ii_recorder.specs.Terms.{FieldBodies, WrittenTerm, positions_bytes, postings_bytes}
use Rattle.ii_recorder.specs.TokenTerms.{BoundsItsTokens, HoldsItsTokens, IsReadableKey, entries_term, field_keys, kept_entries, token_term}
use Rattle.ii_recorder.proofs.Documents.{few_documents}
use Rattle.ii_recorder.proofs.PushedEntries.{documents_read, pushed_are_freqs}

-- whether a key occurred, by the keys of a field's tokens
pub occurs_among : (field : ℕ) (key : List ℕ) (ts : List IndexToken) → occurs field key ts ≡ list_any (bytes_eq key) (map (λ (t : IndexToken). t.key) (filter (λ (t : IndexToken). t.field == field) ts))
occurs_among field key [] = refl
occurs_among field key (t ∷ ts) = by_case (nat_eq t.field field) refl (occurs_among field key ts)
  where
    by_case : (b : Bool) → nat_eq t.field field ≡ b → occurs field key ts ≡ list_any (bytes_eq key) (map (λ (u : IndexToken). u.key) (filter (λ (u : IndexToken). u.field == field) ts))
        → occurs field key (t ∷ ts) ≡ list_any (bytes_eq key) (map (λ (u : IndexToken). u.key) (filter (λ (u : IndexToken). u.field == field) (t ∷ ts)))
    by_case true is rest = rw (is, rest, nat_list_eq_equiv.symm key t.key) refl
    by_case false is rest = rw (is, rest) refl

any_ties : (q : List ℕ) (ks : List (List ℕ)) → list_any (eq_by_cmp (slice_cmp nat_cmp) q) ks ≡ list_any (bytes_eq q) ks
any_ties q [] = refl
any_ties q (k ∷ ks) = rw (is_eq-slice_cmp q k, any_ties q ks) refl

keys_marked : (ts : List IndexToken) → map (λ (e : List ℕ × Unit {0}). e.0) (map (λ (t : IndexToken). (t.key, tt)) ts) ≡ map (λ (t : IndexToken). t.key) ts
keys_marked [] = refl
keys_marked (t ∷ ts) = ap (λ (ks : List (List ℕ)). t.key ∷ ks) (keys_marked ts)

-- the keys of a field are those that occurred
pub keys_occur : (field : ℕ) (key : List ℕ) (ts : List IndexToken) → list_any (bytes_eq key) (field_keys field ts) ≡ occurs field key ts
keys_occur field key ts =
    let us = filter (λ (t : IndexToken). t.field == field) ts in
    let es : List (List ℕ × Unit {0}) = map (λ (t : IndexToken). (t.key, tt)) us in
    sym (any_ties key (field_keys field ts))
    ∙ sym (contains_key-keys (from_entries {R = slice_cmp nat_cmp} es) key)
    ∙ ap is_some (get-from_entries nat_list_cmp_total es key)
    ∙ is_some-find (slice_cmp nat_cmp) key es
    ∙ ap (list_any (eq_by_cmp (slice_cmp nat_cmp) key)) (keys_marked us)
    ∙ any_ties key (map (λ (t : IndexToken). t.key) us)
    ∙ sym (occurs_among field key ts)

-- a key with an entry occurred
pub some_occurred : (field : ℕ) (key : List ℕ) (ts : List IndexToken) → 0 < length (grouped (tokens_at field key ts)) → IsTrue (occurs field key ts)
some_occurred field key ts some = by_case (occurs field key ts) refl
  where
    by_case : (b : Bool) → occurs field key ts ≡ b → IsTrue (occurs field key ts)
    by_case true is = is
    by_case false is = absurd (omega (arith, some, ap (λ (us : List IndexToken). length (grouped us)) (none_occurs field key ts is)))

-- of a key all is kept that its field records, or documents alone
pub kind_which : (mode : IndexRecordOption) (tokens : List IndexToken) → (kind_of mode tokens ≡ mode) ⊎ (kind_of mode tokens ≡ Basic)
kind_which mode [] = inl refl
kind_which mode (t ∷ ts) = by_case t.of_text refl
  where
    by_case : (b : Bool) → t.of_text ≡ b → (kind_of mode (t ∷ ts) ≡ mode) ⊎ (kind_of mode (t ∷ ts) ≡ Basic)
    by_case true is = rw is (inl refl)
    by_case false is = rw is (inr refl)

-- what is cut to what is kept, and then to what is read of it
cut_twice : (kept requested : IndexRecordOption) (e : Entry) → cut_entry (downgrade kept requested) (cut_entry kept e) ≡ cut_entry (downgrade kept requested) e
cut_twice Basic requested e = refl
cut_twice WithFreqs Basic e = refl
cut_twice WithFreqs WithFreqs e = refl
cut_twice WithFreqs WithFreqsAndPositions e = refl
cut_twice WithFreqsAndPositions requested e = refl

all_cut_twice : (kept requested : IndexRecordOption) (es : List Entry) → map (cut_entry (downgrade kept requested)) (map (cut_entry kept) es) ≡ map (cut_entry (downgrade kept requested)) es
all_cut_twice kept requested [] = refl
all_cut_twice kept requested (e ∷ es) = rw (cut_twice kept requested e, all_cut_twice kept requested es) refl

-- the list that is read of a term, as it is written in a field
abbrev list_read : IndexRecordOption → IndexRecordOption → WrittenTerm → Result (List Entry) Part
list_read mode requested t = term_list mode requested (length t.docs) (postings_bytes t) (Some (positions_bytes mode t.deltas))

module _ (norms : Option Norms) (mode : IndexRecordOption) (field : ℕ) (ts : List IndexToken) where
  -- Which key a written term has.
  record KeyOf (t : WrittenTerm) : Type 0 where
    key : List ℕ
    is : token_term norms mode field ts key ≡ t
    readable : IsReadableKey mode field ts key

  key_at : (ks : List (List ℕ)) (t : WrittenTerm) (n : ℕ) → AllByRecursion (IsReadableKey mode field ts) ks → n < length (map (token_term norms mode field ts) ks) → get_or (map (token_term norms mode field ts) ks) n t ≡ t → KeyOf t
  key_at [] t n all inside is = absurd (omega (arith, inside))
  key_at (k ∷ ks) t zero all inside is = record { key = k; is = is; readable = all.0 }
  key_at (k ∷ ks) t (suc n) all inside is = key_at ks t n all.1 (omega (arith, inside)) is

  -- the key of a term of a field
  found_key : (key postings positions : List ℕ) (info : TermInfo) → AllByRecursion (IsReadableKey mode field ts) (field_keys field ts) → (k : HoldsKey mode postings positions (map (token_term norms mode field ts) (field_keys field ts)) key info) → KeyOf k.term
  found_key key postings positions info all k = key_at (field_keys field ts) k.term k.written.0 all k.written.1 k.written.2

module _ (law : ReadsEntriesBack) (uncounted : ReadsUncountedTermBack) (norms : Option Norms) where
  -- entries that keep what their field records, and those that keep documents alone
  all_read : (kind requested : IndexRecordOption) (key : List ℕ) (es : List Entry) → AreReadable kind (map (cut_entry kind) es)
      → list_read kind requested (entries_term norms kind key (map (cut_entry kind) es)) ≡ Ok (map (cut_entry (downgrade kind requested)) es)
  all_read kind requested key es readable =
      let kept = map (cut_entry kind) es in
      let t = entries_term norms kind key kept in
      ap (λ (n : ℕ). term_list kind requested n (postings_bytes t) (Some (positions_bytes kind t.deltas))) (length-map kept (λ (e : Entry). e.doc))
      ∙ law norms kind requested kept readable
      ∙ ap Ok (all_cut_twice kind requested es)

  documents_alone_read : (mode requested : IndexRecordOption) (key : List ℕ) (es : List Entry) → AreReadable Basic (map (cut_entry Basic) es)
      → list_read mode requested (entries_term norms Basic key (map (cut_entry Basic) es)) ≡ Ok (map (cut_entry Basic) es)
  documents_alone_read mode requested key es readable =
      let kept = map (cut_entry Basic) es in
      let t = entries_term norms Basic key kept in
      let few = few_documents (docs_of kept) readable.documents in
      uncounted norms mode requested (docs_of kept) t.freqs (Some (positions_bytes mode t.deltas)) readable.documents (omega (arith, few))
      ∙ ap Ok (documents_read kept)
      ∙ ap Ok (all_cut_twice Basic requested es)

  kept_read : (mode kind requested : IndexRecordOption) (key : List ℕ) (es : List Entry) → (kind ≡ mode) ⊎ (kind ≡ Basic) → AreReadable kind (map (cut_entry kind) es)
      → list_read mode requested (entries_term norms kind key (map (cut_entry kind) es)) ≡ Ok (map (cut_entry (downgrade kind requested)) es)
  kept_read mode kind requested key es (inl same) readable =
      subst (λ (m : IndexRecordOption). list_read m requested (entries_term norms kind key (map (cut_entry kind) es)) ≡ Ok (map (cut_entry (downgrade kind requested)) es)) same (all_read kind requested key es readable)
  kept_read mode kind requested key es (inr basic) readable =
      subst (λ (k : IndexRecordOption). AreReadable k (map (cut_entry k) es) → list_read mode requested (entries_term norms k key (map (cut_entry k) es)) ≡ Ok (map (cut_entry (downgrade k requested)) es)) (sym basic) (documents_alone_read mode requested key es) readable

  module _ (mode : IndexRecordOption) (field : ℕ) (ts : List IndexToken) where
    -- what is written for a key holds its postings
    holds_term : (key postings positions : List ℕ) (info : TermInfo) → IsReadableKey mode field ts key → HoldsWritten mode postings positions (token_term norms mode field ts key) info → HoldsTerm mode field key postings positions ts info
    holds_term key postings positions info readable held =
        let tokens = tokens_at field key ts in
        let kind = kind_of mode tokens in
        let es = grouped tokens in
        let kept = kept_entries mode tokens in
        let t = token_term norms mode field ts key in
        let many : length kept ≡ length es = length-map es (cut_entry kind) in
        record {
          occurred = some_occurred field key ts (subst (λ (n : ℕ). 0 < n) many readable.some);
          doc_freq = held.doc_freq ∙ length-map kept (λ (e : Entry). e.doc) ∙ many;
          postings_range = held.postings_range;
          positions_range = held.positions_range;
          lists = λ requested.
              ap (λ (n : ℕ). term_list mode requested n (bytes_in postings info.postings_range) (Some (bytes_in positions info.positions_range))) held.doc_freq
              ∙ ap (λ (ps : List ℕ). term_list mode requested (length t.docs) ps (Some (bytes_in positions info.positions_range))) held.postings_are
              ∙ ap (λ (ps : List ℕ). term_list mode requested (length t.docs) (postings_bytes t) (Some ps)) held.positions_are
              ∙ kept_read mode kind requested key es (kind_which mode tokens) readable;
        }

    holds_key : (key postings positions : List ℕ) (info : TermInfo) → AllByRecursion (IsReadableKey mode field ts) (field_keys field ts) → HoldsKey mode postings positions (map (token_term norms mode field ts) (field_keys field ts)) key info
        → HoldsTerm mode field key postings positions ts info
    holds_key key postings positions info all k =
        let o = found_key norms mode field ts key postings positions info all k in
        let same : o.key ≡ key = ap (λ (t : WrittenTerm). t.key) o.is ∙ k.key_is in
        subst (λ (q : List ℕ). HoldsTerm mode field q postings positions ts info) same (holds_term o.key postings positions info o.readable (subst (λ (t : WrittenTerm). HoldsWritten mode postings positions t info) (sym o.is) k.held))

    has_key_of : (key : List ℕ) (ks : List (List ℕ)) → has_key key (map (token_term norms mode field ts) ks) ≡ list_any (bytes_eq key) ks
    has_key_of key [] = refl
    has_key_of key (k ∷ ks) = ap (λ (b : Bool). bytes_eq key k || b) (has_key_of key ks)

    exact : (key postings positions : List ℕ) (o : Option TermInfo) → AllByRecursion (IsReadableKey mode field ts) (field_keys field ts)
        → MatchOption o (has_key key (map (token_term norms mode field ts) (field_keys field ts)) ≡ false) (HoldsKey mode postings positions (map (token_term norms mode field ts) (field_keys field ts)) key)
        → MatchOption o (occurs field key ts ≡ false) (HoldsTerm mode field key postings positions ts)
    exact key postings positions None all none = sym (has_key_of key (field_keys field ts) ∙ keys_occur field key ts) ∙ none
    exact key postings positions (Some info) all k = holds_key key postings positions info all k

    holds_field : (bodies : FieldBodies) → AllByRecursion (IsReadableKey mode field ts) (field_keys field ts) → HoldsTerms mode (field_count field ts) bodies (map (token_term norms mode field ts) (field_keys field ts))
        → HoldsField mode field bodies.terms bodies.postings bodies.positions ts
    holds_field bodies all h = record {
      entries = h.entries;
      postings_body = h.postings_body;
      counted = h.counted;
      sorted = h.sorted;
      exact = λ key. exact key h.postings_body bodies.positions (info_under key h.entries) all (h.exact key);
    }

pub holds_its_tokens : ReadsEntriesBack → ReadsUncountedTermBack → HoldsItsTokens
holds_its_tokens law uncounted norms mode field ts bodies all h = holds_field law uncounted norms mode field ts bodies all h

module _ (law : BoundsWrittenTerms) (norms : Norms) (mode : IndexRecordOption) (field : ℕ) (ts : List IndexToken) where
  -- the bounds of a key are true as they are written
  bounds_key : (key : List ℕ) → IsReadableKey mode field ts key → HasTrueBounds norms mode (length (token_term (Some norms) mode field ts key).docs) (postings_bytes (token_term (Some norms) mode field ts key))
  bounds_key key readable =
      let tokens = tokens_at field key ts in
      let kind = kind_of mode tokens in
      let kept = kept_entries mode tokens in
      let many : length (docs_of kept) ≡ length kept = length-map kept (λ (e : Entry). e.doc) in
      let counts : length (pushed_freqs kind kept) ≡ length (docs_of kept) = length-map kept (λ (e : Entry). if has_freq kind then e.term_freq else 0) ∙ sym many in
      let few = few_documents (docs_of kept) readable.documents in
      law norms mode kind (docs_of kept) (pushed_freqs kind kept) (kind_which mode tokens) readable.documents (omega (arith, few))
      (λ has. pushed_are_freqs kind (docs_of kept) (pushed_freqs kind kept) counts (readable.counted has) readable.fit readable.small)

  bounds_held : (key postings positions : List ℕ) (info : TermInfo) → AllByRecursion (IsReadableKey mode field ts) (field_keys field ts) → HoldsKey mode postings positions (map (token_term (Some norms) mode field ts) (field_keys field ts)) key info
      → HasTrueBounds norms mode info.doc_freq (bytes_in postings info.postings_range)
  bounds_held key postings positions info all k =
      let o = found_key (Some norms) mode field ts key postings positions info all k in
      let bounds : HasTrueBounds norms mode (length k.term.docs) (postings_bytes k.term) = subst (λ (t : WrittenTerm). HasTrueBounds norms mode (length t.docs) (postings_bytes t)) o.is (bounds_key o.key o.readable) in
      subst (λ (n : ℕ). HasTrueBounds norms mode n (bytes_in postings info.postings_range)) (sym k.held.doc_freq)
      (subst (λ (bytes : List ℕ). HasTrueBounds norms mode (length k.term.docs) bytes) (sym k.held.postings_are) bounds)

  bounds_under : (key postings positions : List ℕ) (o : Option TermInfo) (info : TermInfo) → AllByRecursion (IsReadableKey mode field ts) (field_keys field ts)
      → MatchOption o (has_key key (map (token_term (Some norms) mode field ts) (field_keys field ts)) ≡ false) (HoldsKey mode postings positions (map (token_term (Some norms) mode field ts) (field_keys field ts)) key)
      → o ≡ Some info → HasTrueBounds norms mode info.doc_freq (bytes_in postings info.postings_range)
  bounds_under key postings positions None info all h is = absurd (cc)
  bounds_under key postings positions (Some found) info all h is =
      subst (λ (i : TermInfo). HasTrueBounds norms mode i.doc_freq (bytes_in postings i.postings_range)) (some-same is) (bounds_held key postings positions found all h)

-- a value that two results have
ok_value : {A E : Type 0} (r : Result A E) (x y : A) → r ≡ Ok x → r ≡ Ok y → x ≡ y
ok_value r x y a b = cc

pub bounds_its_tokens : BoundsWrittenTerms → BoundsItsTokens
bounds_its_tokens law norms mode field ts bodies all h = record {
  each = λ entries counted key info sorted counted_is found.
      let same : h.entries ≡ entries = ok_value (dictionary bodies.terms) h.entries entries h.sorted sorted in
      let body : counted ≡ (field_count field ts, h.postings_body) = some-same (sym counted_is ∙ h.counted) in
      let there : info_under key h.entries ≡ Some info = ap (info_under key) same ∙ found in
      subst (λ (bytes : List ℕ). HasTrueBounds norms mode info.doc_freq (bytes_in bytes info.postings_range)) (sym (ap (λ (c : ℕ × List ℕ). c.1) body))
      (bounds_under law norms mode field ts key h.postings_body bodies.positions (info_under key h.entries) info all (h.exact key) there);
}
