-- Copying wanted terms one after the other.
use Rattle.std.proofs.Common.{◌≡◌, ◌∙◌, ℕ, zero, suc, ◌+◌, ◌<◌, ◌≤◌, false, List, [], ◌∷◌, ◌++◌, Option, Some, get_or, length, map, refl, sym, ap, subst, take, arith, length-append}
use Rattle.std.specs.List.{AllByRecursion, zip}
use Rattle.std.specs.List.Sorted.{IsStrictlySortedBy}
use Rattle.std.proofs.lemmas.List.{length-map}
use Rattle.ii_base.specs.declared.schema.index_record_option.IndexRecordOption.{IndexRecordOption}
use Rattle.ii_io.specs.Numbers.{little_endian}
use Rattle.ii_check.specs.declared.validation.Validation.TheVariants.{Complete}
use Rattle.ii_reader.specs.InvertedIndexReader.{InvertedIndexReaderState}
use Rattle.ii_termdict.specs.ReadBack.{AreAscending}
use Rattle.ii_termstore.specs.declared.term_info.TermInfo.{TermInfo}
use Rattle.ii_termstore.specs.TermInfos.{term_info_from}
use Rattle.ii_warmup.specs.CopiedTerms.{CopiedTermsState}
use Rattle.ii_warmup.specs.Warmup.{CopiesTerm, WantedTermState, wanted_entries, wanted_keys, wanted_view}
use Rattle.ii_warmup.specs.declared.wanted_terms.WantedTerm.{WantedTerm}
use Rattle.ii_warmup.specs.Parts.{IsPartOf}
use Rattle.ii_warmup.proofs.CopyLemmas.{AreCopies, HasCopied, copied_more}
use Rattle.ii_warmup.proofs.PartLemmas.{is_part}

-- one more of a list
taken_more : {A B : Type 0} (f : A → B) (xs : List A) (i : ℕ) (x : A) → i < length xs → x ≡ get_or xs i x → take (suc i) (map f xs) ≡ take i (map f xs) ++ f x ∷ []
taken_more f [] i x inside is = absurd (omega arith)
taken_more f (y ∷ ys) zero x inside is = ap (λ z. f z ∷ []) (sym is)
taken_more f (y ∷ ys) (suc i) x inside is = ap (λ rest. f y ∷ rest) (taken_more f ys i x (omega arith) is)

all_taken : {A : Type 0} (P : A → Type 0) (n : ℕ) (xs : List A) → AllByRecursion P xs → AllByRecursion P (take n xs)
all_taken P zero xs h = tt
all_taken P (suc n) [] h = tt
all_taken P (suc n) (x ∷ xs) h = (h.0, all_taken P n xs h.1)

ascending_taken : (n : ℕ) (keys : List (List ℕ)) → AreAscending keys → AreAscending (take n keys)
unfolding IsStrictlySortedBy
ascending_taken zero keys h = tt
ascending_taken (suc n) [] h = tt
ascending_taken (suc n) (k ∷ ks) h = (all_taken _ n ks h.0, ascending_taken n ks h.1)

module _ (option : IndexRecordOption) (postings positions : Option (List ℕ)) (wanted : List WantedTerm) (count : List ℕ) where
  -- The terms before a place were copied.
  pub record IsCopying (i : ℕ) (s : CopiedTermsState) : Type 0 where
    pub is_open : s.closed ≡ false
    pub whole : length s.keys ≡ length s.infos
    pub keys : s.keys ≡ take i (wanted_keys wanted)
    pub counted : s.count ≡ count
    pub copied : HasCopied option postings positions (take i (map wanted_view wanted)) s

  -- the info of a term that is copied after others
  abbrev info_of : WantedTerm → CopiedTermsState → List ℕ → List ℕ → TermInfo
  info_of t s docs places = term_info_from t.info.doc_freq (length s.postings) (length s.postings + length docs) (length s.positions) (length s.positions + length places)

  pub copying_first : (s : CopiedTermsState) → s ≡ record { keys = []; infos = []; count = count; postings = []; positions = []; closed = false } → IsCopying 0 s
  copying_first s is = subst (IsCopying 0) (sym is) (record { is_open = refl; whole = refl; keys = refl; counted = refl; copied = tt })

  pub copying_next : (i : ℕ) (t : WantedTerm) (old new : CopiedTermsState) → i < length wanted → t ≡ get_or wanted i t → IsCopying i old → CopiesTerm option postings positions (wanted_view t) old new → IsCopying (i + 1) new
  copying_next i t old new inside is c copies =
      let next : suc i ≡ i + 1 = omega arith in
      subst (λ (j : ℕ). IsCopying j new) next (record {
        is_open = ap (λ (s : CopiedTermsState). s.closed) copies.copied ∙ c.is_open;
        whole = rw copies.copied (omega (arith, length-append old.keys (t.key.items ∷ []), length-append old.infos (info_of t old copies.of_docs copies.of_positions ∷ []), c.whole));
        keys = ap (λ (s : CopiedTermsState). s.keys) copies.copied ∙ ap (λ (ks : List (List ℕ)). ks ++ t.key.items ∷ []) c.keys ∙ sym (taken_more (λ (u : WantedTerm). u.key.items) wanted i t inside is);
        counted = ap (λ (s : CopiedTermsState). s.count) copies.copied ∙ c.counted;
        copied = subst (λ (ts : List WantedTermState). HasCopied option postings positions ts new) (sym (taken_more wanted_view wanted i t inside is)) (copied_more option postings positions (take i (map wanted_view wanted)) (wanted_view t) old new c.copied copies);
      })

  pub copying_key : (i : ℕ) (t : WantedTerm) (s : CopiedTermsState) → AreAscending (wanted_keys wanted) → i < length wanted → t ≡ get_or wanted i t → IsCopying i s → AreAscending (s.keys ++ t.key.items ∷ [])
  copying_key i t s ascend inside is c =
      subst AreAscending (taken_more (λ (u : WantedTerm). u.key.items) wanted i t inside is ∙ ap (λ (ks : List (List ℕ)). ks ++ t.key.items ∷ []) (sym c.keys)) (ascending_taken (suc i) (wanted_keys wanted) ascend)

past_end : {A : Type 0} (n : ℕ) (xs : List A) → length xs ≤ n → take n xs ≡ xs
past_end zero [] h = refl
past_end (suc n) [] h = refl
past_end zero (x ∷ xs) h = absurd (omega arith)
past_end (suc n) (x ∷ xs) h = ap (λ rest. x ∷ rest) (past_end n xs (omega arith))

module _ (option : IndexRecordOption) (p q : Option (List ℕ)) (wanted : List WantedTerm) (count : List ℕ) where
  -- The reader over all terms that were copied.
  pub part_of_copies : (i : ℕ) (s : CopiedTermsState) (reader whole : InvertedIndexReaderState) (requested : List ℕ → Option IndexRecordOption) → IsCopying option p q wanted count i s → length wanted ≤ i
      → reader ≡ record { terms = zip s.keys s.infos; postings = s.postings; positions = s.positions; option = option; num_tokens = little_endian s.count; validation = Complete }
      → p ≡ Some whole.postings → q ≡ Some whole.positions → whole.option ≡ option → whole.num_tokens ≡ little_endian count → map wanted_view wanted ≡ wanted_entries requested whole.terms → IsPartOf requested reader whole
  part_of_copies i s reader whole requested c end reader_is p_is q_is option_is counted wanted_is =
      let made : InvertedIndexReaderState = record { terms = zip s.keys s.infos; postings = s.postings; positions = s.positions; option = option; num_tokens = little_endian s.count; validation = Complete } in
      let all_taken : take i (map wanted_view wanted) ≡ wanted_entries requested whole.terms = past_end i (map wanted_view wanted) (omega (arith, end, length-map wanted wanted_view)) ∙ wanted_is in
      let all : AreCopies whole.option (Some whole.postings) (Some whole.positions) s.postings s.positions (wanted_entries requested whole.terms) s.keys s.infos =
      subst (λ (o : IndexRecordOption). AreCopies o (Some whole.postings) (Some whole.positions) s.postings s.positions (wanted_entries requested whole.terms) s.keys s.infos) (sym option_is)
      (subst (λ (x : Option (List ℕ)). AreCopies option x (Some whole.positions) s.postings s.positions (wanted_entries requested whole.terms) s.keys s.infos) p_is
      (subst (λ (x : Option (List ℕ)). AreCopies option p x s.postings s.positions (wanted_entries requested whole.terms) s.keys s.infos) q_is
      (subst (λ (ts : List WantedTermState). AreCopies option p q s.postings s.positions ts s.keys s.infos) all_taken c.copied))) in
      subst (λ (r : InvertedIndexReaderState). IsPartOf requested r whole) (sym reader_is)
      (is_part whole made (sym option_is) requested s.keys s.infos all refl (ap little_endian c.counted ∙ sym counted))
