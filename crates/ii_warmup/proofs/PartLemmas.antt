-- A reader over copied terms is part of the reader that they were copied from.
use Rattle.std.proofs.Common.{◌≡◌, ◌∙◌, ℕ, Bool, true, false, ◌&&◌, ◌||◌, not, List, [], ◌∷◌, Option, None, Some, filter, is_some, refl, sym, ap, subst, bytes_eq}
use Rattle.std.specs.List.{zip}
use Rattle.std.proofs.lemmas.Slice.Eq.{bytes_eq-Decides}
use Rattle.ii_base.specs.Options.{downgrade, has_positions}
use Rattle.ii_base.specs.declared.schema.index_record_option.IndexRecordOption.{IndexRecordOption}
use Rattle.ii_base.specs.declared.schema.index_record_option.IndexRecordOption.TheVariants.{Basic, WithFreqs, WithFreqsAndPositions}
use Rattle.ii_definitions.specs.Files.{bytes_in}
use Rattle.ii_layout.specs.TermList.{term_list}
use Rattle.ii_reader.specs.InvertedIndexReader.{InvertedIndexReaderState, if_they_lie, ranges_lie, term_of_file}
use Rattle.ii_search.specs.Found.{docs_kept}
use Rattle.ii_termdict.specs.Dictionary.{TermEntry, entry_keys, info_under}
use Rattle.ii_termstore.specs.declared.term_info.TermInfo.{TermInfo}
use Rattle.ii_warmup.specs.QueryTerms.{serves}
use Rattle.ii_warmup.specs.Parts.{IsPartOf}
use Rattle.ii_warmup.specs.Warmup.{WantedTermState, wanted_entries}
use Rattle.ii_warmup.proofs.CopyLemmas.{AreCopies, IsCopy}

-- positions that are read of a list were requested of it
reads_requested : (recorded option requested : IndexRecordOption) → has_positions (downgrade recorded option) ≡ true → serves option requested ≡ true → has_positions (downgrade recorded requested) ≡ true
reads_requested Basic option requested reads served = absurd (cc)
reads_requested WithFreqs Basic requested reads served = absurd (cc)
reads_requested WithFreqs WithFreqs requested reads served = absurd (cc)
reads_requested WithFreqs WithFreqsAndPositions requested reads served = absurd (cc)
reads_requested WithFreqsAndPositions Basic requested reads served = absurd (cc)
reads_requested WithFreqsAndPositions WithFreqs requested reads served = absurd (cc)
reads_requested WithFreqsAndPositions WithFreqsAndPositions requested reads served = served

-- a list without positions doesn't depend on their bytes
no_positions : (recorded option : IndexRecordOption) (doc_freq : ℕ) (bytes positions others : List ℕ) → has_positions (downgrade recorded option) ≡ false
    → term_list recorded option doc_freq bytes (Some positions) ≡ term_list recorded option doc_freq bytes (Some others)
no_positions recorded option doc_freq bytes positions others unread = rw unread refl

-- ranges lie in bodies, if those of positions do where they are read
ranges_all : {a b c : Bool} → a ≡ true → (b ≡ true → c ≡ true) → (a && (not b || c)) ≡ true
ranges_all {a} {b} {c} first other = by a b c first other
  where
    by : (a b c : Bool) → a ≡ true → (b ≡ true → c ≡ true) → (a && (not b || c)) ≡ true
    by true true c first other = other refl
    by true false c first other = refl
    by false b c first other = absurd (cc)

module _ (whole part : InvertedIndexReaderState) (same_option : part.option ≡ whole.option) where
  abbrev IsCopied : WantedTermState → TermInfo → Type 0
  IsCopied t i = IsCopy whole.option (Some whole.postings) (Some whole.positions) part.postings part.positions t i

  -- the list of a copy
  same_list : (t : WantedTermState) (i : TermInfo) (option : IndexRecordOption) → IsCopied t i → serves option t.option ≡ true → term_of_file part option i ≡ term_of_file whole option t.info
  same_list t i option c served =
      let p = part in
      let w = whole in
      let bytes = bytes_in p.postings i.postings_range in
      let positions = bytes_in p.positions i.positions_range in
      let here : ranges_lie p option i ≡ true = ranges_all c.docs.lies (λ reads. (c.positions_are (requested_here reads)).lies) in
      let there : ranges_lie w option t.info ≡ true = ranges_all (c.docs.lay w.postings refl) (λ reads. (c.positions_are (reads_requested w.option option t.option reads served)).lay w.positions refl) in
      ap (λ (b : Bool). if_they_lie b (term_list p.option option i.doc_freq bytes (Some positions))) here
      ∙ ap (λ (r : IndexRecordOption). term_list r option i.doc_freq bytes (Some positions)) same_option
      ∙ ap (λ (n : ℕ). term_list w.option option n bytes (Some positions)) c.doc_freq
      ∙ ap (λ (bs : List ℕ). term_list w.option option t.info.doc_freq bs (Some positions)) (c.docs.same w.postings refl)
      ∙ same_positions (has_positions (downgrade w.option option)) refl
      ∙ ap (λ (b : Bool). if_they_lie b (term_list w.option option t.info.doc_freq (bytes_in w.postings t.info.postings_range) (Some (bytes_in w.positions t.info.positions_range)))) (sym there)
    where
      requested_here : has_positions (downgrade part.option option) ≡ true → has_positions (downgrade whole.option t.option) ≡ true
      requested_here reads = reads_requested whole.option option t.option (ap (λ (r : IndexRecordOption). has_positions (downgrade r option)) (sym same_option) ∙ reads) served

      same_positions : (b : Bool) → has_positions (downgrade whole.option option) ≡ b
          → term_list whole.option option t.info.doc_freq (bytes_in whole.postings t.info.postings_range) (Some (bytes_in part.positions i.positions_range))
          ≡ term_list whole.option option t.info.doc_freq (bytes_in whole.postings t.info.postings_range) (Some (bytes_in whole.positions t.info.positions_range))
      same_positions false unread = no_positions whole.option option t.info.doc_freq (bytes_in whole.postings t.info.postings_range) (bytes_in part.positions i.positions_range) (bytes_in whole.positions t.info.positions_range) unread
      same_positions true reads =
          ap (λ (bs : List ℕ). term_list whole.option option t.info.doc_freq (bytes_in whole.postings t.info.postings_range) (Some bs))
          ((c.positions_are (reads_requested whole.option option t.option reads served)).same whole.positions refl)

  module _ (requested : List ℕ → Option IndexRecordOption) where
    abbrev Copied : List TermEntry → List (List ℕ) → List TermInfo → Type 0
    Copied es ks is = AreCopies whole.option (Some whole.postings) (Some whole.positions) part.postings part.positions (wanted_entries requested es) ks is

    -- The keys of copies are those that are requested.
    keys_copied : (es : List TermEntry) (ks : List (List ℕ)) (is : List TermInfo) → Copied es ks is → entry_keys (zip ks is) ≡ filter (λ (key : List ℕ). is_some (requested key)) (entry_keys es)
    keys_copied [] [] [] all = refl
    keys_copied [] [] (i ∷ is) all = absurd all
    keys_copied [] (k ∷ ks) is all = absurd all
    keys_copied (e ∷ es) ks is all = by (λ ls js rest. keys_copied es ls js rest) (requested e.0) refl ks is all
      where
        by : ((ls : List (List ℕ)) (js : List TermInfo) → Copied es ls js → entry_keys (zip ls js) ≡ filter (λ (key : List ℕ). is_some (requested key)) (entry_keys es)) → (r : Option IndexRecordOption) → requested e.0 ≡ r → (ks : List (List ℕ)) (is : List TermInfo) → Copied (e ∷ es) ks is → entry_keys (zip ks is) ≡ filter (λ (key : List ℕ). is_some (requested key)) (entry_keys (e ∷ es))
        by later None at ks is all = rw at (later ks is (rw at at all))
        by later (Some o) at [] is all = absurd (rw at at all)
        by later (Some o) at (k ∷ ks) [] all = absurd (rw at at all)
        by later (Some o) at (k ∷ ks) (i ∷ is) all = let h = rw at at all in rw (at, h.0) (ap (λ (rest : List (List ℕ)). e.0 ∷ rest) (later ks is h.2))

    -- The documents of a key that is requested.
    docs_copied : (es : List TermEntry) (ks : List (List ℕ)) (is : List TermInfo) → Copied es ks is → (key : List ℕ) (wanted option : IndexRecordOption) → requested key ≡ Some wanted → serves option wanted ≡ true
        → docs_kept option part (info_under key (zip ks is)) ≡ docs_kept option whole (info_under key es)
    docs_copied [] [] [] all key wanted option asked served = refl
    docs_copied [] [] (i ∷ is) all key wanted option asked served = absurd all
    docs_copied [] (k ∷ ks) is all key wanted option asked served = absurd all
    docs_copied (e ∷ es) ks is all key wanted option asked served =
        by (λ ls js rest. docs_copied es ls js rest key wanted option asked served) (requested e.0) refl (bytes_eq key e.0) refl ks is all
      where
        here : bytes_eq key e.0 ≡ true → key ≡ e.0
        here same = (bytes_eq-Decides key e.0).0 same

        by : ((ls : List (List ℕ)) (js : List TermInfo) → Copied es ls js → docs_kept option part (info_under key (zip ls js)) ≡ docs_kept option whole (info_under key es))
            → (r : Option IndexRecordOption) → requested e.0 ≡ r → (b : Bool) → bytes_eq key e.0 ≡ b → (ks : List (List ℕ)) (is : List TermInfo) → Copied (e ∷ es) ks is
            → docs_kept option part (info_under key (zip ks is)) ≡ docs_kept option whole (info_under key (e ∷ es))
        by later None at true same ks is all =
            let none : requested key ≡ None = ap requested (here same) ∙ at in
            absurd (cc)
        by later None at false other ks is all = rw other (later ks is (rw at at all))
        by later (Some o) at b same [] is all = absurd (rw at at all)
        by later (Some o) at b same (k ∷ ks) [] all = absurd (rw at at all)
        by later (Some o) at true same (k ∷ ks) (i ∷ is) all =
            let h = rw at at all in
            let options : Some wanted ≡ Some o = sym asked ∙ ap requested (here same) ∙ at in
            let option_is : wanted ≡ o = cc in
            rw (h.0, same) (same_list (record { key = e.0; info = e.1; option = o }) i option h.1 (subst (λ (r : IndexRecordOption). serves option r ≡ true) option_is served))
        by later (Some o) at false other (k ∷ ks) (i ∷ is) all =
            let h = rw at at all in
            rw (h.0, other) (later ks is h.2)

    -- So the reader over copies is part of the other one.
    pub is_part : (ks : List (List ℕ)) (is : List TermInfo) → Copied whole.terms ks is → part.terms ≡ zip ks is → part.num_tokens ≡ whole.num_tokens → IsPartOf requested part whole
    is_part ks is all terms counted = record {
      keys = ap entry_keys terms ∙ keys_copied whole.terms ks is all;
      docs = λ key wanted option asked served. ap (λ (es : List TermEntry). docs_kept option part (info_under key es)) terms ∙ docs_copied whole.terms ks is all key wanted option asked served;
      option = same_option;
      num_tokens = counted;
    }
