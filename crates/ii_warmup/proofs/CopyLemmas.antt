-- The bytes of copied terms.
use Rattle.std.proofs.Common.{◌≡◌, ◌∙◌, ℕ, ◌+◌, ◌-◌, true, List, [], ◌∷◌, ◌++◌, Option, Some, length, nat_le, refl, sym, subst, arith, length-append}
use Rattle.std.specs.Prelude.{⊤}
use Rattle.std.specs.declared.ops.Range.{Range}
use Rattle.std.proofs.Math.Seq.{drop-append_seam, take-append_seam, take-length}
use Rattle.std.proofs.lemmas.Bool.{and_parts, leb-true, le-leb}
use Rattle.bytes.proofs.Ranges.{slice_range_front}
use Rattle.ii_base.specs.declared.schema.index_record_option.IndexRecordOption.{IndexRecordOption}
use Rattle.ii_definitions.specs.Files.{bytes_in}
use Rattle.ii_reader.specs.InvertedIndexReader.{lies_in}
use Rattle.ii_termstore.specs.declared.term_info.TermInfo.{TermInfo}
use Rattle.ii_termstore.specs.TermInfos.{term_info_from}
use Rattle.ii_warmup.specs.CopiedTerms.{CopiedTermsState}
use Rattle.ii_warmup.specs.Warmup.{CopiesTerm, IsRangeOf, WantedTermState, reads_positions_of}

-- The bytes in a range of a body are those of a range of known bytes.
pub record IsHeld (known : Option (List ℕ)) (range : Range ℕ) (body : List ℕ) (held : Range ℕ) : Type 0 where
  pub lies : lies_in body held ≡ true
  pub lay : (bs : List ℕ) → known ≡ Some bs → lies_in bs range ≡ true
  pub same : (bs : List ℕ) → known ≡ Some bs → bytes_in body held ≡ bytes_in bs range

-- bytes at the end of a body
at_end : (body read : List ℕ) → bytes_in (body ++ read) (record { start = length body; end = length body + length read }) ≡ read
at_end body read =
    let size : length body + length read - length body ≡ length read = omega arith in
    rw (drop-append_seam body read, size) (take-length read)

held_at_end : (known : Option (List ℕ)) (range : Range ℕ) (body read : List ℕ) → IsRangeOf known range read → IsHeld known range (body ++ read) (record { start = length body; end = length body + length read })
held_at_end known range body read r = record {
  lies = rw (le-leb (length body) (length body + length read) (omega arith), le-leb (length body + length read) (length (body ++ read)) (omega (arith, length-append body read))) refl;
  lay = r.lies;
  same = λ bs is. at_end body read ∙ r.same bs is;
}

-- more bytes after them
lies_more : (body more : List ℕ) (held : Range ℕ) → lies_in body held ≡ true → lies_in (body ++ more) held ≡ true
lies_more body more held lies =
    let h = and_parts (nat_le held.start held.end) (nat_le held.end (length body)) lies in
    rw (h.0, le-leb held.end (length (body ++ more)) (omega (arith, leb-true held.end (length body) h.1, length-append body more))) refl

same_more : (body more : List ℕ) (held : Range ℕ) → lies_in body held ≡ true → bytes_in (body ++ more) held ≡ bytes_in body held
same_more body more held lies =
    let h = and_parts (nat_le held.start held.end) (nat_le held.end (length body)) lies in
    sym (slice_range_front body (body ++ more) held.start held.end (length body) (take-append_seam body more) (leb-true held.end (length body) h.1))

held_more : (known : Option (List ℕ)) (range : Range ℕ) (body more : List ℕ) (held : Range ℕ) → IsHeld known range body held → IsHeld known range (body ++ more) held
held_more known range body more held h = record { lies = lies_more body more held h.lies; lay = h.lay; same = λ bs is. same_more body more held h.lies ∙ h.same bs is }

module _ (option : IndexRecordOption) (from_postings from_positions : Option (List ℕ)) where
  -- A term info describes the copy of a term.
  pub record IsCopy (postings positions : List ℕ) (t : WantedTermState) (i : TermInfo) : Type 0 where
    pub doc_freq : i.doc_freq ≡ t.info.doc_freq
    pub docs : IsHeld from_postings t.info.postings_range postings i.postings_range
    pub positions_are : reads_positions_of option t ≡ true → IsHeld from_positions t.info.positions_range positions i.positions_range

  -- Keys and term infos are those of the copies of terms.
  abbrev pub AreCopies : List ℕ → List ℕ → List WantedTermState → List (List ℕ) → List TermInfo → Type 0
  AreCopies postings positions [] [] [] = ⊤
  AreCopies postings positions (t ∷ ts) (k ∷ ks) (i ∷ is) = (k ≡ t.key) × IsCopy postings positions t i × AreCopies postings positions ts ks is
  AreCopies postings positions ts ks is = ⊥

  copy_more : (postings positions more more_positions : List ℕ) (t : WantedTermState) (i : TermInfo) → IsCopy postings positions t i → IsCopy (postings ++ more) (positions ++ more_positions) t i
  copy_more postings positions more more_positions t i c = record {
    doc_freq = c.doc_freq;
    docs = held_more from_postings t.info.postings_range postings more i.postings_range c.docs;
    positions_are = λ reads. held_more from_positions t.info.positions_range positions more_positions i.positions_range (c.positions_are reads);
  }

  copies_more : (postings positions more more_positions : List ℕ) (ts : List WantedTermState) (ks : List (List ℕ)) (is : List TermInfo) (t : WantedTermState) (i : TermInfo) → AreCopies postings positions ts ks is
      → IsCopy (postings ++ more) (positions ++ more_positions) t i → AreCopies (postings ++ more) (positions ++ more_positions) (ts ++ t ∷ []) (ks ++ t.key ∷ []) (is ++ i ∷ [])
  copies_more postings positions more more_positions [] [] [] t i all last = (refl, last, tt)
  copies_more postings positions more more_positions (u ∷ ts) (k ∷ ks) (j ∷ is) t i all last =
      (all.0, copy_more postings positions more more_positions u j all.1, copies_more postings positions more more_positions ts ks is t i all.2 last)
  copies_more postings positions more more_positions [] [] (j ∷ is) t i all last = absurd all
  copies_more postings positions more more_positions [] (k ∷ ks) [] t i all last = absurd all
  copies_more postings positions more more_positions [] (k ∷ ks) (j ∷ is) t i all last = absurd all
  copies_more postings positions more more_positions (u ∷ ts) [] [] t i all last = absurd all
  copies_more postings positions more more_positions (u ∷ ts) [] (j ∷ is) t i all last = absurd all
  copies_more postings positions more more_positions (u ∷ ts) (k ∷ ks) [] t i all last = absurd all

  -- The copied terms are these.
  abbrev pub HasCopied : List WantedTermState → CopiedTermsState → Type 0
  HasCopied ts s = AreCopies s.postings s.positions ts s.keys s.infos

  -- one more term was copied
  pub copied_more : (ts : List WantedTermState) (t : WantedTermState) (old new : CopiedTermsState) → HasCopied ts old → CopiesTerm option from_postings from_positions t old new → HasCopied (ts ++ t ∷ []) new
  copied_more ts t old new all c =
      let i = term_info_from t.info.doc_freq (length old.postings) (length old.postings + length c.of_docs) (length old.positions) (length old.positions + length c.of_positions) in
      let copy : IsCopy (old.postings ++ c.of_docs) (old.positions ++ c.of_positions) t i = record {
        doc_freq = refl;
        docs = held_at_end from_postings t.info.postings_range old.postings c.of_docs c.docs_are;
        positions_are = λ reads. held_at_end from_positions t.info.positions_range old.positions c.of_positions (c.positions_are reads);
      } in
      subst (HasCopied (ts ++ t ∷ [])) (sym c.copied) (copies_more old.postings old.positions c.of_docs c.of_positions ts old.keys old.infos t i all copy)
