-- Bounds and seeks by count, in other words.
use Rattle.std.proofs.Common.{inl, inr, ◌/◌, ◌^◌, ◌++◌, get_or, length, ◌≡◌, ℕ, ◌*◌, ◌+◌, ◌<◌, ◌≤◌, Bool, true, false, ◌&&◌, ◌==◌, List, [], ◌∷◌, filter, nat_le, min, slice_get, Option, Some, None, option_map, refl, sym, ap, ◌∙◌, arith}
use Rattle.std.specs.List.{list_all}
use Rattle.std.proofs.lemmas.Option.{get_or_from_slice_get}
use Rattle.std.proofs.lemmas.Bool.{eqb-true, ne_eqb}
use Rattle.std.specs.Prelude.{◌⊎◌, IsTrue}
use Rattle.ii_io.specs.StepLemmas.{some-same}
use Rattle.ii_docset.specs.Cursor.{doc_at}
use Rattle.ii_base.specs.Entries.{Entry, are_documents}
use Rattle.ii_base.specs.declared.schema.index_record_option.IndexRecordOption.TheVariants.{WithFreqs}
use Rattle.ii_fieldnorm.specs.Readers.{Norms, id_of_doc}
use Rattle.ii_layout.specs.Documents.{skip_entry}
use Rattle.ii_layout.specs.SkipList.{SkipList, skip_list}
use Rattle.ii_layout.specs.SkipReader.{max_tf_of_code}
use Rattle.ii_layout.specs.Written.{AreFreqs, written_postings}
use Rattle.ii_layout.specs.WrittenBounds.{BoundsWhatIsWritten}
use Rattle.ii_layout.proofs.BlockDocs.{get_or-block_of, length-block_of}
use Rattle.ii_layout.specs.Frequencies.{bounds_counts}
use Rattle.ii_reader.specs.Bounds.{stored_bounds, freq_bound, is_wanted, sought_with_freq}

-- the first that is wanted is the first of all that are
pub first_sought : (target least : ℕ) (es : List Entry) → doc_at (sought_with_freq target least es) ≡ doc_at (filter (λ (e : Entry). nat_le target e.doc && nat_le least e.term_freq) es)
first_sought target least [] = refl
first_sought target least (e ∷ es) = by (is_wanted target least e) refl (first_sought target least es)
  where
    by : (t : Bool) → is_wanted target least e ≡ t → doc_at (sought_with_freq target least es) ≡ doc_at (filter (λ (e : Entry). nat_le target e.doc && nat_le least e.term_freq) es)
        → doc_at (sought_with_freq target least (e ∷ es)) ≡ doc_at (filter (λ (e : Entry). nat_le target e.doc && nat_le least e.term_freq) (e ∷ es))
    by true here later = rw here refl
    by false here later = rw here later

-- a known bound bounds
pub known_bounds : (all : List (ℕ × ℕ)) (block : ℕ) (freqs : List ℕ) (told : Option (ℕ × ℕ)) (b : ℕ × ℕ) → told ≡ option_map stored_bounds (slice_get all block) → told ≡ Some b → 0 < b.1 → b.1 < 255 → bounds_counts (freq_bound all block) freqs ≡ true
    → list_all (λ (c : ℕ). nat_le c b.1) freqs ≡ true
known_bounds all block freqs told b e f some known bounds = by (slice_get all block) refl (sym e ∙ f)
  where
    by : (o : Option (ℕ × ℕ)) → slice_get all block ≡ o → option_map stored_bounds o ≡ Some b → list_all (λ (c : ℕ). nat_le c b.1) freqs ≡ true
    by None found g = absurd (cc)
    by (Some x) found g =
        let both : stored_bounds x ≡ b = some-same g in
        let code : min x.1 255 ≡ b.1 = ap (λ (p : ℕ × ℕ). p.1) both in
        let same : x.1 ≡ b.1 = omega arith in
        let here : freq_bound all block ≡ b.1 = ap (λ (p : ℕ × ℕ). p.1) (get_or_from_slice_get all block x (0, 0) found) ∙ same in
        let nonzero = ne_eqb b.1 0 (λ zero_is. absurd (omega arith)) in
        rw (here, nonzero) at bounds

-- the count of a block's entry, where it isn't 255
below_or_any : (code freq : ℕ) → freq ≤ max_tf_of_code code → (code ≡ 255) ⊎ (freq ≤ code)
below_or_any code freq below = by (code == 255) refl
  where
    by : (b : Bool) → (code == 255) ≡ b → (code ≡ 255) ⊎ (freq ≤ code)
    by true is = inl (eqb-true code 255 is)
    by false is = inr (rw is at below)

-- the bounds of what is written, by indexes in the complete list
pub within_bounds : (norms : Norms) (docs freqs rest : List ℕ) (skip : SkipList) → BoundsWhatIsWritten → IsTrue (are_documents docs) → length docs < 2 ^ 32 → AreFreqs WithFreqs docs freqs
    → skip_list WithFreqs (length docs / 128) (written_postings (Some norms) WithFreqs docs freqs ++ rest) ≡ Some skip → (i k : ℕ) → 128 * i + 128 ≤ length docs → k < 128
    → ((skip_entry skip.entries i).block_wand_fieldnorm_id ≤ id_of_doc norms (get_or docs (128 * i + k) 0))
    × (((skip_entry skip.entries i).block_wand_term_freq ≡ 255) ⊎ (get_or freqs (128 * i + k) 0 ≤ (skip_entry skip.entries i).block_wand_term_freq))
within_bounds norms docs freqs rest skip law are few counts read i k full within =
    let bounds = law norms WithFreqs docs freqs rest skip are few refl counts read i (omega arith) in
    let many = counts.many in
    let docs_many = length-block_of docs i full in
    let freqs_many = length-block_of freqs i (omega arith) in
    let id = rw (get_or-block_of docs i k within) at (bounds.not_above k (omega arith)) in
    let freq = rw (get_or-block_of freqs i k within) at (bounds.not_below k (omega arith)) in
    (id, below_or_any (skip_entry skip.entries i).block_wand_term_freq (get_or freqs (128 * i + k) 0) freq)
