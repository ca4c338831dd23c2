-- The term infos of a dictionary that opens, and those of them that a query requests.
use Rattle.std.proofs.Common.{◌≡◌, ◌∙◌, ℕ, zero, suc, ◌+◌, ◌<◌, ◌/◌, ◌%◌, Bool, true, false, ◌&&◌, ◌||◌, not, List, [], ◌∷◌, Option, None, Some, Ok, Err, eqb, length, map, refl, sym, ap, subst, arith}
use Rattle.std.specs.Prelude.{bytes_eq, if◌then◌else◌}
use Rattle.std.specs.declared.ops.Range.{Range}
use Rattle.std.specs.List.{AllByRecursion, list_all, range_with_len, zip}
use Rattle.std.specs.List.Sorted.{IsStrictlySortedBy}
use Rattle.std.proofs.lemmas.Bool.{le-leb}
use Rattle.std.proofs.lemmas.Slice.Eq.{bytes_eq-Decides}
use Rattle.ii_base.specs.declared.schema.index_record_option.IndexRecordOption.{IndexRecordOption}
use Rattle.ii_io.specs.declared.faults.Part.TheVariants.{Dictionary}
use Rattle.ii_termstore.specs.declared.term_info.TermInfo.{TermInfo}
use Rattle.ii_termstore.specs.declared.term_info_store.block_meta.TermInfoBlockMeta.{TermInfoBlockMeta as Meta}
use Rattle.ii_termstore.specs.TermInfos.{is_sound}
use Rattle.ii_termstore.specs.TermStore.{are_blocks, block_info, block_meta_at, block_terms, store_parts, term_info_at, term_store}
use Rattle.ii_termstore.proofs.ListLemmas.{all_at}
use Rattle.ii_termstore.proofs.StoreLemmas.{block_parts, block_within, no_store, store_opened, store_valid, term_info_at-is, term_within, valid_block, valid_meta}
use Rattle.ii_termdict.specs.Dictionary.{TermEntry, dictionary, entry_keys, info_under, keys_at, with_infos, with_keys}
use Rattle.ii_termdict.specs.ReadBack.{AreAscending}
use Rattle.ii_termdict.proofs.LeastKey.{none_above}
use Rattle.ii_definitions.specs.Files.{LiesIn}
use Rattle.ii_reader.specs.InvertedIndexReader.{lies_in}
use Rattle.ii_warmup.specs.Warmup.{WantedTermState, all_sound, do_ranges_lie, reads_positions_of, wanted_entries}

-- ---- what is stored is sound
-- a term of a store
sound_at : (metas bits : List ℕ) (n i : ℕ) → are_blocks n metas bits ≡ true → i < n → is_sound (term_info_at metas bits i) ≡ true
sound_at metas bits n i valid within = by (block_meta_at metas (i / 256)) refl
  where
    by : (o : Option Meta) → block_meta_at metas (i / 256) ≡ o → is_sound (term_info_at metas bits i) ≡ true
    by None none = absurd (valid_meta metas bits n (i / 256) valid (block_within i n within) (sym none))
    by (Some m) found =
        let block = valid_block metas bits n (i / 256) m valid (block_within i n within) (sym found) in
        let parts = block_parts m (block_terms n (i / 256)) bits block in
        ap (λ (info : TermInfo). is_sound info) (term_info_at-is metas bits i m (sym found))
        ∙ all_at (λ (k : ℕ). is_sound (block_info m bits k)) (block_terms n (i / 256)) (i % 256) (term_within i n within) parts.2

-- the terms of a store from a place on
sound_from : (metas bits : List ℕ) (n first m : ℕ) → are_blocks n metas bits ≡ true → first + m ≡ n → AllByRecursion (λ (info : TermInfo). is_sound info ≡ true) (map (term_info_at metas bits) (range_with_len first m))
sound_from metas bits n first zero valid many = tt
sound_from metas bits n first (suc m) valid many = (sound_at metas bits n first valid (omega (arith, many)), sound_from metas bits n (first + 1) m valid (omega (arith, many)))

-- all terms of a store
store_sound : (bytes : List ℕ) (infos : List TermInfo) → term_store bytes ≡ Some infos → AllByRecursion (λ (info : TermInfo). is_sound info ≡ true) infos
store_sound bytes infos is = by (store_parts bytes) refl
  where
    by : (p : Option (ℕ × List ℕ × List ℕ)) → store_parts bytes ≡ p → AllByRecursion (λ (info : TermInfo). is_sound info ≡ true) infos
    by None none = absurd (let missing = no_store bytes (sym none) in cc)
    by (Some (n, metas, bits)) found =
        let valid = store_valid bytes n metas bits (sym found) (rw is refl) in
        let opened = store_opened bytes n metas bits (sym found) (sym valid) in
        let same : map (term_info_at metas bits) (range_with_len 0 n) ≡ infos = cc in
        subst (λ (xs : List TermInfo). AllByRecursion (λ (info : TermInfo). is_sound info ≡ true) xs) same (sound_from metas bits n 0 n valid (omega arith))

-- Each term info of entries is sound.
abbrev pub AreSoundEntries : List TermEntry → Type 0
AreSoundEntries es = AllByRecursion (λ (e : TermEntry). is_sound e.1 ≡ true) es

zip_sound : (keys : List (List ℕ)) (infos : List TermInfo) → AllByRecursion (λ (info : TermInfo). is_sound info ≡ true) infos → AreSoundEntries (zip keys infos)
zip_sound [] infos all = tt
zip_sound (key ∷ keys) [] all = tt
zip_sound (key ∷ keys) (info ∷ infos) all = (all.0, zip_sound keys infos all.1)

by_infos : (keys : List (List ℕ)) (store : List ℕ) (infos : Option (List TermInfo)) (es : List TermEntry) → term_store store ≡ infos → with_infos keys infos ≡ Ok es → AreSoundEntries es
by_infos keys store None es stored is = absurd (cc)
by_infos keys store (Some infos) es stored is = by (eqb (length infos) (length keys)) is
  where
    by : (b : Bool) → (if b then Ok (zip keys infos) else Err Dictionary) ≡ Ok es → AreSoundEntries es
    by false is = absurd (cc)
    by true is =
        let all : zip keys infos ≡ es = cc in
        subst AreSoundEntries all (zip_sound keys infos (store_sound store infos stored))

-- the entries of a dictionary that opens
pub sound_entries : (bytes : List ℕ) (es : List TermEntry) → dictionary bytes ≡ Ok es → AreSoundEntries es
unfolding dictionary
sound_entries bytes es is = by (keys_at bytes) is
  where
    by : (o : Option (List (List ℕ) × List ℕ)) → with_keys o ≡ Ok es → AreSoundEntries es
    by None is = absurd (cc)
    by (Some (keys, store)) is = by_infos keys store (term_store store) es refl is

-- ---- what holds of each key
-- what is found by its key stands there
pub each_entry : (P : List ℕ → TermInfo → Type 0) (es : List TermEntry) → AreAscending (entry_keys es) → ((key : List ℕ) (info : TermInfo) → info_under key es ≡ Some info → P key info) → AllByRecursion (λ (e : TermEntry). P e.0 e.1) es
unfolding IsStrictlySortedBy
each_entry P [] ascending each = tt
each_entry P (e ∷ es) ascending each = (each e.0 e.1 here, each_entry P es ascending.1 (λ key info found. each key info (later key info found)))
  where
    same : bytes_eq e.0 e.0 ≡ true
    same = (bytes_eq-Decides e.0 e.0).1 refl

    here : info_under e.0 (e ∷ es) ≡ Some e.1
    here = rw same refl

    later : (key : List ℕ) (info : TermInfo) → info_under key es ≡ Some info → info_under key (e ∷ es) ≡ Some info
    later key info found = by (bytes_eq key e.0) refl
      where
        by : (b : Bool) → bytes_eq key e.0 ≡ b → info_under key (e ∷ es) ≡ Some info
        by false other = rw other found
        by true equal =
            let key_is : key ≡ e.0 = (bytes_eq-Decides key e.0).0 equal in
            let none : info_under key es ≡ None = subst (λ (k : List ℕ). info_under k es ≡ None) (sym key_is) (none_above e.0 es ascending.0) in
            absurd (cc)

-- what holds of each entry, whatever is requested, holds of each wanted term
pub each_wanted : (f : WantedTermState → Bool) (requested : List ℕ → Option IndexRecordOption) (es : List TermEntry) → AllByRecursion (λ (e : TermEntry). (o : IndexRecordOption) → f (record { key = e.0; info = e.1; option = o }) ≡ true) es
    → list_all f (wanted_entries requested es) ≡ true
each_wanted f requested [] all = refl
each_wanted f requested (e ∷ es) all = by (requested e.0) refl (each_wanted f requested es all.1)
  where
    by : (o : Option IndexRecordOption) → requested e.0 ≡ o → list_all f (wanted_entries requested es) ≡ true → list_all f (wanted_entries requested (e ∷ es)) ≡ true
    by None is others = rw is others
    by (Some o) is others = rw (is, all.0 o) others

-- a range within bytes
lies : (bytes : List ℕ) (range : Range ℕ) → LiesIn bytes range → lies_in bytes range ≡ true
lies bytes range within = rw (le-leb range.start range.end within.0, le-leb range.end (length bytes) within.1) refl

both_lie : (reads a b : Bool) → a ≡ true → b ≡ true → (a && (not reads || b)) ≡ true
both_lie false a b first second = rw first refl
both_lie true a b first second = rw (first, second) refl

-- the ranges of a term within two bodies
pub term_lies : (option : IndexRecordOption) (postings positions : List ℕ) (t : WantedTermState) → LiesIn postings t.info.postings_range → LiesIn positions t.info.positions_range → do_ranges_lie option postings positions t ≡ true
term_lies option postings positions t in_postings in_positions =
    both_lie (reads_positions_of option t) (lies_in postings t.info.postings_range) (lies_in positions t.info.positions_range) (lies postings t.info.postings_range in_postings) (lies positions t.info.positions_range in_positions)

sound_whatever : (es : List TermEntry) → AreSoundEntries es → AllByRecursion (λ (e : TermEntry). (o : IndexRecordOption) → is_sound e.1 ≡ true) es
sound_whatever [] all = tt
sound_whatever (e ∷ es) all = (λ o. all.0, sound_whatever es all.1)

-- the infos of the wanted terms
pub wanted_sound : (requested : List ℕ → Option IndexRecordOption) (es : List TermEntry) → AreSoundEntries es → all_sound requested es ≡ true
wanted_sound requested es all = each_wanted (λ (t : WantedTermState). is_sound t.info) requested es (sound_whatever es all)
