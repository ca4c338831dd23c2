-- What is read from a store.
use Rattle.std.proofs.lemmas.Bool.{and_parts}
use Rattle.std.proofs.Common.{◌≡◌, ℕ, ◌/◌, ◌%◌, ◌<◌, Bool, true, false, ◌&&◌, List, length, map, Option, Some, None, refl, sym, ap, ◌∙◌, arith}
use Rattle.std.specs.Prelude.{IsSome, slice_get}
use Rattle.std.specs.List.{list_all, range_with_len}
use Rattle.std.proofs.lemmas.List.FromFn.{length-map-range_with_len, get_or-map-range_with_len}
use Rattle.std.proofs.lemmas.Option.{slice_get-get_or}
use Rattle.ii_io.specs.Steps.{◌>>=◌, needs}
use Rattle.ii_termstore.specs.declared.term_info.TermInfo.{TermInfo}
use Rattle.ii_termstore.specs.declared.term_info_store.block_meta.TermInfoBlockMeta.{TermInfoBlockMeta as Meta}
use Rattle.ii_termstore.specs.TermInfos.{is_sound}
use Rattle.ii_termstore.specs.TermStore.{block_info, block_count, block_terms, widths_fit, bits_lie, is_block, block_meta_at, has_block, are_blocks, term_info_at, store_parts, term_store}
use Rattle.ii_termstore.proofs.ListLemmas.{all_at, not_all}

-- What a valid block meets.
pub block_parts : (m : Meta) (terms : ℕ) (bits : List ℕ) → is_block m terms bits ≡ true
    → (widths_fit m ≡ true) × (bits_lie m terms (length bits) ≡ true) × (list_all (λ k. is_sound (block_info m bits k)) (range_with_len 0 terms) ≡ true)
unfolding is_block
block_parts m terms bits h =
    let all = and_parts (widths_fit m && bits_lie m terms (length bits)) (list_all (λ k. is_sound (block_info m bits k)) (range_with_len 0 terms)) h in
    let two = and_parts (widths_fit m) (bits_lie m terms (length bits)) all.0 in
    (two.0, two.1, all.1)

pub valid_block : (metas bits : List ℕ) (terms b : ℕ) (m : Meta) → are_blocks terms metas bits ≡ true → b < block_count terms → Some m ≡ block_meta_at metas b → is_block m (block_terms terms b) bits ≡ true
valid_block metas bits terms b m all within found =
    let one = all_at (has_block metas bits terms) (block_count terms) b within all in
    rw (← found) at one

pub valid_meta : (metas bits : List ℕ) (terms b : ℕ) → are_blocks terms metas bits ≡ true → b < block_count terms → None ≡ block_meta_at metas b → ⊥
valid_meta metas bits terms b all within none =
    let one = all_at (has_block metas bits terms) (block_count terms) b within all in
    let no_meta = rw (← none) at one in
    cc

pub term_info_at-is : (metas bits : List ℕ) (i : ℕ) (m : Meta) → Some m ≡ block_meta_at metas (i / 256) → term_info_at metas bits i ≡ block_info m bits (i % 256)
unfolding term_info_at
term_info_at-is metas bits i m found = rw (← found) refl

-- the block of a term
pub block_within : (i terms : ℕ) → i < terms → i / 256 < block_count terms
block_within i terms h = omega arith

pub term_within : (i terms : ℕ) → i < terms → i % 256 < block_terms terms (i / 256)
term_within i terms h = omega arith

-- a block that is not valid
pub not_valid : (metas bits : List ℕ) (terms b : ℕ) → b < block_count terms → has_block metas bits terms b ≡ false → false ≡ are_blocks terms metas bits
not_valid metas bits terms b within h = sym (not_all (has_block metas bits terms) (block_count terms) b within h)

-- What a store holds, by its parts.
abbrev held : Bool → ℕ → List ℕ → List ℕ → Option (List TermInfo)
held valid n metas bits = needs valid >>= λ _. Some (map (term_info_at metas bits) (range_with_len 0 n))

store_is : (bytes : List ℕ) (n : ℕ) (metas bits : List ℕ) → Some (n, metas, bits) ≡ store_parts bytes → term_store bytes ≡ held (are_blocks n metas bits) n metas bits
unfolding term_store
store_is bytes n metas bits e = rw (← e) refl

pub no_store : (bytes : List ℕ) → None ≡ store_parts bytes → None ≡ term_store bytes
unfolding term_store
no_store bytes e = rw (← e) refl

pub store_refused : (bytes : List ℕ) (n : ℕ) (metas bits : List ℕ) → Some (n, metas, bits) ≡ store_parts bytes → false ≡ are_blocks n metas bits → None ≡ term_store bytes
store_refused bytes n metas bits e fails = sym (store_is bytes n metas bits e ∙ ap (λ (b : Bool). held b n metas bits) (sym fails))

pub store_opened : (bytes : List ℕ) (n : ℕ) (metas bits : List ℕ) → Some (n, metas, bits) ≡ store_parts bytes → true ≡ are_blocks n metas bits
    → Some (map (term_info_at metas bits) (range_with_len 0 n)) ≡ term_store bytes
store_opened bytes n metas bits e valid = sym (store_is bytes n metas bits e ∙ ap (λ (b : Bool). held b n metas bits) (sym valid))

held_valid : (b : Bool) (n : ℕ) (metas bits : List ℕ) → IsSome (held b n metas bits) → b ≡ true
held_valid true n metas bits h = refl
held_valid false n metas bits h = absurd (cc)

pub store_valid : (bytes : List ℕ) (n : ℕ) (metas bits : List ℕ) → Some (n, metas, bits) ≡ store_parts bytes → IsSome (term_store bytes) → are_blocks n metas bits ≡ true
store_valid bytes n metas bits e h = held_valid (are_blocks n metas bits) n metas bits (rw (store_is bytes n metas bits e) at h)

pub store_missing : (bytes : List ℕ) → None ≡ store_parts bytes → IsSome (term_store bytes) → ⊥
store_missing bytes none h = let is_none = no_store bytes none in let there = rw (← is_none) at h in absurd (cc)

pub length-stored : (n : ℕ) (metas bits : List ℕ) → n ≡ length (map (term_info_at metas bits) (range_with_len 0 n))
length-stored n metas bits = sym (length-map-range_with_len (term_info_at metas bits) 0 n)

pub stored_at : (n i : ℕ) (metas bits : List ℕ) (info : TermInfo) → i < n → info ≡ term_info_at metas bits i → slice_get (map (term_info_at metas bits) (range_with_len 0 n)) i ≡ Some info
stored_at n i metas bits info h e =
    let there : i < length (map (term_info_at metas bits) (range_with_len 0 n)) = rw (length-map-range_with_len (term_info_at metas bits) 0 n) h in
    slice_get-get_or (map (term_info_at metas bits) (range_with_len 0 n)) i info there
    ∙ ap (λ (x : TermInfo). Some x) (get_or-map-range_with_len (term_info_at metas bits) 0 n i i info h (omega arith) ∙ sym e)
