-- The files of one number hold its token.
use Rattle.std.proofs.Common.{◌≡◌, ℕ, Bool, true, false, List, [], ◌∷◌, ◌++◌, Ok, None, Some, length, nat_eq, refl, sym, arith}
use Rattle.std.specs.Prelude.{MatchOption, bytes_eq, replicate}
use Rattle.std.proofs.lemmas.Bool.{eqb-true}
use Rattle.std.proofs.lemmas.Cmp.{nat_list_eq_equiv}
use Rattle.ii_io.specs.Numbers.{le_bytes, number_at}
use Rattle.ii_io.specs.Vints.{u32_at, u64_at, vint_u32, vint_u64}
use Rattle.ii_io.specs.Composite.{Body, body_of, composite, place_at, place_bytes, written_composite}
use Rattle.ii_base.specs.declared.schema.index_record_option.IndexRecordOption.TheVariants.{Basic, WithFreqs, WithFreqsAndPositions}
use Rattle.ii_base.specs.declared.schema.index_record_option.IndexRecordOption.{IndexRecordOption}
use Rattle.ii_base.specs.AsciiWords.{ascii_words}
use Rattle.ii_base.specs.Values.{u64_bytes}
use Rattle.ii_termstore.specs.declared.term_info.TermInfo.{TermInfo}
use Rattle.ii_termstore.specs.TermInfos.{info_at, info_bytes, term_info_from}
use Rattle.ii_codes.specs.Packed.{bits_in, entries_in, num_bits}
use Rattle.ii_codes.specs.Bits.{bits_bytes}
use Rattle.ii_termstore.specs.TermStore.{block_meta_at, is_block, later_info, meta_at, meta_bytes, store_parts, term_info_at, term_store}
use Rattle.ii_termstore.specs.Written.{bits_of_block, meta_at_block, meta_for, written_store}
use Rattle.ii_termdict.specs.Dictionary.{dictionary, end_of, info_under, key_parts, keys_at}
use Rattle.ii_termdict.specs.Written.{written_dictionary}
use Rattle.ii_layout.specs.TermList.{term_list}
use Rattle.ii_layout.specs.Written.{written_postings}
use Rattle.ii_definitions.specs.Files.{HasField, HoldTokens, HoldsField, HoldsTerm}
use Rattle.ii_definitions.specs.Postings.{key_postings, occurs}
use Rattle.ii_definitions.specs.Tokens.{IndexToken, value, tokens_of}

-- one call, with the number 5
abbrev tokens : List IndexToken
tokens = tokens_of ascii_words (record { doc = 0; field = 0; content = value (u64_bytes 5) } ∷ [])

abbrev info : TermInfo
info = term_info_from 1 0 1 0 0

-- the bodies of its field: a field without positions has an empty body of them
abbrev terms : List ℕ
terms = written_dictionary (u64_bytes 5 ∷ []) (info ∷ [])

abbrev postings : List ℕ
postings = le_bytes 8 1 ++ written_postings None Basic (0 ∷ []) []

pub number_postings : postings ≡ 1 ∷ replicate 7 0 ++ 0x80 ∷ []
unfolding le_bytes vint_u32 vint_u64
number_postings = refl

pub number_terms : terms ≡ 1 ∷ replicate 7 0 ++ 8 ∷ replicate 7 0 ++ replicate 7 0 ++ 5 ∷ 0x27 ∷ replicate 7 0 ++ 1 ∷ replicate 7 0 ++ replicate 8 0 ++ 1 ∷ replicate 11 0 ++ 1 ∷ replicate 15 0 ++ 0 ∷ 1 ∷ 0 ∷ 1 ∷ []
unfolding written_dictionary written_store meta_at_block meta_for meta_bytes info_bytes le_bytes bits_of_block bits_bytes entries_in bits_in num_bits
number_terms = refl

-- the keys that are read back
pub number_keys : dictionary terms ≡ Ok ((u64_bytes 5, info) ∷ [])
unfolding dictionary keys_at key_parts end_of number_at term_store store_parts block_meta_at meta_at info_at is_block later_info term_info_at
number_keys = rw number_terms refl

abbrev alone : List ℕ → List Body
alone bytes = record { field = 0; bytes = bytes } ∷ []

-- the sizes of the files of terms, postings and positions, and of norms where no field has some
pub number_terms_size : length (written_composite (alone terms)) ≡ 104
unfolding le_bytes place_bytes
number_terms_size = rw number_terms refl

pub number_postings_size : length (written_composite (alone postings)) ≡ 33
unfolding le_bytes place_bytes vint_u32 vint_u64
number_postings_size = refl

pub number_positions_size : length (written_composite (alone [])) ≡ 24
unfolding le_bytes place_bytes
number_positions_size = refl

pub no_norms_size : length (written_composite []) ≡ 4
unfolding le_bytes
no_norms_size = refl

-- what the bytes of its key give
entries_of_key : (key : List ℕ) → bytes_eq (u64_bytes 5) key ≡ true → (requested : IndexRecordOption)
    → term_list Basic requested 1 (0x80 ∷ []) (Some []) ≡ Ok (key_postings Basic 0 key requested tokens)
unfolding u32_at u64_at
entries_of_key key same Basic = rw same refl
entries_of_key key same WithFreqs = rw same refl
entries_of_key key same WithFreqsAndPositions = rw same refl

-- the key occurred, and no other one did
each_key : (key : List ℕ) (b : Bool) → bytes_eq (u64_bytes 5) key ≡ b → bytes_eq key (u64_bytes 5) ≡ b
    → MatchOption (info_under key ((u64_bytes 5, info) ∷ [])) (occurs 0 key tokens ≡ false) (HoldsTerm Basic 0 key (0x80 ∷ []) [] tokens)
each_key key true same found = rw found (record {
  occurred = rw same refl;
  doc_freq = rw same refl;
  postings_range = (omega arith, omega arith);
  positions_range = (omega arith, omega arith);
  lists = entries_of_key key same;
})
each_key key false other missing = rw missing (rw other refl)

holds_field : HoldsField Basic 0 terms postings [] tokens
unfolding number_at
holds_field = record {
  entries = (u64_bytes 5, info) ∷ [];
  postings_body = 0x80 ∷ [];
  counted = rw number_postings refl;
  sorted = number_keys;
  exact = λ key. each_key key (bytes_eq (u64_bytes 5) key) refl (nat_list_eq_equiv.symm key (u64_bytes 5));
}

-- the files are opened
opens_terms : composite (written_composite (alone terms)) ≡ Some (alone terms)
unfolding number_at le_bytes place_at place_bytes
opens_terms = rw number_terms refl

opens_postings : composite (written_composite (alone postings)) ≡ Some (alone postings)
unfolding number_at le_bytes place_at place_bytes vint_u32 vint_u64
opens_postings = refl

opens_positions : composite (written_composite (alone [])) ≡ Some (alone [])
unfolding number_at le_bytes place_at place_bytes
opens_positions = refl

present_alone : (field : ℕ) (bytes : List ℕ) (b : Bool) → nat_eq 0 field ≡ b → HasField field (alone bytes) tokens
present_alone field bytes true same = rw same refl
present_alone field bytes false other = rw other refl

found_alone : (field : ℕ) (bytes found : List ℕ) (b : Bool) → nat_eq 0 field ≡ b → body_of field (alone bytes) ≡ Some found → (field ≡ 0) × (found ≡ bytes)
found_alone field bytes found true same is = (sym (eqb-true 0 field same), let h = rw same at is in cc)
found_alone field bytes found false other is = absurd (let h = rw other at is in cc)

pub files_of_a_number : HoldTokens (λ field. Basic) (written_composite (alone terms)) (written_composite (alone postings)) (written_composite (alone [])) tokens
files_of_a_number = record {
  term_bodies = alone terms;
  postings_bodies = alone postings;
  positions_bodies = alone [];
  opened_terms = opens_terms;
  opened_postings = opens_postings;
  opened_positions = opens_positions;
  present = λ field. (present_alone field terms (nat_eq 0 field) refl, present_alone field postings (nat_eq 0 field) refl, present_alone field [] (nat_eq 0 field) refl);
  fields = λ field t p q ht hp hq.
      let in_terms = found_alone field terms t (nat_eq 0 field) refl ht in
      let in_postings = found_alone field postings p (nat_eq 0 field) refl hp in
      let in_positions = found_alone field [] q (nat_eq 0 field) refl hq in
      rw (in_terms.0, in_terms.1, in_postings.1, in_positions.1) holds_field;
}

-- files without bodies hold no token
pub files_of_nothing : HoldTokens (λ field. Basic) (written_composite []) (written_composite []) (written_composite []) []
unfolding number_at le_bytes
files_of_nothing = record {
  term_bodies = [];
  postings_bodies = [];
  positions_bodies = [];
  opened_terms = refl;
  opened_postings = refl;
  opened_positions = refl;
  present = λ field. (refl, refl, refl);
  fields = λ field t p q found. absurd (cc);
}
