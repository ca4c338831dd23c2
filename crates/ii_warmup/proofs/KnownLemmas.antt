-- A reader over known bodies.
use Rattle.std.proofs.Common.{◌≡◌, ◌∙◌, ℕ, ◌+◌, ◌-◌, ◌≤◌, Bool, true, false, List, [], ◌∷◌, Option, None, Some, drop, length, map, nat_le, take, refl, sym, ap, subst, arith}
use Rattle.std.specs.List.{list_all}
use Rattle.std.proofs.lemmas.Bool.{le-leb, leb-true}
use Rattle.std.proofs.lemmas.List.{take_rest}
use Rattle.ii_io.specs.Numbers.{little_endian, number_at}
use Rattle.ii_base.specs.declared.schema.index_record_option.IndexRecordOption.{IndexRecordOption}
use Rattle.ii_reader.specs.InvertedIndexReader.{InvertedIndexReaderState, reader_over}
use Rattle.ii_termstore.specs.TermInfos.{is_sound}
use Rattle.ii_termdict.specs.Dictionary.{TermEntry}
use Rattle.ii_file_slice.specs.FileSlice.{slice_if}
use Rattle.ii_warmup.specs.Warmup.{WantedTermState, all_lie, all_sound, do_ranges_lie, known_reader, wanted_entries, wanted_view}
use Rattle.ii_warmup.specs.declared.wanted_terms.WantedTerm.{WantedTerm}
use Rattle.ii_warmup.proofs.FinishLemmas.{reader_is}

-- The parts of a reader over known bodies.
pub record KnownParts (terms : List TermEntry) (postings positions : Option (List ℕ)) (option : IndexRecordOption) (whole : InvertedIndexReaderState) : Type 0 where
  pub p : List ℕ
  pub postings_are : postings ≡ Some p
  pub long : 8 ≤ length p
  pub body : whole.postings ≡ drop 8 p
  pub counted : whole.num_tokens ≡ little_endian (take 8 p)
  pub positions_are : positions ≡ Some whole.positions
  pub terms_are : whole.terms ≡ terms
  pub option_is : whole.option ≡ option

long_enough : (terms : List TermEntry) (p q : List ℕ) (option : IndexRecordOption) (whole : InvertedIndexReaderState) (b : Bool) → nat_le 8 (length p) ≡ b → reader_over terms p q option ≡ Some whole → 8 ≤ length p
unfolding number_at
long_enough terms p q option whole true long is = leb-true 8 (length p) long
long_enough terms p q option whole false short is = let none = rw short at is in absurd (cc)

pub known_parts : (terms : List TermEntry) (postings positions : Option (List ℕ)) (option : IndexRecordOption) (whole : InvertedIndexReaderState) → known_reader terms postings positions option ≡ Some whole → KnownParts terms postings positions option whole
known_parts terms None positions option whole is = absurd (cc)
known_parts terms (Some p) None option whole is = absurd (cc)
known_parts terms (Some p) (Some q) option whole is =
    let long = long_enough terms p q option whole (nat_le 8 (length p)) refl is in
    let same = reader_is terms p q option whole long is in
    record {
      p = p;
      postings_are = refl;
      long = long;
      body = ap (λ (r : InvertedIndexReaderState). r.postings) same;
      counted = ap (λ (r : InvertedIndexReaderState). r.num_tokens) same;
      positions_are = ap (λ (r : InvertedIndexReaderState). Some r.positions) (sym same);
      terms_are = ap (λ (r : InvertedIndexReaderState). r.terms) same;
      option_is = ap (λ (r : InvertedIndexReaderState). r.option) same;
    }

-- the body after the number of tokens
pub slice_body : (start len n : ℕ) (file : Option (List ℕ)) (p body : List ℕ) → start ≡ 8 → len ≡ n - 8 → n ≡ length p → 8 ≤ length p → file ≡ Some p → body ≡ drop 8 p → slice_if start len file ≡ Some body
slice_body start len n file p body start_is len_is n_is long file_is body_is =
    let fits : 8 + (length p - 8) ≤ length p = omega arith in
    rw (start_is, len_is, n_is, file_is, body_is, le-leb (8 + (length p - 8)) (length p) fits, take_rest p 8) refl

-- a test of each model
pub all_viewed : {A B : Type 0} (view : A → B) (f : B → Bool) (xs : List A) → list_all f (map view xs) ≡ list_all (λ x. f (view x)) xs
all_viewed view f [] = refl
all_viewed view f (x ∷ xs) = rw (all_viewed view f xs) refl

-- what holds of wanted terms and of those of a dictionary
pub lie_moved : (requested : List ℕ → Option IndexRecordOption) (whole : InvertedIndexReaderState) (option : IndexRecordOption) (wanted : List WantedTerm) → whole.option ≡ option → map wanted_view wanted ≡ wanted_entries requested whole.terms
    → list_all (λ (t : WantedTerm). do_ranges_lie option whole.postings whole.positions (wanted_view t)) wanted ≡ all_lie requested whole
lie_moved requested whole option wanted option_is wanted_is =
    subst (λ (o : IndexRecordOption). list_all (λ (t : WantedTerm). do_ranges_lie o whole.postings whole.positions (wanted_view t)) wanted ≡ all_lie requested whole) option_is
    (sym (all_viewed wanted_view (do_ranges_lie whole.option whole.postings whole.positions) wanted) ∙ ap (list_all (do_ranges_lie whole.option whole.postings whole.positions)) wanted_is)

pub sound_moved : (requested : List ℕ → Option IndexRecordOption) (terms : List TermEntry) (wanted : List WantedTerm) → map wanted_view wanted ≡ wanted_entries requested terms → list_all (λ (t : WantedTerm). is_sound t.info) wanted ≡ all_sound requested terms
sound_moved requested terms wanted wanted_is =
    sym (all_viewed wanted_view (λ (t : WantedTermState). is_sound t.info) wanted) ∙ ap (list_all (λ (t : WantedTermState). is_sound t.info)) wanted_is
