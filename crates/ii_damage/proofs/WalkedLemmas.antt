-- Walks over lists.
use Rattle.std.proofs.Common.{◌≡◌, ◌∙◌, ◌+◌, ◌<◌, ◌≤◌, ◌==◌, ℕ, zero, suc, Bool, true, false, List, [], ◌∷◌, ◌++◌, append-nil, append_assoc, drop, length, min, nat_le, nat_lt, replicate, Option, None, Some, Ok, refl, sym, ap, subst, arith, add-one}
use Rattle.std.specs.Prelude.{Vec, Result, if◌then◌else◌, slice_get}
use Rattle.std.specs.List.{filter_map, flat_map}
use Rattle.std.specs.Option.{option_map, option_or, option_to_list}
use Rattle.std.specs.declared.alloc.Global.{Global}
use Rattle.std.proofs.lemmas.Bool.{lt-ltb}
use Rattle.std.proofs.lemmas.List.{get_or-replicate, length-replicate}
use Rattle.std.proofs.lemmas.List.Concat.{flat_map-cons}
use Rattle.std.proofs.lemmas.List.Sums.{sum_by_push}
use Rattle.std.proofs.lemmas.Option.{slice_get-get_or}
use Rattle.ii_io.specs.declared.faults.Part.{Part}
use Rattle.ii_base.specs.Entries.{Entry}
use Rattle.ii_base.specs.declared.doc_id.TheConstants.{TERMINATED}
use Rattle.ii_docset.specs.Cursor.{IsAscending, doc_at}
use Rattle.ii_docset.proofs.CursorLemmas.{nothing_left}
use Rattle.ii_termstore.specs.declared.term_info.TermInfo.{TermInfo}
use Rattle.ii_termdict.specs.Dictionary.{TermEntry, entry_infos, entry_keys}
use Rattle.ii_termdict.specs.TermStreamer.{TermStreamerState}
use Rattle.ii_reader.specs.InvertedIndexReader.{InvertedIndexReaderState, term_of_file}
use Rattle.ii_reader.specs.SegmentPostings.{SegmentPostingsState}
use Rattle.ii_base.specs.declared.schema.index_record_option.IndexRecordOption.{IndexRecordOption}
use Rattle.ii_reader.proofs.JsonLemmas.{entry_at, none_past}
use Rattle.ii_damage.specs.declared.damage.Damage.{Damage}
use Rattle.ii_damage.specs.declared.damage.FieldPlaces.{FieldPlaces}
use Rattle.ii_damage.specs.declared.walking.TermWalk.{TermWalk}
use Rattle.ii_damage.specs.Damages.{FoundDamageState, entries_read, field_entries, list_damage, of_term, stray_in, term_damage, term_damages, term_entries, num_occurrences, tokens_of_doc, max_u32, max_u64, max_u128}
use Rattle.ii_damage.specs.Walked.{HasWalked, total_positions, count_with}

-- nothing is counted before the first list
pub none_walked : (n : ℕ) (counts : Vec ℕ Global) → counts.items ≡ replicate n 0 → HasWalked n [] (record { counts = counts; tokens = 0; postings = 0; positions = 0 })
none_walked n counts is = record {
  tokens = refl;
  postings = refl;
  positions = refl;
  counts = record {
    many = ap length is ∙ length-replicate {A = ℕ} n 0;
    each = λ doc low.
        let inside : doc < length (replicate n 0) = rw (length-replicate {A = ℕ} n 0) low in
        ap (λ (l : List ℕ). slice_get l doc) is ∙ slice_get-get_or (replicate n 0) doc 0 inside ∙ ap (λ (c : ℕ). Some c) (get_or-replicate {A = ℕ} n doc 0 0 low);
  };
}

-- the count of a document after one more entry
raised_by : (es : List Entry) (e : Entry) (doc : ℕ) → count_with e.doc e.term_freq doc (min (tokens_of_doc doc es) max_u32) ≡ min (tokens_of_doc doc (es ++ e ∷ [])) max_u32
raised_by es e doc = by_case (e.doc == doc) refl
  where
    sums : tokens_of_doc doc (es ++ e ∷ []) ≡ tokens_of_doc doc es + (if e.doc == doc then e.term_freq else 0)
    sums = sum_by_push (λ (x : Entry). if x.doc == doc then x.term_freq else 0) es e

    by_case : (b : Bool) → (e.doc == doc) ≡ b → count_with e.doc e.term_freq doc (min (tokens_of_doc doc es) max_u32) ≡ min (tokens_of_doc doc (es ++ e ∷ [])) max_u32
    by_case true same =
        let all : tokens_of_doc doc (es ++ e ∷ []) ≡ tokens_of_doc doc es + e.term_freq = rw same at sums in
        let capped : min (min (tokens_of_doc doc es) max_u32 + e.term_freq) max_u32 ≡ min (tokens_of_doc doc es + e.term_freq) max_u32 = omega arith in
        rw (same, all) capped
    by_case false other =
        let all : tokens_of_doc doc (es ++ e ∷ []) ≡ tokens_of_doc doc es + 0 = rw other at sums in
        let same : tokens_of_doc doc es + 0 ≡ tokens_of_doc doc es = omega arith in
        rw (other, all, same) refl

-- one more entry is counted
pub one_walked : (n : ℕ) (es : List Entry) (e : Entry) (old new : TermWalk) → new.tokens ≡ min (old.tokens + e.term_freq) max_u128 → new.postings ≡ min (old.postings + 1) max_u64
    → new.positions ≡ min (old.positions + length e.positions) max_u64 → length new.counts.items ≡ length old.counts.items
    → ((d : ℕ) → slice_get new.counts.items d ≡ option_map (count_with e.doc e.term_freq d) (slice_get old.counts.items d)) → HasWalked n es old → HasWalked n (es ++ e ∷ []) new
one_walked n es e old new tokens postings positions many counts walked = record {
  tokens =
      let all : num_occurrences (es ++ e ∷ []) ≡ num_occurrences es + e.term_freq = sum_by_push (λ (x : Entry). x.term_freq) es e in
      let before = walked.tokens in
      omega (arith, tokens, all, before);
  postings =
      let all : length (es ++ e ∷ []) ≡ length es + 1 = one_longer es in
      let before = walked.postings in
      omega (arith, postings, all, before);
  positions =
      let all : total_positions (es ++ e ∷ []) ≡ total_positions es + length e.positions = sum_by_push (λ (x : Entry). length x.positions) es e in
      let before = walked.positions in
      omega (arith, positions, all, before);
  counts = record {
    many = many ∙ walked.counts.many;
    each = λ doc low. counts doc ∙ ap (option_map (count_with e.doc e.term_freq doc)) (walked.counts.each doc low) ∙ ap (λ (c : ℕ). Some c) (raised_by es e doc);
  };
}
  where
    one_longer : (xs : List Entry) → length (xs ++ e ∷ []) ≡ length xs + 1
    one_longer [] = refl
    one_longer (x ∷ xs) = let ih = one_longer xs in omega (arith, ih)

-- What a walk of a list knows: the entries so far, in front of those that are left, are the list, and so are the documents that are not in the index.
pub record IsWalkingList (num_docs doc_freq i : ℕ) (list rest : List Entry) (stray : Option ℕ) (old now : TermWalk) : Type 0 where
  pub done : List Entry
  pub whole : list ≡ done ++ rest
  pub found : stray_in num_docs list ≡ option_or stray (stray_in num_docs rest)
  pub many : length rest + i ≡ doc_freq
  pub walked : (n : ℕ) (es : List Entry) → HasWalked n es old → HasWalked n (es ++ done) now

-- A walk of a list counted it, and found its first document that is not in the index.
pub record WalksList (num_docs : ℕ) (list : List Entry) (stray : Option ℕ) (old now : TermWalk) : Type 0 where
  pub found : stray ≡ stray_in num_docs list
  pub walked : (n : ℕ) (es : List Entry) → HasWalked n es old → HasWalked n (es ++ list) now

strays_on : (num_docs : ℕ) (e : Entry) (more : List Entry) (stray : Option ℕ)
    → option_or stray (stray_in num_docs (e ∷ more)) ≡ option_or (option_or stray (if nat_le num_docs e.doc then Some e.doc else None)) (stray_in num_docs more)
strays_on num_docs e more stray = by_case (nat_le num_docs e.doc) refl stray
  where
    by_case : (b : Bool) → nat_le num_docs e.doc ≡ b → (stray : Option ℕ)
        → option_or stray (stray_in num_docs (e ∷ more)) ≡ option_or (option_or stray (if nat_le num_docs e.doc then Some e.doc else None)) (stray_in num_docs more)
    by_case true is None = rw is refl
    by_case true is (Some doc) = refl
    by_case false is None = rw is refl
    by_case false is (Some doc) = refl

-- one entry more
pub list_next : (num_docs doc_freq i doc : ℕ) (list rest left : List Entry) (stray next : Option ℕ) (old now then_now : TermWalk) → doc ≡ doc_at rest → doc < TERMINATED
    → next ≡ option_or stray (if nat_le num_docs doc then Some doc else None)
    → ((n : ℕ) (es more : List Entry) (e : Entry) → rest ≡ e ∷ more → doc ≡ e.doc → HasWalked n es now → HasWalked n (es ++ e ∷ []) then_now)
    → left ≡ drop 1 rest → IsWalkingList num_docs doc_freq i list rest stray old now → IsWalkingList num_docs doc_freq (i + 1) list left next old then_now
list_next num_docs doc_freq i doc list [] left stray next old now then_now at low next_is counts left_is h = absurd (omega (arith, at, low))
list_next num_docs doc_freq i doc list (e ∷ more) left stray next old now then_now at low next_is counts left_is h = record {
  done = h.done ++ e ∷ [];
  whole = rw left_is (h.whole ∙ sym (append_assoc h.done (e ∷ []) more));
  found = rw (left_is, next_is, at) (h.found ∙ strays_on num_docs e more stray);
  many = rw left_is (let m = h.many in omega (arith, m));
  walked = λ n es walked. subst (λ (xs : List Entry). HasWalked n xs then_now) (append_assoc es h.done (e ∷ [])) (counts n (es ++ h.done) more e refl at (h.walked n es walked));
}

ends : (num_docs doc_freq i : ℕ) (list rest : List Entry) (stray : Option ℕ) (old now : TermWalk) → rest ≡ [] → IsWalkingList num_docs doc_freq i list rest stray old now → WalksList num_docs list stray old now
ends num_docs doc_freq i list rest stray old now none h =
    let whole : list ≡ h.done = h.whole ∙ ap (λ (xs : List Entry). h.done ++ xs) none ∙ append-nil h.done in
    record {
      found = last stray ∙ ap (λ (xs : List Entry). option_or stray (stray_in num_docs xs)) (sym none) ∙ sym h.found;
      walked = λ n es walked. subst (λ (xs : List Entry). HasWalked n (es ++ xs) now) (sym whole) (h.walked n es walked);
    }
  where
    last : (o : Option ℕ) → o ≡ option_or o None
    last None = refl
    last (Some doc) = refl

-- no document is left
pub list_ends : (num_docs doc_freq i doc : ℕ) (list rest : List Entry) (stray : Option ℕ) (old now : TermWalk) → doc ≡ doc_at rest → TERMINATED ≤ doc → IsAscending rest
    → IsWalkingList num_docs doc_freq i list rest stray old now → WalksList num_docs list stray old now
list_ends num_docs doc_freq i doc list rest stray old now at end ascending h = ends num_docs doc_freq i list rest stray old now (sym (nothing_left rest ascending (rw at at end))) h

pub list_over : (num_docs doc_freq i : ℕ) (list rest : List Entry) (stray : Option ℕ) (old now : TermWalk) → doc_freq ≤ i → IsWalkingList num_docs doc_freq i list rest stray old now → WalksList num_docs list stray old now
list_over num_docs doc_freq i list rest stray old now end h = ends num_docs doc_freq i list rest stray old now (none rest (let m = h.many in omega (arith, m, end))) h
  where
    none : (xs : List Entry) → length xs ≡ 0 → xs ≡ []
    none [] is = refl
    none (x ∷ xs) is = absurd (omega (arith, is))

-- What a walk of the terms of a field knows: the damages and the entries so far, in front of those of the terms that are left, are all.
pub record IsWalkingTerms (num_docs : ℕ) (places : FieldPlaces) (reader : InvertedIndexReaderState) (terms : TermStreamerState) (ord : ℕ) (found : List FoundDamageState) (old now : TermWalk) : Type 0 where
  pub terms_are : terms ≡ record { entries = reader.terms; passed = ord }
  pub found_are : term_damages num_docs places reader ≡ found ++ filter_map (term_damage num_docs places reader) (drop ord reader.terms)
  pub done : List Entry
  pub whole : field_entries reader ≡ done ++ flat_map (term_entries reader) (drop ord reader.terms)
  pub walked : (n : ℕ) (es : List Entry) → HasWalked n es old → HasWalked n (es ++ done) now

-- A walk of the terms of a field counted the entries of its lists, and found the damages of its terms.
pub record WalksTerms (num_docs : ℕ) (places : FieldPlaces) (reader : InvertedIndexReaderState) (found : List FoundDamageState) (old now : TermWalk) : Type 0 where
  pub found_are : found ≡ term_damages num_docs places reader
  pub walked : (n : ℕ) (es : List Entry) → HasWalked n es old → HasWalked n (es ++ field_entries reader) now

pub terms_first : (num_docs : ℕ) (places : FieldPlaces) (reader : InvertedIndexReaderState) (terms : TermStreamerState) (old : TermWalk) → terms ≡ record { entries = reader.terms; passed = 0 }
    → IsWalkingTerms num_docs places reader terms 0 [] old old
terms_first num_docs places reader terms old are = record {
  terms_are = are;
  found_are = refl;
  done = [];
  whole = refl;
  walked = λ n es walked. subst (λ (xs : List Entry). HasWalked n xs old) (sym (append-nil es)) walked;
}

found_on : (f : TermEntry → Option FoundDamageState) (e : TermEntry) (es : List TermEntry) (found : List FoundDamageState) (o : Option FoundDamageState) → f e ≡ o
    → found ++ filter_map f (e ∷ es) ≡ (found ++ option_to_list o) ++ filter_map f es
found_on f e es found None is = rw is (ap (λ (l : List FoundDamageState). l ++ filter_map f es) (sym (append-nil found)))
found_on f e es found (Some d) is = rw is (sym (append_assoc found (d ∷ []) (filter_map f es)))

-- one term more
pub terms_next : (num_docs : ℕ) (places : FieldPlaces) (reader : InvertedIndexReaderState) (terms next : TermStreamerState) (ord : ℕ) (key : List ℕ) (info : TermInfo) (found more : List FoundDamageState) (damage : Option Damage) (old now then_now : TermWalk)
    → ord < length reader.terms → Some key ≡ slice_get (entry_keys terms.entries) terms.passed → Some info ≡ slice_get (entry_infos terms.entries) terms.passed
    → next ≡ record terms { passed = if nat_lt terms.passed (length terms.entries) then terms.passed + 1 else terms.passed }
    → damage ≡ list_damage num_docs (term_of_file reader reader.option info) → more ≡ found ++ option_to_list (option_map (of_term places key info) damage)
    → ((n : ℕ) (es : List Entry) → HasWalked n es now → HasWalked n (es ++ entries_read (term_of_file reader reader.option info)) then_now)
    → IsWalkingTerms num_docs places reader terms ord found old now → IsWalkingTerms num_docs places reader next (ord + 1) more old then_now
terms_next num_docs places reader terms next ord key info found more damage old now then_now low key_is info_is next_is damage_is more_is counts h =
    let key_at : Some key ≡ slice_get (entry_keys reader.terms) ord = rw h.terms_are at key_is in
    let info_at : Some info ≡ slice_get (entry_infos reader.terms) ord = rw h.terms_are at info_is in
    let left = entry_at reader.terms ord key info (sym key_at) (sym info_at) in
    let f = term_damage num_docs places reader in
    let here : f (key, info) ≡ option_map (of_term places key info) damage = ap (option_map (of_term places key info)) (sym damage_is) in
    let passed : next ≡ record { entries = reader.terms; passed = if nat_lt ord (length reader.terms) then ord + 1 else ord } = rw h.terms_are at next_is in
    record {
      terms_are = passed ∙ (let e = lt-ltb ord (length reader.terms) low in rw e refl);
      found_are = rw (add-one, more_is) (h.found_are ∙ ap (λ (l : List TermEntry). found ++ filter_map f l) left ∙ found_on f (key, info) (drop (suc ord) reader.terms) found (option_map (of_term places key info) damage) here);
      done = h.done ++ term_entries reader (key, info);
      whole = rw add-one (h.whole ∙ ap (λ (l : List TermEntry). h.done ++ flat_map (term_entries reader) l) left
          ∙ ap (λ (l : List Entry). h.done ++ l) (flat_map-cons (term_entries reader) (key, info) (drop (suc ord) reader.terms))
          ∙ sym (append_assoc h.done (term_entries reader (key, info)) (flat_map (term_entries reader) (drop (suc ord) reader.terms))));
      walked = λ n es walked. subst (λ (xs : List Entry). HasWalked n xs then_now) (append_assoc es h.done (term_entries reader (key, info))) (counts n (es ++ h.done) (h.walked n es walked));
    }

-- no term is left
pub terms_over : (num_docs : ℕ) (places : FieldPlaces) (reader : InvertedIndexReaderState) (terms : TermStreamerState) (ord : ℕ) (found : List FoundDamageState) (old now : TermWalk) → length reader.terms ≤ ord
    → IsWalkingTerms num_docs places reader terms ord found old now → WalksTerms num_docs places reader found old now
terms_over num_docs places reader terms ord found old now end h =
    let none = drop-end ord reader.terms end in
    let all : term_damages num_docs places reader ≡ found = h.found_are ∙ ap (λ (l : List TermEntry). found ++ filter_map (term_damage num_docs places reader) l) none ∙ append-nil found in
    let whole : field_entries reader ≡ h.done = h.whole ∙ ap (λ (l : List TermEntry). h.done ++ flat_map (term_entries reader) l) none ∙ append-nil h.done in
    record { found_are = sym all; walked = λ n es walked. subst (λ (xs : List Entry). HasWalked n (es ++ xs) now) (sym whole) (h.walked n es walked) }
  where
    drop-end : (i : ℕ) (es : List TermEntry) → length es ≤ i → drop i es ≡ []
    drop-end zero [] h = refl
    drop-end (suc i) [] h = refl
    drop-end zero (e ∷ es) h = absurd (omega (arith, h))
    drop-end (suc i) (e ∷ es) h = drop-end i es (omega (arith, h))

-- a list that opens is that of its term
pub walked_by : (reader : InvertedIndexReaderState) (option : IndexRecordOption) (info : TermInfo) (cursor : SegmentPostingsState) (old now : TermWalk) → option ≡ reader.option → term_of_file reader option info ≡ Ok cursor.rest
    → ((n : ℕ) (es : List Entry) → HasWalked n es old → HasWalked n (es ++ cursor.rest) now) → (n : ℕ) (es : List Entry) → HasWalked n es old → HasWalked n (es ++ entries_read (term_of_file reader reader.option info)) now
walked_by reader option info cursor old now option_is opens counts n es walked =
    let list : term_of_file reader reader.option info ≡ Ok cursor.rest = rw option_is at opens in
    subst (λ (found : Result (List Entry) Part). HasWalked n (es ++ entries_read found) now) (sym list) (counts n es walked)
