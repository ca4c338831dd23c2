-- Laws of the complete validation of a term's documents.
use Rattle.std.proofs.Common.{◌≡◌, ℕ, zero, suc, ◌+◌, ◌*◌, ◌/◌, ◌<◌, Bool, true, false, ◌&&◌, List, [], ◌∷◌, ◌++◌, length, take, drop, get_or, Option, Some, None, eqb, eq-eqb, min, nat_le, nat_lt, refl, sym, ap, ◌∙◌, arith, is_some}
use Rattle.std.proofs.lemmas.Bool.{eqb-true, ltb-true, and_parts}
use Rattle.std.specs.List.{concat}
use Rattle.std.specs.Option.{option_map}
use Rattle.std.proofs.lemmas.List.{append-nil, take_all}
use Rattle.std.proofs.lemmas.List.Folds.{concat-append}
use Rattle.std.proofs.lemmas.List.FromFn.{length-map-range_with_len}
use Rattle.ii_base.specs.declared.schema.index_record_option.IndexRecordOption.{IndexRecordOption}
use Rattle.ii_io.specs.Steps.{◌>>=◌, needs}
use Rattle.ii_base.specs.declared.doc_id.TheConstants.{TERMINATED}
use Rattle.ii_base.specs.Entries.{ascend_from, are_documents}
use Rattle.ii_base.proofs.AscentLemmas.{least_after, ascend-append, least_after-append, least_after-last}
use Rattle.ii_codes.specs.Blocks.{sorted_block_at}
use Rattle.ii_codes.specs.BlockDecoder.{BlockDecoderState}
use Rattle.ii_codes.specs.SortedVints.{sorted_vints_at}
use Rattle.ii_codes.proofs.LengthLemmas.{length-sorted_block_at}
use Rattle.ii_layout.specs.Each.{each}
use Rattle.ii_layout.specs.declared.skip.BlockInfo.{BlockInfo}
use Rattle.ii_layout.specs.declared.skip.BlockInfo.TheVariants.{BitPacked}
use Rattle.ii_layout.specs.SkipList.{SkipList, entries_at, entry_at, entry_size, block_place}
use Rattle.ii_layout.specs.SkipReader.{SkipReaderState, reader_at, block_info_of}
use Rattle.ii_layout.specs.Documents.{skip_entry, last_doc_before, block_docs, rest_docs, documents_at}
use Rattle.ii_layout.proofs.SkipReaderLemmas.{at_full_block, at_vints}
use Rattle.ii_layout.proofs.DocumentLemmas.{least_at, block_ascends, block_stands, least_of, least_of_all, stands, stands_block, each_gives}
use Rattle.ii_check.specs.Check.{skip_list_of, fits_by, block_fits, after_rest}

-- What the check knows of the blocks before block i.
pub record IsCheckedTo (skip : SkipList) (i least : ℕ) : Type 0 where
  pub blocks : List (List ℕ)
  pub read : each (block_docs skip) i ≡ Some blocks
  pub up : ascend_from 0 (concat blocks) ≡ true
  pub least_after_is : least ≡ least_after 0 (concat blocks)
  pub least_is : least ≡ least_of skip.entries i

-- What a block that fits is.
record FitsBlock (strict : Bool) (before width last_doc least : ℕ) (bytes : List ℕ) : Type 0 where
  docs : List ℕ
  after : List ℕ
  read : sorted_block_at strict before width bytes ≡ Some (docs, after)
  last : get_or docs 127 0 ≡ last_doc
  up : ascend_from least docs ≡ true

fits_cases : (strict : Bool) (before width last_doc least : ℕ) (bytes : List ℕ) (o : Option (List ℕ × List ℕ)) → sorted_block_at strict before width bytes ≡ o
    → fits_by (λ docs. eqb (get_or docs 127 0) last_doc && ascend_from least docs) o ≡ true → FitsBlock strict before width last_doc least bytes
fits_cases strict before width last_doc least bytes None e h = absurd (cc)
fits_cases strict before width last_doc least bytes (Some found) e h =
    let both = and_parts (eqb (get_or found.0 127 0) last_doc) (ascend_from least found.0) h in
    record { docs = found.0; after = found.1; read = e; last = eqb-true (get_or found.0 127 0) last_doc both.0; up = both.1 }

-- whether the block of an entry fits, at its place in a body
abbrev pub entry_fits : SkipList → ℕ → ℕ → Bool
entry_fits skip i least = block_fits (block_info_of (skip_entry skip.entries i)) (last_doc_before skip.entries i) (skip_entry skip.entries i).last_doc least (drop (block_place skip.entries i) skip.body)

fits : (skip : SkipList) (i least : ℕ) → entry_fits skip i least ≡ true
    → FitsBlock (skip_entry skip.entries i).strict_delta (last_doc_before skip.entries i) (skip_entry skip.entries i).doc_num_bits (skip_entry skip.entries i).last_doc least (drop (block_place skip.entries i) skip.body)
fits skip i least h = fits_cases _ _ _ _ least _ (sorted_block_at (skip_entry skip.entries i).strict_delta (last_doc_before skip.entries i) (skip_entry skip.entries i).doc_num_bits (drop (block_place skip.entries i) skip.body)) refl h

-- the last document of an ascending block is below the end
last_below : (least n : ℕ) (xs : List ℕ) → ascend_from least xs ≡ true → n < length xs → get_or xs n 0 < TERMINATED
last_below least n [] up h = absurd (omega arith)
last_below least zero (x ∷ xs) up h =
    let parts = and_parts (nat_le least x && nat_lt x TERMINATED) (ascend_from (x + 1) xs) up in
    ltb-true x TERMINATED (and_parts (nat_le least x) (nat_lt x TERMINATED) parts.0).1
last_below least (suc n) (x ∷ xs) up h = last_below (x + 1) n xs (and_parts (nat_le least x && nat_lt x TERMINATED) (ascend_from (x + 1) xs) up).1 (omega arith)

pub entry_below : (skip : SkipList) (i least : ℕ) → entry_fits skip i least ≡ true → (skip_entry skip.entries i).last_doc < TERMINATED
entry_below skip i least h =
    let f = fits skip i least h in
    let whole = length-sorted_block_at _ _ _ _ f.docs f.after f.read in
    rw (← f.last) (last_below least 127 f.docs f.up (omega arith))

-- one more block that fits
pub checked_next : (skip : SkipList) (i least : ℕ) → IsCheckedTo skip i least → entry_fits skip i least ≡ true → IsCheckedTo skip (i + 1) ((skip_entry skip.entries i).last_doc + 1)
checked_next skip i least c h =
    let f = fits skip i least h in
    let stands_here = block_stands skip i f.docs f.after f.read f.last in
    let whole = length-sorted_block_at _ _ _ _ f.docs f.after f.read in
    let joined = concat-append c.blocks (f.docs ∷ []) ∙ ap (λ (ds : List ℕ). concat c.blocks ++ ds) (append-nil f.docs) in
    let one : suc i ≡ i + 1 = omega arith in
    let up_from : ascend_from (least_after 0 (concat c.blocks)) f.docs ≡ true = ap (λ (l : ℕ). ascend_from l f.docs) (sym c.least_after_is) ∙ f.up in
    record {
      blocks = c.blocks ++ f.docs ∷ [];
      read = ap (each (block_docs skip)) (sym one) ∙ (rw (c.read, stands_here) refl);
      up = ap (ascend_from 0) joined ∙ ascend-append 0 (concat c.blocks) f.docs ∙ (rw (c.up, up_from) refl);
      least_after_is = sym (ap (least_after 0) joined ∙ least_after-append 0 (concat c.blocks) f.docs ∙ least_after-last (least_after 0 (concat c.blocks)) 127 f.docs whole ∙ ap (λ (d : ℕ). d + 1) f.last);
      least_is = sym (ap (least_of skip.entries) (sym one));
    }

-- a block that doesn't fit: all of the documents are missing
fail_cases : (skip : SkipList) (i least n : ℕ) (o : Option (List ℕ × List ℕ)) → i < length skip.entries → IsCheckedTo skip i least → entry_fits skip i least ≡ false → documents_at skip n ≡ o → is_some o ≡ false
fail_cases skip i least n None h c fails found = refl
fail_cases skip i least n (Some (docs, after)) h c fails found =
    let s = stands skip n docs after found in
    let all = each_gives (block_docs skip) (length skip.entries) s.blocks s.read in
    let count = all.many in
    let block = stands_block skip i (get_or s.blocks i []) (all.at i h) in
    let up = block_ascends 0 i s.blocks s.rest s.up (omega arith) in
    let least_is : least_at 0 s.blocks i ≡ least = least_of_all skip (length skip.entries) i s.blocks s.read h ∙ sym c.least_is in
    let up_here : ascend_from least (get_or s.blocks i []) ≡ true = ap (λ (l : ℕ). ascend_from l (get_or s.blocks i [])) (sym least_is) ∙ up in
    let does : entry_fits skip i least ≡ true = rw (block.read, eq-eqb (get_or (get_or s.blocks i []) 127 0) (skip_entry skip.entries i).last_doc block.last, up_here) refl in
    absurd (cc)

none_of : {A : Type 0} (o : Option A) → is_some o ≡ false → o ≡ None
none_of None e = refl
none_of (Some x) e = absurd (cc)

pub checked_fail : (skip : SkipList) (i least n : ℕ) → i < length skip.entries → IsCheckedTo skip i least → entry_fits skip i least ≡ false → documents_at skip n ≡ None
checked_fail skip i least n h c fails = none_of (documents_at skip n) (fail_cases skip i least n (documents_at skip n) h c fails refl)

-- the bytes after documents, if these are there
abbrev pub bytes_after : Option (List ℕ × List ℕ) → Option (List ℕ)
bytes_after found = option_map (λ f. f.1) found

after_is : (up : Bool) (docs after : List ℕ) → (needs up >>= λ _. Some after) ≡ bytes_after (needs up >>= λ _. Some (docs, after))
after_is true docs after = refl
after_is false docs after = refl

all_cases : (skip : SkipList) (n least : ℕ) (blocks : List (List ℕ)) (o : Option (List ℕ × List ℕ))
    → each (block_docs skip) (length skip.entries) ≡ Some blocks → ascend_from 0 (concat blocks) ≡ true → least ≡ least_after 0 (concat blocks) → rest_docs skip n ≡ o
    → (o >>= λ found. needs (ascend_from least found.0) >>= λ _. Some found.1) ≡ bytes_after (documents_at skip n)
all_cases skip n least blocks None read up least_is rest = rw (read, rest) refl
all_cases skip n least blocks (Some r) read up least_is rest =
    let whole : are_documents (concat blocks ++ r.0) ≡ ascend_from least r.0 = ascend-append 0 (concat blocks) r.0 ∙ (rw (up, ← least_is) refl) in
    rw (read, rest, whole) (after_is (ascend_from least r.0) (concat blocks ++ r.0) r.1)

pub checked_all : (skip : SkipList) (i least n : ℕ) → i ≡ length skip.entries → IsCheckedTo skip i least
    → after_rest (last_doc_before skip.entries i) n least (drop (block_place skip.entries i) skip.body) ≡ bytes_after (documents_at skip n)
checked_all skip i least n end c =
    let rest : rest_docs skip n ≡ sorted_vints_at (last_doc_before skip.entries i) n (drop (block_place skip.entries i) skip.body) = rw end refl in
    all_cases skip n least c.blocks (sorted_vints_at (last_doc_before skip.entries i) n (drop (block_place skip.entries i) skip.body)) (ap (each (block_docs skip)) (sym end) ∙ c.read) c.up c.least_after_is rest

-- the same in the words of the calls
pub many_entries : (skip_info : IndexRecordOption) (blocks : ℕ) (skip_data body : List ℕ) → length (skip_list_of skip_info blocks skip_data body).entries ≡ blocks
many_entries skip_info blocks skip_data body = length-map-range_with_len (λ k. entry_at skip_info (drop (entry_size skip_info * k) skip_data)) 0 blocks

-- The arguments of a call: the block of a reader, and the bytes there.
pub record Told (skip : SkipList) (reader : SkipReaderState) (offset : ℕ) (here : List ℕ) : Type 0 where
  pub offset_is : offset ≡ reader.byte_offset
  pub here_is : here ≡ drop offset skip.body

pub fits_here : (skip : SkipList) (reader : SkipReaderState) (skip_info : IndexRecordOption) (doc_freq i least offset : ℕ) (here : List ℕ) → reader ≡ reader_at skip_info doc_freq skip.entries i → i < doc_freq / 128 → Told skip reader offset here
    → block_fits reader.block_info reader.last_doc_in_previous_block reader.last_doc_in_block least here ≡ entry_fits skip i least
fits_here skip reader skip_info doc_freq i least offset here e h told =
    let at = at_full_block reader skip_info doc_freq i skip.entries e h in
    let bytes : here ≡ drop (block_place skip.entries i) skip.body = told.here_is ∙ ap (λ (k : ℕ). drop k skip.body) (told.offset_is ∙ at.offset) in
    λ j. block_fits (at.info j) (at.before j) (at.last j) least (bytes j)

pub rest_here : (skip : SkipList) (reader : SkipReaderState) (skip_info : IndexRecordOption) (doc_freq i n least offset : ℕ) (here : List ℕ) → reader ≡ reader_at skip_info doc_freq skip.entries i → i ≡ doc_freq / 128 → Told skip reader offset here
    → after_rest reader.last_doc_in_previous_block n least here ≡ after_rest (last_doc_before skip.entries i) n least (drop (block_place skip.entries i) skip.body)
rest_here skip reader skip_info doc_freq i n least offset here e h told =
    let at = at_vints reader skip_info doc_freq i skip.entries e h in
    let bytes : here ≡ drop (block_place skip.entries i) skip.body = told.here_is ∙ ap (λ (k : ℕ). drop k skip.body) (told.offset_is ∙ at.offset) in
    λ j. after_rest (at.before j) n least (bytes j)

-- what a decoder holds decides whether a block fits
fits_found : (strict : Bool) (before width last_doc least : ℕ) (bytes values rest docs : List ℕ) → Some (values, rest) ≡ sorted_block_at strict before width bytes → docs ≡ values → get_or values 127 0 ≡ last_doc
    → ascend_from least docs ≡ fits_by (λ docs. eqb (get_or docs 127 0) last_doc && ascend_from least docs) (sorted_block_at strict before width bytes)
fits_found strict before width last_doc least bytes values rest docs read docs_are last = rw (← read, docs_are, eq-eqb (get_or values 127 0) last_doc last) refl

pub fits_by_values : (reader : SkipReaderState) (info : BlockInfo) (s : Bool) (w f c norm tf before least : ℕ) (bytes rest docs : List ℕ) (decoder : BlockDecoderState) → info ≡ reader.block_info → info ≡ BitPacked w s f c norm tf
    → before ≡ reader.last_doc_in_previous_block → Some (decoder.output, rest) ≡ sorted_block_at s before w bytes → decoder.output_len ≡ 128 → docs ≡ take decoder.output_len decoder.output → get_or decoder.output 127 0 ≡ reader.last_doc_in_block
    → ascend_from least docs ≡ block_fits reader.block_info reader.last_doc_in_previous_block reader.last_doc_in_block least bytes
fits_by_values reader info s w f c norm tf before least bytes rest docs decoder info_is is before_is read size docs_are last =
    let whole = length-sorted_block_at s before w bytes decoder.output rest (sym read) in
    let all = docs_are ∙ take_all decoder.output_len decoder.output (omega arith) in
    fits_found s before w reader.last_doc_in_block least bytes decoder.output rest docs read all last
    ∙ (λ j. block_fits ((sym is ∙ info_is) j) (before_is j) reader.last_doc_in_block least bytes)

-- a reader that went on
pub went_on : (old new : SkipReaderState) (skip_info : IndexRecordOption) (doc_freq i : ℕ) (skip_data : List ℕ) → old ≡ reader_at skip_info doc_freq (entries_at skip_info (doc_freq / 128) skip_data) i → i < doc_freq / 128
    → new ≡ reader_at old.skip_info old.doc_freq (entries_at old.skip_info (old.doc_freq / 128) skip_data) (min (old.block + 1) (old.doc_freq / 128 + 1))
    → new ≡ reader_at skip_info doc_freq (entries_at skip_info (doc_freq / 128) skip_data) (i + 1)
went_on old new skip_info doc_freq i skip_data e h moved =
    let info_is : old.skip_info ≡ skip_info = ap (λ (r : SkipReaderState). r.skip_info) e in
    let freq_is : old.doc_freq ≡ doc_freq = ap (λ (r : SkipReaderState). r.doc_freq) e in
    let block_is : old.block ≡ i = ap (λ (r : SkipReaderState). r.block) e in
    let next : min (i + 1) (doc_freq / 128 + 1) ≡ i + 1 = omega arith in
    moved ∙ (λ j. reader_at (info_is j) (freq_is j) (entries_at (info_is j) (freq_is j / 128) skip_data) (min (block_is j + 1) (freq_is j / 128 + 1)))
    ∙ ap (reader_at skip_info doc_freq (entries_at skip_info (doc_freq / 128) skip_data)) next

-- the block that was looked at, in the words of the loop
pub looked_at : (skip_info : IndexRecordOption) (doc_freq i least offset : ℕ) (skip_data body here : List ℕ) (reader : SkipReaderState) (r t : Bool) → reader ≡ reader_at skip_info doc_freq (entries_at skip_info (doc_freq / 128) skip_data) i → i < doc_freq / 128
    → Told (skip_list_of skip_info (doc_freq / 128) skip_data body) reader offset here → r ≡ block_fits reader.block_info reader.last_doc_in_previous_block reader.last_doc_in_block least here → r ≡ t
    → entry_fits (skip_list_of skip_info (doc_freq / 128) skip_data body) i least ≡ t
looked_at skip_info doc_freq i least offset skip_data body here reader r t e h told found answered =
    sym (found ∙ fits_here (skip_list_of skip_info (doc_freq / 128) skip_data body) reader skip_info doc_freq i least offset here e h told) ∙ answered

-- the last document that the reader returned is its entry's
pub told_last : (skip_info : IndexRecordOption) (doc_freq i last : ℕ) (skip_data : List ℕ) (reader : SkipReaderState) → reader ≡ reader_at skip_info doc_freq (entries_at skip_info (doc_freq / 128) skip_data) i → i < doc_freq / 128 → last ≡ reader.last_doc_in_block
    → last ≡ (skip_entry (entries_at skip_info (doc_freq / 128) skip_data) i).last_doc
told_last skip_info doc_freq i last skip_data reader e h last_is = last_is ∙ (at_full_block reader skip_info doc_freq i (entries_at skip_info (doc_freq / 128) skip_data) e h).last
