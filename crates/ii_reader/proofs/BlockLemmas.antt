-- Laws of the block that a cursor holds.
use Rattle.std.proofs.Common.{◌≡◌, ℕ, zero, suc, ◌+◌, ◌-◌, ◌*◌, ◌/◌, ◌<◌, ◌≤◌, ◌⊎◌, inl, inr, Bool, true, false, List, [], ◌++◌, length, take, drop, get_or, min, nat_lt, Option, Some, None, Ok, is_some, refl, sym, ap, subst, ◌∙◌, append-nil, arith, length-take, length-drop}
use Rattle.std.specs.Option.{IsSome}
use Rattle.std.proofs.lemmas.Bool.{ltb-true, ltb-false}
use Rattle.std.proofs.lemmas.List.{length-append, nil_from_length, get_or-take, get_or-drop, get_or-replicate, get_or_past, get_or_default}
use Rattle.ii_base.specs.declared.schema.index_record_option.IndexRecordOption.{IndexRecordOption}
use Rattle.ii_base.specs.declared.doc_id.TheConstants.{TERMINATED}
use Rattle.ii_codes.specs.BlockDecoder.{BlockDecoderState, decodes_of}
use Rattle.ii_layout.specs.Written.{block_of}
use Rattle.ii_layout.specs.Postings.{Postings, postings}
use Rattle.ii_layout.specs.TermList.{docs_and_freqs}
use Rattle.ii_layout.specs.SkipReader.{SkipReaderState}
use Rattle.ii_check.specs.declared.freq_reading_option.FreqReadingOption.{FreqReadingOption}
use Rattle.ii_check.specs.declared.validation.Validation.{Validation}
use Rattle.ii_check.specs.CheckedBlocks.{BlockCounts, blocks_checked, counts_checked, freqs_checked, no_blocks}
use Rattle.ii_check.specs.FreqReading.{freq_reading, freq_reading_of}
use Rattle.ii_check.specs.CheckedPostings.{AreReadFreqs, AreLastFreqs, CheckedPostingsState, HasDocuments, HoldsBlock, HoldsFreqs, IsAtBlock, Loads, LoadsBlock, LoadsFreqs, is_read, new_decoder}
use Rattle.ii_check.specs.DecodedBlocks.{AreDecoded, AscendWithin, DecodesLast, LogsBlock, LogsFreqs, logged}
use Rattle.ii_check.proofs.DecodedBlocksLaws.{decoded_on, later_last}
use Rattle.ii_check.proofs.SpentLemmas.{decodes_most}
use Rattle.ii_reader.specs.Bounds.{bounds_of, bounds_read}
use Rattle.ii_reader.specs.BlockSegmentPostings.{AreEntries, BlockSegmentPostingsState, GoesTo, IsLazy, IsLoaded, doc_in_block, first_decodes, first_freqs, freqs_of_block, freq_in_block}

-- A skip reader, the two decoders that hold its block, and the blocks that they decoded.
pub record Held : Type 0 where
  pub skip : SkipReaderState
  pub docs : BlockDecoderState
  pub freqs : BlockDecoderState
  pub doc_blocks : List ℕ
  pub freq_blocks : List ℕ

abbrev pub held_by : SkipReaderState → BlockDecoderState → BlockDecoderState → List ℕ → List ℕ → Held
held_by skip docs freqs doc_blocks freq_blocks = record { skip = skip; docs = docs; freqs = freqs; doc_blocks = doc_blocks; freq_blocks = freq_blocks }

-- nothing was decoded
none_decoded : (block decodes : ℕ) (blocks : List ℕ) → blocks ≡ [] → decodes ≡ 0 → AreDecoded block decodes blocks
none_decoded block decodes blocks none count = let size = ap length none in record { many = omega arith; ascend = subst (AscendWithin 0 block) (sym none) tt }

-- an entry of a block that a decoder holds, and what follows the block
pub entry_held : (values : List ℕ) (block padding idx : ℕ) (decoder : BlockDecoderState) → HoldsBlock values block padding decoder → idx < length (block_of values block) → get_or decoder.output idx 0 ≡ get_or (block_of values block) idx 0
entry_held values block padding idx decoder h inside =
    let many = h.many in
    let below : idx < decoder.output_len = omega arith in
    sym (get_or-take decoder.output_len decoder.output idx 0 below) ∙ ap (λ (vs : List ℕ). get_or vs idx 0) h.held

held_cases : (docs : List ℕ) (block idx : ℕ) (decoder : BlockDecoderState) (t : Bool) → HoldsBlock docs block TERMINATED decoder → idx < 128 → nat_lt idx decoder.output_len ≡ t → get_or decoder.output idx 0 ≡ doc_in_block docs block idx
held_cases docs block idx decoder true h within test =
    let below = ltb-true idx decoder.output_len test in
    let many = h.many in
    let inside : idx < length (block_of docs block) = omega arith in
    entry_held docs block TERMINATED idx decoder h inside ∙ get_or_default (block_of docs block) idx 0 TERMINATED inside
held_cases docs block idx decoder false h within test =
    let past = ltb-false idx decoder.output_len test in
    let many = h.many in
    let place : decoder.output_len + (idx - decoder.output_len) ≡ idx = omega arith in
    ap (λ (i : ℕ). get_or decoder.output i 0) (sym place) ∙ sym (get_or-drop decoder.output_len decoder.output (idx - decoder.output_len) 0)
    ∙ ap (λ (ds : List ℕ). get_or ds (idx - decoder.output_len) 0) h.filled ∙ get_or-replicate (128 - decoder.output_len) (idx - decoder.output_len) TERMINATED 0 (omega arith)
    ∙ sym (get_or_past (block_of docs block) idx TERMINATED (omega arith))

-- the entry of the decoder is the document of the block, or the end
pub doc_held : (docs : List ℕ) (block idx doc : ℕ) (decoder : BlockDecoderState) → HoldsBlock docs block TERMINATED decoder → idx < 128 → doc ≡ get_or decoder.output idx 0 → doc ≡ doc_in_block docs block idx
doc_held docs block idx doc decoder h within e = e ∙ held_cases docs block idx decoder (nat_lt idx decoder.output_len) h within refl

-- the counts that a decoder holds
pub freqs_held : (o : Option (List ℕ)) (block : ℕ) (decoder : BlockDecoderState) → HoldsFreqs o block decoder → take decoder.output_len decoder.output ≡ freqs_of_block o block
freqs_held None block decoder h = ap (λ (d : BlockDecoderState). take d.output_len d.output) h
freqs_held (Some freqs) block decoder h = h.held

pub length-block_of : (xs ys : List ℕ) (block : ℕ) → length xs ≡ length ys → length (block_of xs block) ≡ length (block_of ys block)
length-block_of xs ys block e =
    let left = length-take 128 (drop (128 * block) xs) in
    let right = length-take 128 (drop (128 * block) ys) in
    let more = length-drop (128 * block) xs in
    let others = length-drop (128 * block) ys in
    omega arith

pub freq_held : (o : Option (List ℕ)) (docs : List ℕ) (n block idx freq : ℕ) (decoder : BlockDecoderState) → HoldsFreqs o block decoder → is_some o ≡ true → length docs ≡ n → ((fs : List ℕ) → o ≡ Some fs → AreReadFreqs n fs)
    → (IsSome o → idx < length (block_of docs block)) → freq ≡ get_or decoder.output idx 0 → freq ≡ freq_in_block o block idx
freq_held None docs n block idx freq decoder h some many all within e = absurd (cc)
freq_held (Some freqs) docs n block idx freq decoder h some many all within e =
    let count = (all freqs refl).many in
    let same = length-block_of docs freqs block (many ∙ sym count) in
    let below = within refl in
    e ∙ entry_held freqs block 1 idx decoder h (omega arith)

pub freq_within : (o : Option (List ℕ)) (docs : List ℕ) (block idx : ℕ) → IsSome o → (IsSome o → idx < length (block_of docs block)) → idx < 128
freq_within o docs block idx some within =
    let below = within some in
    let size = length-take 128 (drop (128 * block) docs) in
    omega arith

-- counts are held again once they were loaded, and a decode is only where there are some
pub freqs_loaded : (o : Option (List ℕ)) (before block : ℕ) (old new : BlockDecoderState) → HoldsFreqs o before old → LoadsFreqs o block old new → HoldsFreqs o block new
freqs_loaded None before block old new held loads = loads ∙ held
freqs_loaded (Some freqs) before block old new held loads = loads.holds

-- a block that comes once more is the empty one
no_more : (values : List ℕ) (n before block : ℕ) → length values ≡ n → block ≡ min (before + 1) (n / 128 + 1) → block ≡ before → length (block_of values block) ≡ 0
no_more values n before block many next same =
    let size = length-take 128 (drop (128 * block) values) in
    let left = length-drop (128 * block) values in
    omega arith

pub empty_or_later : (values : List ℕ) (n before block : ℕ) → length values ≡ n → block ≡ min (before + 1) (n / 128 + 1) → before ≤ n / 128 + 1 → (length (block_of values block) ≡ 0) ⊎ (before < block)
empty_or_later values n before block many next within = by (nat_lt before block) refl
  where
    by : (t : Bool) → nat_lt before block ≡ t → (length (block_of values block) ≡ 0) ⊎ (before < block)
    by true test = inr (ltb-true before block test)
    by false test = let here = ltb-false before block test in inl (no_more values n before block many next (omega arith))

-- Values of a block were decoded, and the block was added: a later one, if there are any values.
record Adds (old new decodes decodes' : ℕ) (blocks blocks' : List ℕ) : Type 0 where
  pub values : ℕ
  pub blocks_are : blocks' ≡ blocks ++ logged new values
  pub decodes_are : decodes' ≡ decodes + decodes_of values
  pub some : (values ≡ 0) ⊎ (old < new)

docs_add : (values : List ℕ) (padding old new : ℕ) (decoder decoder' : BlockDecoderState) (blocks blocks' : List ℕ) → Loads values new padding decoder decoder' → blocks' ≡ blocks ++ logged new (length (block_of values new))
    → (length (block_of values new) ≡ 0) ⊎ (old < new) → Adds old new decoder.decodes decoder'.decodes blocks blocks'
docs_add values padding old new decoder decoder' blocks blocks' loads logs some = record { values = length (block_of values new); blocks_are = logs; decodes_are = loads.decodes; some = some }

freqs_add : (o : Option (List ℕ)) (old new : ℕ) (decoder decoder' : BlockDecoderState) (blocks blocks' : List ℕ) → LoadsFreqs o new decoder decoder' → LogsFreqs o new blocks blocks'
    → ((fs : List ℕ) → o ≡ Some fs → (length (block_of fs new) ≡ 0) ⊎ (old < new)) → Adds old new decoder.decodes decoder'.decodes blocks blocks'
freqs_add None old new decoder decoder' blocks blocks' loads logs some =
    let same : decoder'.decodes ≡ decoder.decodes = ap (λ (d : BlockDecoderState). d.decodes) loads in
    record { values = 0; blocks_are = logs ∙ sym (append-nil blocks); decodes_are = omega arith; some = inl refl }
freqs_add (Some fs) old new decoder decoder' blocks blocks' loads logs some = docs_add fs 1 old new decoder decoder' blocks blocks' loads logs (some fs refl)

adds_last : (old new decodes decodes' : ℕ) (blocks blocks' : List ℕ) → Adds old new decodes decodes' blocks blocks' → DecodesLast old new blocks blocks'
adds_last old new decodes decodes' blocks blocks' a = by a.values a.blocks_are a.some
  where
    by : (n : ℕ) → blocks' ≡ blocks ++ logged new n → (n ≡ 0) ⊎ (old < new) → DecodesLast old new blocks blocks'
    by zero is some = inl (is ∙ append-nil blocks)
    by (suc n) is (inl none) = absurd (omega arith)
    by (suc n) is (inr later) = inr (later, is)

adds_few : (old new decodes decodes' : ℕ) (blocks blocks' : List ℕ) → Adds old new decodes decodes' blocks blocks' → decodes' ≤ decodes + min 1 (new - old)
adds_few old new decodes decodes' blocks blocks' a = by a.values a.decodes_are a.some
  where
    by : (n : ℕ) → decodes' ≡ decodes + decodes_of n → (n ≡ 0) ⊎ (old < new) → decodes' ≤ decodes + min 1 (new - old)
    by zero is some = omega arith
    by (suc n) is (inl none) = absurd (omega arith)
    by (suc n) is (inr later) = omega arith

length-logged : (block n : ℕ) → length (logged block n) ≡ decodes_of n
length-logged block zero = refl
length-logged block (suc n) = refl

adds_decoded : (old new decodes decodes' : ℕ) (blocks blocks' : List ℕ) → old ≤ new → AreDecoded old decodes blocks → Adds old new decodes decodes' blocks blocks' → AreDecoded new decodes' blocks'
adds_decoded old new decodes decodes' blocks blocks' forward was a =
    let many = was.many in
    let is = a.decodes_are in
    let more = length-logged new a.values in
    let size = ap length a.blocks_are ∙ length-append blocks (logged new a.values) in
    decoded_on old new decodes decodes' blocks blocks' forward was (later_last old new blocks blocks' (adds_last old new decodes decodes' blocks blocks' a)) (omega arith)

-- the first block
first_cases : (values : List ℕ) (n : ℕ) → length values ≡ n → decodes_of (length (block_of values 0)) ≡ min 1 n
first_cases values n many = by_size (length (block_of values 0)) n (let size = length-take 128 (drop (128 * 0) values) in let left = length-drop (128 * 0) values in omega arith)
  where
    by_size : (size n : ℕ) → size ≡ min 128 n → decodes_of size ≡ min 1 n
    by_size zero n e = omega arith
    by_size (suc size) n e = let one : 1 ≡ min 1 n = omega arith in one

pub decodes_first : (values : List ℕ) (n count : ℕ) → length values ≡ n → count ≡ 0 + decodes_of (length (block_of values 0)) → count ≡ min 1 n
decodes_first values n count many e = let first = first_cases values n many in omega arith

pub freqs_first : (o : Option (List ℕ)) (decoder : BlockDecoderState) → LoadsFreqs o 0 (new_decoder 1) decoder → HoldsFreqs o 0 decoder
freqs_first None decoder loads = loads
freqs_first (Some freqs) decoder loads = loads.holds

pub freq_decodes_first : (o : Option (List ℕ)) (n : ℕ) (decoder : BlockDecoderState) → ((fs : List ℕ) → o ≡ Some fs → AreReadFreqs n fs) → LoadsFreqs o 0 (new_decoder 1) decoder → decoder.decodes ≡ first_decodes o n
freq_decodes_first None n decoder all loads = ap (λ (d : BlockDecoderState). d.decodes) loads
freq_decodes_first (Some freqs) n decoder all loads = decodes_first freqs n decoder.decodes (all freqs refl).many loads.decodes

first_most : (o : Option (List ℕ)) (n : ℕ) → first_decodes o n ≤ 1
first_most None n = omega arith
first_most (Some freqs) n = omega arith

-- the first block, logged
logged_by : (block m n : ℕ) → min 1 m ≡ min 1 n → logged block m ≡ logged block n
logged_by block zero zero same = refl
logged_by block zero (suc n) same = absurd (omega arith)
logged_by block (suc m) zero same = absurd (omega arith)
logged_by block (suc m) (suc n) same = refl

pub docs_logged : (values : List ℕ) (n : ℕ) (old new : List ℕ) → length values ≡ n → old ≡ [] → new ≡ old ++ logged 0 (length (block_of values 0)) → new ≡ logged 0 n
docs_logged values n old new many none logs =
    let size = length-take 128 (drop (128 * 0) values) in
    let left = length-drop (128 * 0) values in
    logs ∙ ap (λ (l : List ℕ). l ++ logged 0 (length (block_of values 0))) none ∙ logged_by 0 (length (block_of values 0)) n (omega arith)

pub freqs_logged : (o : Option (List ℕ)) (reading : FreqReadingOption) (n : ℕ) (old new : List ℕ) → ((fs : List ℕ) → o ≡ Some fs → AreReadFreqs n fs) → is_some o ≡ is_read reading → old ≡ [] → LogsFreqs o 0 old new → new ≡ first_freqs reading n
freqs_logged None reading n old new all read none logs = rw (← read) (logs ∙ none)
freqs_logged (Some fs) reading n old new all read none logs = rw (← read) (docs_logged fs n old new (all fs refl).many none logs)

first_decoded : (values : List ℕ) (decodes : ℕ) (old new : List ℕ) → old ≡ [] → new ≡ old ++ logged 0 (length (block_of values 0)) → decodes ≡ 0 + decodes_of (length (block_of values 0)) → AreDecoded 0 decodes new
first_decoded values decodes old new none logs count = by (length (block_of values 0)) (logs ∙ ap (λ (l : List ℕ). l ++ logged 0 (length (block_of values 0))) none) count
  where
    by : (n : ℕ) → new ≡ logged 0 n → decodes ≡ 0 + decodes_of n → AreDecoded 0 decodes new
    by n is count =
        let size = ap length is ∙ length-logged 0 n in
        record { many = omega arith; ascend = subst (AscendWithin 0 0) (sym is) (ascends n) }
      where
        ascends : (n : ℕ) → AscendWithin 0 0 (logged 0 n)
        ascends zero = tt
        ascends (suc n) = (omega arith, omega arith, tt)

freqs_decoded : (o : Option (List ℕ)) (decoder : BlockDecoderState) (old new : List ℕ) → old ≡ [] → LogsFreqs o 0 old new → LoadsFreqs o 0 (new_decoder 1) decoder → AreDecoded 0 decoder.decodes new
freqs_decoded None decoder old new none logs loads = none_decoded 0 decoder.decodes new (logs ∙ none) (ap (λ (d : BlockDecoderState). d.decodes) loads)
freqs_decoded (Some fs) decoder old new none logs loads = first_decoded fs decoder.decodes old new none logs loads.decodes

-- a cursor at the first block
pub first_loaded : (p : CheckedPostingsState) (h : Held) (doc_blocks freq_blocks : List ℕ) → HasDocuments p → IsAtBlock p h.skip → h.skip.block ≡ 0 → LoadsBlock p.postings 0 (new_decoder TERMINATED) h.docs (new_decoder 1) h.freqs
    → doc_blocks ≡ [] → freq_blocks ≡ [] → LogsBlock p.postings 0 doc_blocks h.doc_blocks freq_blocks h.freq_blocks → IsLoaded p h.skip h.docs h.freqs h.doc_blocks h.freq_blocks
first_loaded p h doc_blocks freq_blocks has at first loads no_docs no_freqs logs =
    let most = decodes_most (length (block_of p.postings.docs 0)) in
    let count = loads.docs_are.decodes in
    let freq_count = freq_decodes_first p.postings.freqs p.doc_freq h.freqs has.freqs loads.freqs_are in
    let freq_most = first_most p.postings.freqs p.doc_freq in
    record {
      has = has;
      at = at;
      docs_held = rw first loads.docs_are.holds;
      freqs_held = rw first (freqs_first p.postings.freqs h.freqs loads.freqs_are);
      docs_decoded = rw first (first_decoded p.postings.docs h.docs.decodes doc_blocks h.doc_blocks no_docs logs.docs_are loads.docs_are.decodes);
      freqs_decoded = rw first (freqs_decoded p.postings.freqs h.freqs freq_blocks h.freq_blocks no_freqs logs.freqs_are loads.freqs_are);
      doc_decodes = omega arith;
      freq_decodes = omega arith;
    }

-- a cursor over no documents
pub none_loaded : (p : CheckedPostingsState) (h : Held) → HasDocuments p → p.postings.docs ≡ [] → p.postings.freqs ≡ None → IsAtBlock p h.skip → h.skip.block ≡ 0 → h.docs ≡ new_decoder TERMINATED → h.freqs ≡ new_decoder 1 → h.doc_blocks ≡ [] → h.freq_blocks ≡ []
    → IsLoaded p h.skip h.docs h.freqs h.doc_blocks h.freq_blocks
none_loaded p h has no_docs no_freqs at first docs_are freqs_are doc_blocks_are freq_blocks_are =
    let count = ap (λ (d : BlockDecoderState). d.decodes) docs_are in
    let freq_count = ap (λ (d : BlockDecoderState). d.decodes) freqs_are in
    record {
      has = has;
      at = at;
      docs_held = rw (no_docs, first, docs_are) (record { many = refl; held = refl; filled = refl });
      freqs_held = rw no_freqs freqs_are;
      docs_decoded = none_decoded h.skip.block h.docs.decodes h.doc_blocks doc_blocks_are count;
      freqs_decoded = none_decoded h.skip.block h.freqs.decodes h.freq_blocks freq_blocks_are freq_count;
      doc_decodes = omega arith;
      freq_decodes = omega arith;
    }

-- what the bytes of a term give, by its postings
pub docs_opened : (recorded requested : IndexRecordOption) (n : ℕ) (bytes : List ℕ) (p : Postings) → postings recorded requested n bytes ≡ Ok p → docs_and_freqs recorded requested n bytes ≡ Ok (p.docs, p.freqs)
docs_opened recorded requested n bytes p opened = rw opened refl

pub reading_opened : (recorded requested : IndexRecordOption) (n : ℕ) (bytes : List ℕ) (p : Postings) (reading : FreqReadingOption) → postings recorded requested n bytes ≡ Ok p → reading ≡ freq_reading_of requested p
    → (freq_reading recorded requested n bytes ≡ Ok reading) × (bounds_read recorded requested n bytes ≡ Ok (bounds_of p.skip))
reading_opened recorded requested n bytes p reading opened is = (rw (opened, is) refl, rw opened refl)

pub entries_opened : (p : CheckedPostingsState) (n : ℕ) → HasDocuments p → p.doc_freq ≡ n → AreEntries n p.postings.docs p.postings.freqs
entries_opened p n has is = record { many = has.many ∙ is; ascending = has.ascending; freqs_are = rw is at has.freqs }

-- the skip entries that are read for the first block
pub entries_first : (p : CheckedPostingsState) (skip : SkipReaderState) (n : ℕ) → IsAtBlock p skip → skip.block ≡ 0 → p.doc_freq ≡ n → skip.entries_read ≡ min 1 (n / 128)
entries_first p skip n at first is = ap (λ (r : SkipReaderState). r.entries_read) at.reader ∙ rw (first, is) refl

abbrev pub state_of : BlockCounts → CheckedPostingsState → Held → BlockSegmentPostingsState
state_of checked p h =
    record { recorded = p.recorded; requested = p.requested; docs = p.postings.docs; freqs = p.postings.freqs; freq_reading = p.freq_reading; bounds = bounds_of p.postings.skip; block = h.skip.block; doc_blocks = h.doc_blocks; freq_blocks = h.freq_blocks; doc_decodes = h.docs.decodes; freq_decodes = h.freqs.decodes; entries_read = h.skip.entries_read; checked = checked }

-- A cursor went on to a block: a later one, if there are any values.
pub record GoesOn (p : CheckedPostingsState) (old new : Held) : Type 0 where
  pub was : IsLoaded p old.skip old.docs old.freqs old.doc_blocks old.freq_blocks
  pub at : IsAtBlock p new.skip
  pub forward : old.skip.block ≤ new.skip.block
  pub some : (values : List ℕ) → length values ≡ p.doc_freq → (length (block_of values new.skip.block) ≡ 0) ⊎ (old.skip.block < new.skip.block)
  pub loads : LoadsBlock p.postings new.skip.block old.docs new.docs old.freqs new.freqs
  pub logs : LogsBlock p.postings new.skip.block old.doc_blocks new.doc_blocks old.freq_blocks new.freq_blocks

-- to the next block, or it stayed at the empty one
pub goes_next : (p : CheckedPostingsState) (old new : Held) → IsLoaded p old.skip old.docs old.freqs old.doc_blocks old.freq_blocks → IsAtBlock p new.skip → new.skip.block ≡ min (old.skip.block + 1) (p.doc_freq / 128 + 1)
    → LoadsBlock p.postings new.skip.block old.docs new.docs old.freqs new.freqs → LogsBlock p.postings new.skip.block old.doc_blocks new.doc_blocks old.freq_blocks new.freq_blocks → GoesOn p old new
goes_next p old new was at next loads logs =
    let within = was.at.within in
    record { was = was; at = at; forward = omega arith; some = λ values many. empty_or_later values p.doc_freq old.skip.block new.skip.block many next within; loads = loads; logs = logs }

-- to a later block
pub goes_later : (p : CheckedPostingsState) (old new : Held) → IsLoaded p old.skip old.docs old.freqs old.doc_blocks old.freq_blocks → IsAtBlock p new.skip → old.skip.block < new.skip.block
    → LoadsBlock p.postings new.skip.block old.docs new.docs old.freqs new.freqs → LogsBlock p.postings new.skip.block old.doc_blocks new.doc_blocks old.freq_blocks new.freq_blocks → GoesOn p old new
goes_later p old new was at later loads logs = record { was = was; at = at; forward = omega arith; some = λ values many. inr later; loads = loads; logs = logs }

docs_on : (p : CheckedPostingsState) (old new : Held) → GoesOn p old new → Adds old.skip.block new.skip.block old.docs.decodes new.docs.decodes old.doc_blocks new.doc_blocks
docs_on p old new g = docs_add p.postings.docs TERMINATED old.skip.block new.skip.block old.docs new.docs old.doc_blocks new.doc_blocks g.loads.docs_are g.logs.docs_are (g.some p.postings.docs g.was.has.many)

freqs_on : (p : CheckedPostingsState) (old new : Held) → GoesOn p old new → Adds old.skip.block new.skip.block old.freqs.decodes new.freqs.decodes old.freq_blocks new.freq_blocks
freqs_on p old new g =
    freqs_add p.postings.freqs old.skip.block new.skip.block old.freqs new.freqs old.freq_blocks new.freq_blocks g.loads.freqs_are g.logs.freqs_are (λ fs e. g.some fs (g.was.has.freqs fs e).many)

pub on_loaded : (p : CheckedPostingsState) (old new : Held) → GoesOn p old new → IsLoaded p new.skip new.docs new.freqs new.doc_blocks new.freq_blocks
on_loaded p old new g =
    let had = g.was.doc_decodes in
    let freq_had = g.was.freq_decodes in
    let docs = docs_on p old new g in
    let freqs = freqs_on p old new g in
    let count = adds_few _ _ _ _ _ _ docs in
    let counts = adds_few _ _ _ _ _ _ freqs in
    let forward = g.forward in
    record {
      has = g.was.has;
      at = g.at;
      docs_held = g.loads.docs_are.holds;
      freqs_held = freqs_loaded p.postings.freqs old.skip.block new.skip.block old.freqs new.freqs g.was.freqs_held g.loads.freqs_are;
      docs_decoded = adds_decoded _ _ _ _ _ _ forward g.was.docs_decoded docs;
      freqs_decoded = adds_decoded _ _ _ _ _ _ forward g.was.freqs_decoded freqs;
      doc_decodes = omega arith;
      freq_decodes = omega arith;
    }

pub on_goes : (checked : BlockCounts) (p : CheckedPostingsState) (old new : Held) (to : ℕ) → new.skip.block ≡ to → GoesOn p old new → GoesTo (state_of checked p old) (state_of checked p new) to
on_goes checked p old new to there g =
    let docs = docs_on p old new g in
    let freqs = freqs_on p old new g in
    let count = adds_few _ _ _ _ _ _ docs in
    let counts = adds_few _ _ _ _ _ _ freqs in
    record {
      recorded = refl;
      requested = refl;
      docs = refl;
      freqs = refl;
      freq_reading = refl;
      bounds = refl;
      checked = refl;
      block = there;
      doc_blocks = adds_last _ _ _ _ _ _ docs;
      freq_blocks = adds_last _ _ _ _ _ _ freqs;
      doc_decodes = omega arith;
      freq_decodes = omega arith;
    }

-- a cursor that stays
pub stays_there : (s : BlockSegmentPostingsState) → GoesTo s s s.block
stays_there s =
    record {
      recorded = refl;
      requested = refl;
      docs = refl;
      freqs = refl;
      freq_reading = refl;
      bounds = refl;
      checked = refl;
      block = refl;
      doc_blocks = inl refl;
      freq_blocks = inl refl;
      doc_decodes = omega arith;
      freq_decodes = omega arith;
    }

pub loaded_lazy : (checked : BlockCounts) (p : CheckedPostingsState) (h : Held) → IsLoaded p h.skip h.docs h.freqs h.doc_blocks h.freq_blocks → IsLazy (state_of checked p h)
loaded_lazy checked p h l =
    let many = l.has.many in
    let within = l.at.within in
    let had = l.doc_decodes in
    let freq_had = l.freq_decodes in
    let entries = ap (λ (r : SkipReaderState). r.entries_read) l.at.reader in
    record { within = omega arith; doc_blocks = l.docs_decoded; freq_blocks = l.freqs_decoded; doc_decodes = omega arith; freq_decodes = omega arith; entries_read = omega arith }

-- what was counted from nothing to validate a list
pub counted : (validation : Validation) (reading : FreqReadingOption) (n : ℕ) (old new : BlockCounts) → old ≡ no_blocks → new.docs ≡ old.docs + blocks_checked validation n → new.freqs ≡ old.freqs + freqs_checked validation reading n
    → new ≡ counts_checked validation reading n
counted validation reading n old new none docs freqs =
    let no_docs : old.docs ≡ 0 = ap (λ (k : BlockCounts). k.docs) none in
    let no_freqs : old.freqs ≡ 0 = ap (λ (k : BlockCounts). k.freqs) none in
    let docs_are : new.docs ≡ blocks_checked validation n = docs ∙ from_none old.docs (blocks_checked validation n) no_docs in
    let freqs_are : new.freqs ≡ freqs_checked validation reading n = freqs ∙ from_none old.freqs (freqs_checked validation reading n) no_freqs in
    λ j. record { docs = docs_are j; freqs = freqs_are j }
  where
    from_none : (k m : ℕ) → k ≡ 0 → k + m ≡ m
    from_none k m e = omega (arith, e)

-- A block that has as many counts as the term has documents, fewer than a full one has, is the last.
last_at : (fs : List ℕ) (n block : ℕ) (row : List ℕ) → length fs ≡ n → row ≡ block_of fs block → length row < 128 → length row ≡ n → row ≡ block_of fs (n / 128)
last_at fs n zero row many here few all = let first : 0 ≡ n / 128 = omega arith in here ∙ ap (block_of fs) first
last_at fs n (suc block) row many here few all =
    let size = ap length here ∙ length-take 128 (drop (128 * suc block) fs) in
    let left = length-drop (128 * suc block) fs in
    let whole = length-take 128 (drop (128 * (n / 128)) fs) in
    let behind = length-drop (128 * (n / 128)) fs in
    nil_from_length row (omega arith) ∙ sym (nil_from_length (block_of fs (n / 128)) (omega arith))

pub last_held : (o : Option (List ℕ)) (n block : ℕ) (row : List ℕ) (decoder : BlockDecoderState) → HoldsFreqs o block decoder → ((fs : List ℕ) → o ≡ Some fs → AreReadFreqs n fs) → row ≡ take decoder.output_len decoder.output → length row < 128 → length row ≡ n
    → AreLastFreqs o (n / 128) row
last_held None n block row decoder h are row_is few all = few
last_held (Some fs) n block row decoder h are row_is few all = (last_at fs n block row (are fs refl).many (row_is ∙ h.held) few all, few)
