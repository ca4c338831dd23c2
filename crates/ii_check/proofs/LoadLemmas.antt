-- The blocks of validated postings, as decoders load them.
use Rattle.std.proofs.Common.{◌≡◌, ℕ, ◌+◌, ◌-◌, ◌*◌, ◌/◌, ◌%◌, ◌<◌, ◌≤◌, Bool, true, false, List, [], length, take, drop, replicate, Option, Some, None, nat_le, nat_lt, refl, sym, ap, ◌∙◌, arith, is_some}
use Rattle.std.specs.Option.{IsSome, option_map}
use Rattle.std.proofs.lemmas.Bool.{ltb-true, ltb-false}
use Rattle.std.proofs.lemmas.List.{take_all, drop_all}
use Rattle.ii_io.specs.Steps.{needs}
use Rattle.ii_io.specs.StepLemmas.{step-some, some-same}
use Rattle.ii_codes.specs.Packed.{unpacked}
use Rattle.ii_codes.specs.Sums.{fit_u32}
use Rattle.ii_codes.specs.Blocks.{sorted_block_at, sorted_values}
use Rattle.ii_codes.specs.BlockDecoder.{BlockDecoderState, decodes_of}
use Rattle.ii_layout.specs.declared.skip.BlockInfo.{BlockInfo}
use Rattle.ii_layout.specs.declared.skip.BlockInfo.TheVariants.{VInt}
use Rattle.ii_layout.specs.SkipList.{block_place}
use Rattle.ii_layout.specs.SkipReader.{SkipReaderState, block_info_of}
use Rattle.ii_layout.specs.Documents.{skip_entry, last_doc_before}
use Rattle.ii_layout.specs.Written.{block_of}
use Rattle.ii_layout.proofs.SkipReaderLemmas.{at_full_block, at_vints, at_end}
use Rattle.ii_layout.proofs.DocumentLemmas.{length-documents_at, block_of_documents, rest_of_documents}
use Rattle.ii_layout.proofs.FrequencyLemmas.{freqs_fit, block_of_freqs, rest_of_freqs}
use Rattle.ii_check.specs.Check.{HoldsRow, docs_in, freqs_in, num_vints}
use Rattle.ii_check.specs.CheckedPostings.{CheckedPostingsState, AreGiven, IsAtBlock, Loads, LoadsFreqs}

-- a sorted block takes as many bytes as its width says
sorted_after : (strict : Bool) (offset w : ℕ) (bytes vs rest : List ℕ) → sorted_block_at strict offset w bytes ≡ Some (vs, rest) → rest ≡ drop (16 * w) bytes
unfolding sorted_block_at
sorted_after strict offset w bytes vs rest e =
    let first = step-some (needs (nat_le w 32)) _ (vs, rest) e in
    let second = step-some (needs (nat_le (16 * w) (length bytes))) _ (vs, rest) first.2 in
    let third = step-some (needs (fit_u32 (sorted_values strict offset (unpacked w bytes)))) _ (vs, rest) second.2 in
    sym (ap (λ (p : List ℕ × List ℕ). p.1) (some-same third.2))

-- The counts of a block are at the front of bytes.
abbrev pub FreqsThere : SkipReaderState → List ℕ → List ℕ → Type 0
FreqsThere reader freqs after = (left : List ℕ) × (freqs_in reader.block_info after ≡ Some (block_of freqs reader.block, left))

-- Bytes begin with the documents of a reader's block, and after them its frequencies if they are read.
pub record IsThere (p : CheckedPostingsState) (reader : SkipReaderState) (here : List ℕ) : Type 0 where
  pub few : num_vints reader.block_info ≤ 128
  pub after : List ℕ
  pub docs : docs_in reader.block_info reader.last_doc_in_previous_block here ≡ Some (block_of p.postings.docs reader.block, after)
  pub freqs : (fs : List ℕ) → p.postings.freqs ≡ Some fs → FreqsThere reader fs after

full_there : (p : CheckedPostingsState) (reader : SkipReaderState) (here : List ℕ) → AreGiven p → IsAtBlock p reader → here ≡ drop reader.byte_offset p.postings.skip.body → reader.block < p.doc_freq / 128 → IsThere p reader here
full_there p reader here g at here_is below =
    let i = reader.block in
    let skip = p.postings.skip in
    let tells = at_full_block reader skip.skip_info p.doc_freq i skip.entries at.reader below in
    let entries = g.entries in
    let block = block_of_documents skip (p.doc_freq % 128) i p.postings.docs p.postings.after g.documents (omega arith) in
    let e = skip_entry skip.entries i in
    let bytes : here ≡ drop (block_place skip.entries i) skip.body = here_is ∙ ap (λ (k : ℕ). drop k skip.body) tells.offset in
    let after = sorted_after e.strict_delta (last_doc_before skip.entries i) e.doc_num_bits (drop (block_place skip.entries i) skip.body) (block_of p.postings.docs i) block.after block.read in
    let none : num_vints (block_info_of e) ≤ 128 = omega arith in
    record {
      few = rw tells.info none;
      after = block.after;
      docs = (λ j. docs_in (tells.info j) (tells.before j) (bytes j)) ∙ block.read;
      freqs = λ fs read.
          let counts = block_of_freqs skip (p.doc_freq % 128) i p.postings.after fs (g.freqs fs read) (omega arith) in
          (counts.after, (λ j. freqs_in (tells.info j) (after j)) ∙ counts.read);
    }

rest_there : (p : CheckedPostingsState) (reader : SkipReaderState) (here : List ℕ) → AreGiven p → IsAtBlock p reader → here ≡ drop reader.byte_offset p.postings.skip.body → reader.block ≡ p.doc_freq / 128 → IsThere p reader here
rest_there p reader here g at here_is end =
    let i = reader.block in
    let skip = p.postings.skip in
    let tells = at_vints reader skip.skip_info p.doc_freq i skip.entries at.reader end in
    let entries = g.entries in
    let count : i ≡ length skip.entries = omega arith in
    let few : p.doc_freq % 128 ≤ 128 = omega arith in
    let rest = rest_of_documents skip (p.doc_freq % 128) i p.postings.docs p.postings.after g.documents (omega arith) count in
    let bytes : here ≡ drop (block_place skip.entries (length skip.entries)) skip.body = here_is ∙ ap (λ (k : ℕ). drop k skip.body) (tells.offset ∙ ap (block_place skip.entries) count) in
    let before = tells.before ∙ ap (last_doc_before skip.entries) count in
    record {
      few = rw tells.info few;
      after = p.postings.after;
      docs = (λ j. docs_in (tells.info j) (before j) (bytes j)) ∙ rest;
      freqs = λ fs read.
          let counts = rest_of_freqs skip (p.doc_freq % 128) i p.postings.after fs (g.freqs fs read) (omega arith) count in
          (counts.0, ap (λ (info : BlockInfo). freqs_in info p.postings.after) tells.info ∙ counts.1);
    }

nothing_left : (values : List ℕ) (i : ℕ) → length values ≤ 128 * i → block_of values i ≡ []
nothing_left values i h = ap (λ (vs : List ℕ). take 128 vs) (drop_all (128 * i) values h)

past_there : (p : CheckedPostingsState) (reader : SkipReaderState) (here : List ℕ) → AreGiven p → IsAtBlock p reader → reader.block ≡ p.doc_freq / 128 + 1 → IsThere p reader here
past_there p reader here g at end =
    let skip = p.postings.skip in
    let n = p.doc_freq % 128 in
    let tells = at_end reader skip.skip_info p.doc_freq reader.block skip.entries at.reader (omega arith) in
    let entries = g.entries in
    let many = length-documents_at skip n p.postings.docs p.postings.after g.documents in
    let none : num_vints (VInt 0) ≤ 128 = omega arith in
    let left = nothing_left p.postings.docs reader.block (omega arith) in
    record {
      few = rw tells.info none;
      after = here;
      docs = ap (λ (info : BlockInfo). docs_in info reader.last_doc_in_previous_block here) tells.info ∙ ap (λ (ds : List ℕ). Some (ds, here)) (sym left);
      freqs = λ fs read.
          let size = (freqs_fit skip n p.postings.after fs (g.freqs fs read)).many in
          let gone = nothing_left fs reader.block (omega arith) in
          (here, ap (λ (info : BlockInfo). freqs_in info here) tells.info ∙ ap (λ (vs : List ℕ). Some (vs, here)) (sym gone));
    }

there_cases : (p : CheckedPostingsState) (reader : SkipReaderState) (here : List ℕ) (t u : Bool) → AreGiven p → IsAtBlock p reader → here ≡ drop reader.byte_offset p.postings.skip.body
    → nat_lt reader.block (p.doc_freq / 128) ≡ t → nat_lt (p.doc_freq / 128) reader.block ≡ u → IsThere p reader here
there_cases p reader here true u g at here_is low high = full_there p reader here g at here_is (ltb-true reader.block (p.doc_freq / 128) low)
there_cases p reader here false false g at here_is low high =
    let least = ltb-false reader.block (p.doc_freq / 128) low in
    let most = ltb-false (p.doc_freq / 128) reader.block high in
    rest_there p reader here g at here_is (omega arith)
there_cases p reader here false true g at here_is low high =
    let above = ltb-true (p.doc_freq / 128) reader.block high in
    let within = at.within in
    past_there p reader here g at (omega arith)

-- each block is there
pub is_there : (p : CheckedPostingsState) (reader : SkipReaderState) (here : List ℕ) → AreGiven p → IsAtBlock p reader → here ≡ drop reader.byte_offset p.postings.skip.body → IsThere p reader here
is_there p reader here g at here_is = there_cases p reader here (nat_lt reader.block (p.doc_freq / 128)) (nat_lt (p.doc_freq / 128) reader.block) g at here_is refl refl

pub some_there : {A : Type 0} (o : Option A) (x : A) → o ≡ Some x → IsSome o
some_there None x e = absurd (cc)
some_there (Some y) x e = refl

-- what a decoder holds once it read a full block
pub row_of_block : (row : Option (List ℕ × List ℕ)) (rest : List ℕ) (padding : ℕ) (old new : BlockDecoderState) → Some (new.output, rest) ≡ row → length new.output ≡ 128 → new.output_len ≡ 128 → new.decodes ≡ old.decodes + 1
    → HoldsRow row padding old new
row_of_block row rest padding old new read size len decodes =
    let all = take_all new.output_len new.output (omega arith) in
    let one : decodes_of 128 ≡ 1 = refl in
    record {
      after = rest;
      read = sym read ∙ ap (λ (vs : List ℕ). Some (vs, rest)) (sym all);
      many = len ∙ sym size ∙ ap length (sym all);
      filled = drop_all new.output_len new.output (omega arith) ∙ (let none : 0 ≡ 128 - new.output_len = omega arith in ap (λ (n : ℕ). replicate n padding) none);
      decodes = decodes ∙ ap (λ (n : ℕ). old.decodes + decodes_of n) (sym len);
    }

-- and once it read vints
pub row_of_vints : (row : Option (List ℕ × List ℕ)) (rest : List ℕ) (padding n : ℕ) (old new : BlockDecoderState) → Some (take n new.output, rest) ≡ row → length (take n new.output) ≡ n → new.output_len ≡ n
    → drop n new.output ≡ replicate (128 - n) padding → new.decodes ≡ old.decodes + decodes_of n → HoldsRow row padding old new
row_of_vints row rest padding n old new read size len filled decodes =
    let same : take n new.output ≡ take new.output_len new.output = ap (λ (k : ℕ). take k new.output) (sym len) in
    record {
      after = rest;
      read = sym read ∙ ap (λ (vs : List ℕ). Some (vs, rest)) same;
      many = len ∙ sym size ∙ ap length same;
      filled = ap (λ (k : ℕ). drop k new.output) len ∙ filled ∙ ap (λ (k : ℕ). replicate (128 - k) padding) (sym len);
      decodes = decodes ∙ ap (λ (k : ℕ). old.decodes + decodes_of k) (sym len);
    }

-- a row that is a block
pub loads : (row : Option (List ℕ × List ℕ)) (values after : List ℕ) (block padding : ℕ) (old new : BlockDecoderState) → HoldsRow row padding old new → row ≡ Some (block_of values block, after) → Loads values block padding old new
loads row values after block padding old new h e =
    let same = ap (λ (p : List ℕ × List ℕ). p.0) (some-same (sym h.read ∙ e)) in
    let many = h.many ∙ ap length same in
    record { holds = record { many = many; held = same; filled = h.filled }; decodes = h.decodes ∙ ap (λ (n : ℕ). old.decodes + decodes_of n) many }

-- counts that are read, and counts that are not
pub loads_freqs : (o : Option (List ℕ)) (block : ℕ) (old new : BlockDecoderState) → is_some o ≡ true → ((fs : List ℕ) → o ≡ Some fs → Loads fs block 1 old new) → LoadsFreqs o block old new
loads_freqs None block old new some all = absurd (cc)
loads_freqs (Some fs) block old new some all = all fs refl

pub keeps_freqs : (o : Option (List ℕ)) (block : ℕ) (old new : BlockDecoderState) → is_some o ≡ false → new ≡ old → LoadsFreqs o block old new
keeps_freqs None block old new none same = same
keeps_freqs (Some fs) block old new none same = absurd (cc)

-- The same, in the arguments of a call that borrows the bytes of the block.
pub record IsTold (p : CheckedPostingsState) (block : ℕ) (info : BlockInfo) (before : ℕ) (here : List ℕ) : Type 0 where
  pub few : num_vints info ≤ 128
  pub after : List ℕ
  pub docs : docs_in info before here ≡ Some (block_of p.postings.docs block, after)
  pub freqs : (fs : List ℕ) → p.postings.freqs ≡ Some fs → (left : List ℕ) × (freqs_in info after ≡ Some (block_of fs block, left))

pub is_told : (p : CheckedPostingsState) (reader : SkipReaderState) (info : BlockInfo) (before : ℕ) (here : List ℕ) → AreGiven p → IsAtBlock p reader → here ≡ drop reader.byte_offset p.postings.skip.body
    → info ≡ reader.block_info → before ≡ reader.last_doc_in_previous_block → IsTold p reader.block info before here
is_told p reader info before here g at here_is info_is before_is =
    let there = is_there p reader here g at here_is in
    record {
      few = rw info_is there.few;
      after = there.after;
      docs = (λ j. docs_in (info_is j) (before_is j) here) ∙ there.docs;
      freqs = λ fs e.
          let counts = there.freqs fs e in
          (counts.0, ap (λ (i : BlockInfo). freqs_in i there.after) info_is ∙ counts.1);
    }

pub after_is : (o : Option (List ℕ × List ℕ)) (docs after rest : List ℕ) → o ≡ Some (docs, after) → option_map (λ (found : List ℕ × List ℕ). found.1) o ≡ Some rest → rest ≡ after
after_is o docs after rest e mapped = some-same (sym mapped ∙ ap (option_map (λ (found : List ℕ × List ℕ). found.1)) e)

-- counts from there on, where they are read
pub told_freqs : (o : Option (List ℕ)) (block : ℕ) (info : BlockInfo) (after : List ℕ) → is_some o ≡ true → ((fs : List ℕ) → o ≡ Some fs → (left : List ℕ) × (freqs_in info after ≡ Some (block_of fs block, left))) → IsSome (freqs_in info after)
told_freqs None block info after some all = absurd (cc)
told_freqs (Some fs) block info after some all = let found = all fs refl in some_there (freqs_in info after) (block_of fs block, found.0) found.1
