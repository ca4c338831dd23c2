-- Seeks over the blocks of validated postings.
use Rattle.std.proofs.Common.{◌≡◌, ℕ, ◌+◌, ◌*◌, ◌/◌, ◌%◌, ◌<◌, ◌≤◌, Bool, true, false, ◌||◌, List, length, get_or, min, nat_lt, refl, sym, ap, ◌∙◌, arith}
use Rattle.std.proofs.lemmas.Bool.{le-ltb, lt-ltb, ltb-true, ltb-false}
use Rattle.ii_base.specs.declared.doc_id.TheConstants.{TERMINATED}
use Rattle.ii_layout.specs.SkipList.{SkipEntry, entry_size, entries_at}
use Rattle.ii_layout.specs.SkipReader.{SkipReaderState, Seeks, reader_at}
use Rattle.ii_layout.specs.Documents.{skip_entry}
use Rattle.ii_layout.proofs.BlockDocs.{get_or-block_of}
use Rattle.ii_layout.proofs.DocumentLemmas.{block_of_documents}
use Rattle.ii_check.specs.Check.{excludes_in}
use Rattle.ii_check.specs.CheckedPostings.{CheckedPostingsState, AreGiven, IsAtBlock, IsSkipData, SeeksBlock, SeeksFreq, is_passed}
use Rattle.ii_check.proofs.CheckedPostingsLemmas.{has_documents}

-- what a reader of the postings borrows
pub lent : (p : CheckedPostingsState) (skip : SkipReaderState) (bytes : List ℕ) → IsAtBlock p skip → IsSkipData p bytes
    → (entry_size skip.skip_info * (skip.doc_freq / 128) ≤ length bytes) × (skip ≡ reader_at skip.skip_info skip.doc_freq (entries_at skip.skip_info (skip.doc_freq / 128) bytes) skip.block)
lent p skip bytes at d =
    let info : skip.skip_info ≡ p.postings.skip.skip_info = ap (λ (r : SkipReaderState). r.skip_info) at.reader in
    let freq : skip.doc_freq ≡ p.doc_freq = ap (λ (r : SkipReaderState). r.doc_freq) at.reader in
    let enough : entry_size skip.skip_info * (skip.doc_freq / 128) ≤ length bytes = rw (info, freq) d.enough in (
      enough,
      at.reader ∙ ap (λ (es : List SkipEntry). reader_at p.postings.skip.skip_info p.doc_freq es skip.block) d.entries ∙ (λ j. reader_at (sym info j) (sym freq j) (entries_at (sym info j) (sym freq j / 128) bytes) skip.block),
    )

-- the last document of a full block is its entry's
last_is : (p : CheckedPostingsState) (j : ℕ) → AreGiven p → j < p.doc_freq / 128 → (skip_entry p.postings.skip.entries j).last_doc ≡ get_or p.postings.docs (128 * j + 127) 0
last_is p j g below =
    let entries = g.entries in
    let block = block_of_documents p.postings.skip (p.doc_freq % 128) j p.postings.docs p.postings.after g.documents (omega arith) in
    sym block.last ∙ get_or-block_of p.postings.docs j 127 (omega arith)

seeks_given : (p : CheckedPostingsState) (target i k : ℕ) → AreGiven p → Seeks target (p.doc_freq / 128) p.postings.skip.entries i k → SeeksBlock target p.postings.docs i k
seeks_given p target i k g s =
    let many = (has_documents p g).many in
    let within = s.within in
    record {
      forward = s.forward;
      within = omega arith;
      passed = λ j low high.
          let here = last_is p j g (omega arith) in
          let below = s.passed j low high in
          omega arith;
      found = λ full.
          let here = last_is p k g (omega arith) in
          let enough = s.found (omega arith) in
          omega arith;
    }

pub seeks_block : (p : CheckedPostingsState) (old new : SkipReaderState) (bytes : List ℕ) (target : ℕ) → AreGiven p → IsAtBlock p old → IsSkipData p bytes → Seeks target (old.doc_freq / 128) (entries_at old.skip_info (old.doc_freq / 128) bytes) old.block new.block
    → SeeksBlock target p.postings.docs old.block new.block
seeks_block p old new bytes target g at d s =
    let info : old.skip_info ≡ p.postings.skip.skip_info = ap (λ (r : SkipReaderState). r.skip_info) at.reader in
    let freq : old.doc_freq ≡ p.doc_freq = ap (λ (r : SkipReaderState). r.doc_freq) at.reader in
    seeks_given p target old.block new.block g (rw (info, freq, ← d.entries) at s)

-- what a reader returns about a block that isn't full
rest_cases : (p : CheckedPostingsState) (skip : SkipReaderState) (target least : ℕ) (t : Bool) → IsAtBlock p skip → target ≤ TERMINATED → nat_lt skip.block (p.doc_freq / 128) ≡ t
    → (nat_lt skip.last_doc_in_block target || excludes_in least skip.block_info) ≡ true → skip.block < p.doc_freq / 128
rest_cases p skip target least true at up test passed = ltb-true skip.block (p.doc_freq / 128) test
rest_cases p skip target least false at up test passed =
    let last = rw test at (ap (λ (r : SkipReaderState). r.last_doc_in_block) at.reader) in
    let info = rw test at (ap (λ (r : SkipReaderState). r.block_info) at.reader) in
    let past = le-ltb TERMINATED target up in
    let wrong = rw (last, info, past) at passed in
    absurd (cc)

pub full_where_passed : (p : CheckedPostingsState) (skip : SkipReaderState) (target least : ℕ) → IsAtBlock p skip → target ≤ TERMINATED → (nat_lt skip.last_doc_in_block target || excludes_in least skip.block_info) ≡ true → skip.block < p.doc_freq / 128
full_where_passed p skip target least at up passed = rest_cases p skip target least (nat_lt skip.block (p.doc_freq / 128)) at up refl passed

-- a reader determines whether its block is passed
pub passed_here : (p : CheckedPostingsState) (skip : SkipReaderState) (target least : ℕ) → AreGiven p → IsAtBlock p skip → skip.block < p.doc_freq / 128 → (nat_lt skip.last_doc_in_block target || excludes_in least skip.block_info) ≡ is_passed target least p.postings skip.block
passed_here p skip target least g at full =
    let test = lt-ltb skip.block (p.doc_freq / 128) full in
    let last = rw test at (ap (λ (r : SkipReaderState). r.last_doc_in_block) at.reader) in
    let info = rw test at (ap (λ (r : SkipReaderState). r.block_info) at.reader) in
    let here = last ∙ last_is p skip.block g full in
    (λ j. nat_lt (here j) target || excludes_in least (info j))

-- A seek by count went on to a block.
pub record IsPassing (target least : ℕ) (p : CheckedPostingsState) (i : ℕ) (skip : SkipReaderState) : Type 0 where
  pub at : IsAtBlock p skip
  pub behind : i < skip.block
  pub within : skip.block ≤ p.doc_freq / 128
  pub passed : (j : ℕ) → i < j → j < skip.block → is_passed target least p.postings j ≡ true

pub passes_first : (target least : ℕ) (p : CheckedPostingsState) (old new : SkipReaderState) → old.block < p.doc_freq / 128 → IsAtBlock p new → new.block ≡ min (old.block + 1) (p.doc_freq / 128 + 1) → IsPassing target least p old.block new
passes_first target least p old new full at next = record { at = at; behind = omega arith; within = omega arith; passed = λ j low high. absurd (omega arith) }

passed_cases : (target least : ℕ) (p : CheckedPostingsState) (i b j : ℕ) (t : Bool) → ((j : ℕ) → i < j → j < b → is_passed target least p.postings j ≡ true) → is_passed target least p.postings b ≡ true → nat_lt j b ≡ t → i < j → j < b + 1 → is_passed target least p.postings j ≡ true
passed_cases target least p i b j true before here test low high = before j low (ltb-true j b test)
passed_cases target least p i b j false before here test low high =
    let past = ltb-false j b test in
    let same : b ≡ j = omega arith in
    ap (is_passed target least p.postings) (sym same) ∙ here

pub passes_on : (target least : ℕ) (p : CheckedPostingsState) (i : ℕ) (old new : SkipReaderState) → AreGiven p → IsPassing target least p i old → target ≤ TERMINATED → (nat_lt old.last_doc_in_block target || excludes_in least old.block_info) ≡ true
    → IsAtBlock p new → new.block ≡ min (old.block + 1) (p.doc_freq / 128 + 1) → IsPassing target least p i new
passes_on target least p i old new g was up test at next =
    let full = full_where_passed p old target least was.at up test in
    let here = sym (passed_here p old target least g was.at full) ∙ test in
    let behind = was.behind in
    let block : new.block ≡ old.block + 1 = omega arith in
    record { at = at; behind = omega arith; within = omega arith; passed = λ j low high. passed_cases target least p i old.block j (nat_lt j old.block) was.passed here refl low (omega arith) }

pub seeks_freq : (target least : ℕ) (p : CheckedPostingsState) (i : ℕ) (skip : SkipReaderState) → AreGiven p → IsPassing target least p i skip → (nat_lt skip.last_doc_in_block target || excludes_in least skip.block_info) ≡ false → SeeksFreq target least p.postings i skip.block
seeks_freq target least p i skip g was test =
    let many = (has_documents p g).many in
    let within = was.within in
    record { behind = was.behind; within = omega arith; passed = was.passed; found = λ full. sym (passed_here p skip target least g was.at (omega arith)) ∙ test }
