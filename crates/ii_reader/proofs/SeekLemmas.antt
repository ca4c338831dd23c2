-- Laws of seeks.
use Rattle.std.proofs.Common.{◌≡◌, ℕ, zero, suc, ◌+◌, ◌-◌, ◌*◌, ◌/◌, ◌<◌, ◌≤◌, Bool, true, false, List, length, drop, map, get_or, min, nat_lt, refl, sym, ap, ◌∙◌, arith, length-take, length-drop}
use Rattle.std.proofs.lemmas.Bool.{ltb-true, ltb-false}
use Rattle.std.proofs.lemmas.List.{get_or_past, get_or_default}
use Rattle.ii_base.specs.declared.doc_id.TheConstants.{TERMINATED}
use Rattle.ii_base.specs.Entries.{Entry, are_documents}
use Rattle.ii_docset.specs.Cursor.{doc_at, from_doc, IsAscending}
use Rattle.ii_docset.proofs.CursorLemmas.{advanced, from_doc_step, from_doc_here}
use Rattle.ii_layout.specs.Written.{block_of}
use Rattle.ii_layout.proofs.BlockDocs.{document_more, get_or-block_of}
use Rattle.ii_check.specs.CheckedPostings.{CheckedPostingsState, HasDocuments, SeeksBlock}
use Rattle.ii_reader.specs.BlockSegmentPostings.{AreEntries, IsBelow, IsSought, doc_in_block}
use Rattle.ii_reader.proofs.CursorLemmas.{doc_at_drop, next_place}

-- documents in order
rises_by : (docs : List ℕ) (i n : ℕ) → are_documents docs ≡ true → i + n < length docs → get_or docs i 0 ≤ get_or docs (i + n) 0
rises_by docs i zero h within =
    let same : i ≡ i + 0 = omega arith in
    let here = ap (λ (k : ℕ). get_or docs k 0) same in
    omega arith
rises_by docs i (suc n) h within =
    let before = rises_by docs i n h (omega arith) in
    let more = document_more docs (i + n) (i + suc n) (omega arith) h within in
    omega arith

pub rises : (docs : List ℕ) (i j : ℕ) → are_documents docs ≡ true → i ≤ j → j < length docs → get_or docs i 0 ≤ get_or docs j 0
rises docs i j h order within =
    let place : i + (j - i) ≡ j = omega arith in
    let up = rises_by docs i (j - i) h (omega arith) in
    let there = ap (λ (k : ℕ). get_or docs k 0) place in
    omega arith

-- What a seek found out of a block and of the documents in it.
pub record Found (target : ℕ) (docs : List ℕ) (i k below : ℕ) : Type 0 where
  pub up : are_documents docs ≡ true
  pub seeks : SeeksBlock target docs i k
  pub counts : IsBelow target (block_of docs k) below

in_block : (target : ℕ) (docs : List ℕ) (i k below n : ℕ) → Found target docs i k below → 128 * k ≤ n → n < 128 * k + below → get_or docs n 0 < target
in_block target docs i k below n f low high =
    let size = length-take 128 (drop (128 * k) docs) in
    let within = f.counts.within in
    let place : 128 * k + (n - 128 * k) ≡ n = omega arith in
    let here = get_or-block_of docs k (n - 128 * k) (omega arith) ∙ ap (λ (m : ℕ). get_or docs m 0) place in
    let less = f.counts.before (n - 128 * k) (omega arith) in
    omega arith

passed : (target : ℕ) (docs : List ℕ) (i k below n : ℕ) → Found target docs i k below → 128 * i ≤ n → n < 128 * k → get_or docs n 0 < target
passed target docs i k below n f low high =
    let within = f.seeks.within in
    let last = f.seeks.passed (n / 128) (omega arith) (omega arith) in
    let up = rises docs n (128 * (n / 128) + 127) f.up (omega arith) (omega arith) in
    omega arith

before_cases : (target : ℕ) (docs : List ℕ) (i k below n : ℕ) (t : Bool) → Found target docs i k below → nat_lt n (128 * k) ≡ t → 128 * i ≤ n → n < 128 * k + below → get_or docs n 0 < target
before_cases target docs i k below n true f test low high = passed target docs i k below n f low (ltb-true n (128 * k) test)
before_cases target docs i k below n false f test low high = in_block target docs i k below n f (ltb-false n (128 * k) test) high

-- the place of the answer lies in its block where that is full
pub inside_full : (target : ℕ) (docs : List ℕ) (i k below : ℕ) → Found target docs i k below → k < length docs / 128 → below < 128
inside_full target docs i k below f full = inside_cases (nat_lt below 128) refl
  where
    inside_cases : (t : Bool) → nat_lt below 128 ≡ t → below < 128
    inside_cases true test = ltb-true below 128 test
    inside_cases false test =
        let all = ltb-false below 128 test in
        let less = in_block target docs i k below (128 * k + 127) f (omega arith) (omega arith) in
        let enough = f.seeks.found full in
        absurd (omega arith)

after_inside : (target : ℕ) (docs : List ℕ) (i k below n : ℕ) → Found target docs i k below → below < length (block_of docs k) → 128 * k + below ≤ n → n < length docs → target ≤ get_or docs n 0
after_inside target docs i k below n f inside low high =
    let size = length-take 128 (drop (128 * k) docs) in
    let here = get_or-block_of docs k below (omega arith) in
    let enough = f.counts.there inside in
    let up = rises docs (128 * k + below) n f.up low high in
    omega arith

after_cases : (target : ℕ) (docs : List ℕ) (i k below n : ℕ) (t : Bool) → Found target docs i k below → nat_lt below (length (block_of docs k)) ≡ t → 128 * k + below ≤ n → n < length docs → target ≤ get_or docs n 0
after_cases target docs i k below n true f test low high = after_inside target docs i k below n f (ltb-true below (length (block_of docs k)) test) low high
after_cases target docs i k below n false f test low high =
    let all = ltb-false below (length (block_of docs k)) test in
    let size = length-take 128 (drop (128 * k) docs) in
    let left = length-drop (128 * k) docs in
    let full : k < length docs / 128 = omega arith in
    let less = inside_full target docs i k below f full in
    absurd (omega arith)

pub is_sought : (target : ℕ) (docs : List ℕ) (i k below : ℕ) → Found target docs i k below → IsSought target docs i k below
is_sought target docs i k below f =
    record {
      forward = f.seeks.forward;
      within = f.seeks.within;
      here = f.counts.within;
      inside = inside_full target docs i k below f;
      before = λ n low high. before_cases target docs i k below n (nat_lt n (128 * k)) f refl low high;
      after = λ n low high. after_cases target docs i k below n (nat_lt below (length (block_of docs k))) f refl low high;
    }

pub entries_are : (p : CheckedPostingsState) → HasDocuments p → AreEntries (length p.postings.docs) p.postings.docs p.postings.freqs
entries_are p h =
    let many = h.many in
    record { many = refl; ascending = h.ascending; freqs_are = λ fs e. rw many (h.freqs fs e) }

-- the remaining entries from the target on begin at the returned place
dropped : (target : ℕ) (es : List Entry) (m n : ℕ) → target ≤ TERMINATED → ((k : ℕ) → m ≤ k → k < m + n → doc_at (drop k es) < target) → from_doc target (drop m es) ≡ from_doc target (drop (m + n) es)
dropped target es m zero up less = let same : m ≡ m + 0 = omega arith in ap (λ (k : ℕ). from_doc target (drop k es)) same
dropped target es m (suc n) up less =
    let earlier = dropped target es m n up (λ k low high. less k low (omega arith)) in
    let next : m + suc n ≡ m + n + 1 = omega arith in
    let step = from_doc_step target (drop (m + n) es) (less (m + n) (omega arith) (omega arith)) up in
    earlier ∙ sym step ∙ ap (from_doc target) (sym (advanced es (m + n)) ∙ ap (λ (k : ℕ). drop k es) (sym next))

-- where a seek leaves a cursor over entries
doc_low : (target : ℕ) (docs : List ℕ) (es : List Entry) (i k below m n : ℕ) → IsSought target docs i k below → map (λ (e : Entry). e.doc) es ≡ docs → 128 * i ≤ m → m ≤ n → n < 128 * k + below → n < length docs → doc_at (drop n es) < target
doc_low target docs es i k below m n s docs_are low order high within =
    let here = sym (doc_at_drop es n) ∙ ap (λ (ds : List ℕ). get_or ds n TERMINATED) docs_are ∙ sym (get_or_default docs n 0 TERMINATED within) in
    let less = s.before n (omega arith) high in
    omega arith

end_cases : (target : ℕ) (docs : List ℕ) (es : List Entry) (i k below : ℕ) (t : Bool) → IsSought target docs i k below → map (λ (e : Entry). e.doc) es ≡ docs → target ≤ TERMINATED → nat_lt (128 * k + below) (length docs) ≡ t → target ≤ doc_at (drop (128 * k + below) es)
end_cases target docs es i k below true s docs_are up test =
    let within = ltb-true (128 * k + below) (length docs) test in
    let here = sym (doc_at_drop es (128 * k + below)) ∙ ap (λ (ds : List ℕ). get_or ds (128 * k + below) TERMINATED) docs_are ∙ sym (get_or_default docs (128 * k + below) 0 TERMINATED within) in
    let enough = s.after (128 * k + below) (omega arith) within in
    omega arith
end_cases target docs es i k below false s docs_are up test =
    let past = ltb-false (128 * k + below) (length docs) test in
    let here = sym (doc_at_drop es (128 * k + below)) ∙ ap (λ (ds : List ℕ). get_or ds (128 * k + below) TERMINATED) docs_are ∙ get_or_past docs (128 * k + below) TERMINATED past in
    omega arith

-- Where a cursor over entries stood, and where a seek left it.
pub record Moved (target : ℕ) (docs : List ℕ) (es : List Entry) (i cur k below : ℕ) : Type 0 where
  pub are : map (λ (e : Entry). e.doc) es ≡ docs
  pub ascending : IsAscending (drop (128 * k + below) es)
  pub up : target ≤ TERMINATED
  pub within : cur < 128
  pub current : doc_at (drop (128 * i + cur) es) < target
  pub sought : IsSought target docs i k below

current_inside : (target : ℕ) (docs : List ℕ) (es : List Entry) (i cur k below : ℕ) (t : Bool) → Moved target docs es i cur k below → nat_lt (128 * i + cur) (length docs) ≡ t → 128 * i + cur < length docs
current_inside target docs es i cur k below true m test = ltb-true (128 * i + cur) (length docs) test
current_inside target docs es i cur k below false m test =
    let past = ltb-false (128 * i + cur) (length docs) test in
    let here = sym (doc_at_drop es (128 * i + cur)) ∙ ap (λ (ds : List ℕ). get_or ds (128 * i + cur) TERMINATED) m.are ∙ get_or_past docs (128 * i + cur) TERMINATED past in
    let up = m.up in
    let less = m.current in
    absurd (omega arith)

order_cases : (target : ℕ) (docs : List ℕ) (es : List Entry) (i cur k below : ℕ) (t : Bool) → Moved target docs es i cur k below → nat_lt (128 * i + cur) (128 * k + below) ≡ t → 128 * i + cur < 128 * k + below
order_cases target docs es i cur k below true m test = ltb-true (128 * i + cur) (128 * k + below) test
order_cases target docs es i cur k below false m test =
    let past = ltb-false (128 * i + cur) (128 * k + below) test in
    let inside = current_inside target docs es i cur k below (nat_lt (128 * i + cur) (length docs)) m refl in
    let here = sym (doc_at_drop es (128 * i + cur)) ∙ ap (λ (ds : List ℕ). get_or ds (128 * i + cur) TERMINATED) m.are ∙ sym (get_or_default docs (128 * i + cur) 0 TERMINATED inside) in
    let enough = m.sought.after (128 * i + cur) past inside in
    let less = m.current in
    absurd (omega arith)

-- what is left is what the target leaves
pub rest_sought : (target : ℕ) (docs : List ℕ) (es : List Entry) (i cur k below : ℕ) → Moved target docs es i cur k below → drop (128 * k + below) es ≡ from_doc target (drop (128 * i + cur) es)
rest_sought target docs es i cur k below m =
    let order = order_cases target docs es i cur k below (nat_lt (128 * i + cur) (128 * k + below)) m refl in
    let far = 128 * k + below - (128 * i + cur) in
    let place : 128 * i + cur + far ≡ 128 * k + below = omega arith in
    let here = m.sought.here in
    let size = length-take 128 (drop (128 * k) docs) in
    let left = length-drop (128 * k) docs in
    let reach = m.sought.within in
    let inside = current_inside target docs es i cur k below (nat_lt (128 * i + cur) (length docs)) m refl in
    let gone = dropped target es (128 * i + cur) far m.up (λ n low high. doc_low target docs es i k below (128 * i + cur) n m.sought m.are (omega arith) low (omega arith) (omega arith)) in
    let stays = from_doc_here target (drop (128 * k + below) es) m.ascending (end_cases target docs es i k below (nat_lt (128 * k + below) (length docs)) m.sought m.are m.up refl) in
    sym (gone ∙ ap (λ (n : ℕ). from_doc target (drop n es)) place ∙ stays)

-- the place of an answer lies in its block
pub below_block : (target : ℕ) (docs : List ℕ) (i k below : ℕ) (t : Bool) → IsSought target docs i k below → nat_lt k (length docs / 128) ≡ t → below < 128
below_block target docs i k below true s test = s.inside (ltb-true k (length docs / 128) test)
below_block target docs i k below false s test =
    let past = ltb-false k (length docs / 128) test in
    let here = s.here in
    let size = length-take 128 (drop (128 * k) docs) in
    let left = length-drop (128 * k) docs in
    omega arith

-- the block that is held, where the target isn't above its last entry
pub seeks_here : (target : ℕ) (docs : List ℕ) (i : ℕ) → target ≤ doc_in_block docs i 127 → SeeksBlock target docs i i
seeks_here target docs i low =
    record {
      forward = omega arith;
      within = omega arith;
      passed = λ j from below. absurd (omega arith);
      found = λ full.
          let size = length-take 128 (drop (128 * i) docs) in
          let left = length-drop (128 * i) docs in
          let here = sym (get_or_default (block_of docs i) 127 0 TERMINATED (omega arith)) ∙ get_or-block_of docs i 127 (omega arith) in
          omega arith;
    }

full_cases : (docs : List ℕ) (i : ℕ) (t : Bool) → nat_lt 127 (length (block_of docs i)) ≡ t → doc_in_block docs i 127 < TERMINATED → 127 < length (block_of docs i)
full_cases docs i true test below = ltb-true 127 (length (block_of docs i)) test
full_cases docs i false test below =
    let past = get_or_past (block_of docs i) 127 TERMINATED (ltb-false 127 (length (block_of docs i)) test) in
    absurd (omega arith)

on_cases : (target : ℕ) (docs : List ℕ) (i k : ℕ) (t : Bool) → doc_in_block docs i 127 < target → target ≤ TERMINATED → SeeksBlock target docs i k → nat_lt i k ≡ t → i < k
on_cases target docs i k true high up s test = ltb-true i k test
on_cases target docs i k false high up s test =
    let past = ltb-false i k test in
    let forward = s.forward in
    let same : k ≡ i = omega arith in
    let inside = full_cases docs i (nat_lt 127 (length (block_of docs i))) refl (omega arith) in
    let size = length-take 128 (drop (128 * i) docs) in
    let left = length-drop (128 * i) docs in
    let here = sym (get_or_default (block_of docs i) 127 0 TERMINATED inside) ∙ get_or-block_of docs i 127 (omega arith) in
    let there = ap (λ (n : ℕ). get_or docs (128 * n + 127) 0) same in
    let enough = s.found (omega arith) in
    absurd (omega arith)

-- a target above the last entry lies in a later block
pub goes_on : (target : ℕ) (docs : List ℕ) (i k : ℕ) → doc_in_block docs i 127 < target → target ≤ TERMINATED → SeeksBlock target docs i k → i < k
goes_on target docs i k high up s = on_cases target docs i k (nat_lt i k) high up s refl

near_cases : (target : ℕ) (es : List Entry) (b cur next : ℕ) (t : Bool) → next ≡ min (cur + 1) 127 → cur < 128 → nat_lt cur 127 ≡ t → doc_at (drop (128 * b + cur) es) < target → target ≤ TERMINATED → IsAscending (drop (128 * b + next) es)
    → target ≤ doc_at (drop (128 * b + next) es) → drop (128 * b + next) es ≡ from_doc target (drop (128 * b + cur) es)
near_cases target es b cur next true e within test low up ascending high =
    let below = ltb-true cur 127 test in
    let place : next ≡ cur + 1 = omega arith in
    let on : drop (128 * b + next) es ≡ drop 1 (drop (128 * b + cur) es) = ap (λ (n : ℕ). drop (128 * b + n) es) place ∙ next_place es b cur in
    sym (from_doc_here target (drop (128 * b + next) es) ascending high) ∙ ap (from_doc target) on ∙ from_doc_step target (drop (128 * b + cur) es) low up
near_cases target es b cur next false e within test low up ascending high =
    let past = ltb-false cur 127 test in
    let place : next ≡ cur = omega arith in
    let same = ap (λ (n : ℕ). doc_at (drop (128 * b + n) es)) place in
    absurd (omega arith)

-- what is left from the next document of the block on, where that isn't below the target
pub rest_near : (target : ℕ) (es : List Entry) (b cur next : ℕ) → next ≡ min (cur + 1) 127 → cur < 128 → doc_at (drop (128 * b + cur) es) < target → target ≤ TERMINATED → IsAscending (drop (128 * b + next) es)
    → target ≤ doc_at (drop (128 * b + next) es) → drop (128 * b + next) es ≡ from_doc target (drop (128 * b + cur) es)
rest_near target es b cur next e within low up ascending high = near_cases target es b cur next (nat_lt cur 127) e within refl low up ascending high
