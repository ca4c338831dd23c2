-- Laws of the documents of a term, block by block.
use Rattle.std.proofs.Common.{◌≡◌, ℕ, zero, suc, ◌+◌, ◌*◌, ◌<◌, ◌≤◌, Bool, true, false, List, [], ◌∷◌, ◌++◌, length, drop, get_or, Option, Some, eqb, eq-eqb, nat_lt, refl, sym, ap, ◌∙◌, arith, append_assoc, length-append}
use Rattle.std.proofs.lemmas.List.{drop-drop, get_or_append_left, take_all}
use Rattle.std.proofs.lemmas.Bool.{ltb-true, ltb-false, eqb-true, and_parts}
use Rattle.std.proofs.Math.Seq.{take-append_seam, drop-append_seam}
use Rattle.std.specs.List.{concat}
use Rattle.ii_io.specs.StepLemmas.{needs-some, step-some, some-same}
use Rattle.ii_base.specs.Entries.{ascend_from, are_documents}
use Rattle.ii_base.proofs.AscentLemmas.{least_after, ascend-append, least_after-last}
use Rattle.ii_codes.specs.Blocks.{sorted_block_at}
use Rattle.ii_codes.proofs.LengthLemmas.{length-sorted_block_at, length-sorted_vints_at}
use Rattle.ii_layout.specs.Each.{each}
use Rattle.ii_layout.specs.SkipList.{SkipEntry, SkipList, block_place}
use Rattle.ii_layout.specs.Documents.{skip_entry, last_doc_before, block_docs, rest_docs, documents_at}
use Rattle.ii_layout.specs.Written.{block_of}

-- What a row gives, each index of it gives.
pub record Gives (f : ℕ → Option (List ℕ)) (n : ℕ) (xs : List (List ℕ)) : Type 0 where
  pub many : length xs ≡ n
  pub at : (i : ℕ) → i < n → f i ≡ Some (get_or xs i [])

last_index : (ys : List (List ℕ)) (y : List ℕ) → get_or (ys ++ y ∷ []) (length ys) [] ≡ y
last_index [] y = refl
last_index (x ∷ ys) y = last_index ys y

given_cases : (f : ℕ → Option (List ℕ)) (n : ℕ) (ys : List (List ℕ)) (y : List ℕ) → Gives f n ys → f n ≡ Some y → (i : ℕ) → i < suc n → (t : Bool) → nat_lt i n ≡ t → f i ≡ Some (get_or (ys ++ y ∷ []) i [])
given_cases f n ys y g e i h true test =
    let below = ltb-true i n test in
    let many = g.many in
    g.at i below ∙ ap Some (sym (get_or_append_left ys (y ∷ []) [] i (omega arith)))
given_cases f n ys y g e i h false test =
    let above = ltb-false i n test in
    let same : i ≡ n = omega arith in
    let many = g.many in
    let place : length ys ≡ i = omega arith in
    ap f same ∙ e ∙ ap Some (sym (ap (λ (k : ℕ). get_or (ys ++ y ∷ []) k []) (sym place) ∙ last_index ys y))

pub each_gives : (f : ℕ → Option (List ℕ)) (n : ℕ) (xs : List (List ℕ)) → each f n ≡ Some xs → Gives f n xs
each_gives f zero xs e = record { many = sym (ap length (some-same e)); at = λ i h. absurd (omega arith) }
each_gives f (suc n) xs e =
    let earlier = step-some (each f n) _ xs e in
    let last = step-some (f n) _ xs earlier.2 in
    let ih = each_gives f n earlier.0 earlier.1 in
    let whole = some-same last.2 in
    let many = ih.many in
    record {
      many = sym (ap length whole) ∙ length-append earlier.0 (last.0 ∷ []) ∙ (let sum : length earlier.0 + 1 ≡ suc n = omega arith in sum);
      at = λ i h. given_cases f n earlier.0 last.0 ih last.1 i h (nat_lt i n) refl ∙ ap (λ (ys : List (List ℕ)). Some (get_or ys i [])) whole;
    }

-- the least document of block i
abbrev pub least_at : ℕ → List (List ℕ) → ℕ → ℕ
least_at least blocks zero = least
least_at least [] (suc i) = least
least_at least (b ∷ bs) (suc i) = least_at (least_after least b) bs i

-- Each block has 128 documents.
abbrev pub AreWhole : List (List ℕ) → Type 0
AreWhole blocks = (i : ℕ) → i < length blocks → length (get_or blocks i []) ≡ 128

whole_rest : (b : List ℕ) (bs : List (List ℕ)) → AreWhole (b ∷ bs) → AreWhole bs
whole_rest b bs h i below = h (suc i) (omega arith)

pub least_at-last : (least i : ℕ) (blocks : List (List ℕ)) → AreWhole blocks → i < length blocks → least_at least blocks (suc i) ≡ get_or (get_or blocks i []) 127 0 + 1
least_at-last least i [] h below = absurd (omega arith)
least_at-last least zero (b ∷ bs) h below = least_after-last least 127 b (h 0 (omega arith))
least_at-last least (suc i) (b ∷ bs) h below = least_at-last (least_after least b) i bs (whole_rest b bs h) (omega arith)

-- where all ascends, each block does after the ones before it
pub block_ascends : (least i : ℕ) (blocks : List (List ℕ)) (rest : List ℕ) → ascend_from least (concat blocks ++ rest) ≡ true → i < length blocks
    → ascend_from (least_at least blocks i) (get_or blocks i []) ≡ true
block_ascends least i [] rest up h = absurd (omega arith)
block_ascends least zero (b ∷ bs) rest up h =
    let parts = rw (append_assoc, ascend-append least b (concat bs ++ rest)) at up in
    (and_parts (ascend_from least b) (ascend_from (least_after least b) (concat bs ++ rest)) parts).0
block_ascends least (suc i) (b ∷ bs) rest up h =
    let parts = rw (append_assoc, ascend-append least b (concat bs ++ rest)) at up in
    block_ascends (least_after least b) i bs rest (and_parts (ascend_from least b) (ascend_from (least_after least b) (concat bs ++ rest)) parts).1 (omega arith)

-- the place of a block among the documents
pub length-concat : (blocks : List (List ℕ)) → AreWhole blocks → length (concat blocks) ≡ 128 * length blocks
length-concat [] h = refl
length-concat (b ∷ bs) h =
    let size = h 0 (omega arith) in
    let ih = length-concat bs (whole_rest b bs h) in
    let total = length-append b (concat bs) in
    omega arith

pub concat_block : (b : ℕ) (blocks : List (List ℕ)) (rest : List ℕ) → AreWhole blocks → b < length blocks → block_of (concat blocks ++ rest) b ≡ get_or blocks b []
concat_block b [] rest h below = absurd (omega arith)
concat_block zero (x ∷ xs) rest h below =
    let seam = take-append_seam x (concat xs ++ rest) in
    rw append_assoc (rw (h 0 (omega arith)) at seam)
concat_block (suc b) (x ∷ xs) rest h below =
    let size = h 0 (omega arith) in
    let place : 128 * suc b ≡ 128 + 128 * b = omega arith in
    let seam = rw size at (drop-append_seam x (concat xs ++ rest)) in
    rw (place, ← drop-drop (128 * b) 128 ((x ++ concat xs) ++ rest), append_assoc, seam) (concat_block b xs rest (whole_rest x xs h) (omega arith))

pub last_block : (i : ℕ) (blocks : List (List ℕ)) (rest : List ℕ) → AreWhole blocks → i ≡ length blocks → length rest ≤ 128 → block_of (concat blocks ++ rest) i ≡ rest
last_block i blocks rest whole end few =
    let size = length-concat blocks whole in
    let here : 128 * i ≡ length (concat blocks) = omega arith in
    rw (here, drop-append_seam (concat blocks) rest) (take_all 128 rest few)

-- What holds for the documents of a valid block.
pub record StandsBlock (skip : SkipList) (i : ℕ) (docs : List ℕ) : Type 0 where
  pub after : List ℕ
  pub read : sorted_block_at (skip_entry skip.entries i).strict_delta (last_doc_before skip.entries i) (skip_entry skip.entries i).doc_num_bits (drop (block_place skip.entries i) skip.body) ≡ Some (docs, after)
  pub last : get_or docs 127 0 ≡ (skip_entry skip.entries i).last_doc

pub stands_block : (skip : SkipList) (i : ℕ) (docs : List ℕ) → block_docs skip i ≡ Some docs → StandsBlock skip i docs
stands_block skip i docs e =
    let found = step-some (sorted_block_at (skip_entry skip.entries i).strict_delta (last_doc_before skip.entries i) (skip_entry skip.entries i).doc_num_bits (drop (block_place skip.entries i) skip.body)) _ docs e in
    let last = needs-some (eqb (get_or found.0.0 127 0) (skip_entry skip.entries i).last_doc) _ docs found.2 in
    let same = some-same last.1 in
    record {
      after = found.0.1;
      read = found.1 ∙ ap (λ (d : List ℕ). Some (d, found.0.1)) same;
      last = rw same at (eqb-true (get_or found.0.0 127 0) (skip_entry skip.entries i).last_doc last.0);
    }

pub block_stands : (skip : SkipList) (i : ℕ) (docs after : List ℕ)
    → sorted_block_at (skip_entry skip.entries i).strict_delta (last_doc_before skip.entries i) (skip_entry skip.entries i).doc_num_bits (drop (block_place skip.entries i) skip.body) ≡ Some (docs, after)
    → get_or docs 127 0 ≡ (skip_entry skip.entries i).last_doc → block_docs skip i ≡ Some docs
block_stands skip i docs after read last = rw (read, eq-eqb (get_or docs 127 0) (skip_entry skip.entries i).last_doc last) refl

pub are_whole : (skip : SkipList) (n : ℕ) (blocks : List (List ℕ)) → each (block_docs skip) n ≡ Some blocks → AreWhole blocks
are_whole skip n blocks e i h =
    let all = each_gives (block_docs skip) n blocks e in
    let many = all.many in
    let block = stands_block skip i (get_or blocks i []) (all.at i (omega arith)) in
    length-sorted_block_at _ _ _ _ (get_or blocks i []) block.after block.read

-- the least document of block i, by the entry before it
abbrev pub least_of : List SkipEntry → ℕ → ℕ
least_of entries zero = 0
least_of entries (suc i) = last_doc_before entries (suc i) + 1

pub least_of_all : (skip : SkipList) (n i : ℕ) (blocks : List (List ℕ)) → each (block_docs skip) n ≡ Some blocks → i < n → least_at 0 blocks i ≡ least_of skip.entries i
least_of_all skip n zero blocks e h = refl
least_of_all skip n (suc i) blocks e h =
    let all = each_gives (block_docs skip) n blocks e in
    let many = all.many in
    let block = stands_block skip i (get_or blocks i []) (all.at i (omega arith)) in
    least_at-last 0 i blocks (are_whole skip n blocks e) (omega arith) ∙ ap (λ (d : ℕ). d + 1) block.last

-- What holds for valid documents.
pub record Stands (skip : SkipList) (n : ℕ) (docs after : List ℕ) : Type 0 where
  pub blocks : List (List ℕ)
  pub rest : List ℕ
  pub read : each (block_docs skip) (length skip.entries) ≡ Some blocks
  pub rest_read : rest_docs skip n ≡ Some (rest, after)
  pub up : are_documents (concat blocks ++ rest) ≡ true
  pub docs_are : docs ≡ concat blocks ++ rest

pub stands : (skip : SkipList) (n : ℕ) (docs after : List ℕ) → documents_at skip n ≡ Some (docs, after) → Stands skip n docs after
stands skip n docs after e =
    let blocks = step-some (each (block_docs skip) (length skip.entries)) _ (docs, after) e in
    let rest = step-some (rest_docs skip n) _ (docs, after) blocks.2 in
    let up = needs-some (are_documents (concat blocks.0 ++ rest.0.0)) _ (docs, after) rest.2 in
    let same = some-same up.1 in
    record {
      blocks = blocks.0;
      rest = rest.0.0;
      read = blocks.1;
      rest_read = rest.1 ∙ ap (λ (b : List ℕ). Some (rest.0.0, b)) (ap (λ (p : List ℕ × List ℕ). p.1) same);
      up = up.0;
      docs_are = sym (ap (λ (p : List ℕ × List ℕ). p.0) same);
    }

-- Valid documents ascend, are as many as requested, and lie in their blocks.
pub documents_ascend : (skip : SkipList) (n : ℕ) (docs after : List ℕ) → documents_at skip n ≡ Some (docs, after) → are_documents docs ≡ true
documents_ascend skip n docs after e = let s = stands skip n docs after e in ap are_documents s.docs_are ∙ s.up

pub length-documents_at : (skip : SkipList) (n : ℕ) (docs after : List ℕ) → documents_at skip n ≡ Some (docs, after) → length docs ≡ 128 * length skip.entries + n
length-documents_at skip n docs after e =
    let s = stands skip n docs after e in
    let many = (each_gives (block_docs skip) (length skip.entries) s.blocks s.read).many in
    let blocks = length-concat s.blocks (are_whole skip (length skip.entries) s.blocks s.read) in
    let rest = length-sorted_vints_at _ n _ s.rest after s.rest_read in
    ap length s.docs_are ∙ omega (arith, length-append (concat s.blocks) s.rest)

pub block_of_documents : (skip : SkipList) (n i : ℕ) (docs after : List ℕ) → documents_at skip n ≡ Some (docs, after) → i < length skip.entries → StandsBlock skip i (block_of docs i)
block_of_documents skip n i docs after e h =
    let s = stands skip n docs after e in
    let all = each_gives (block_docs skip) (length skip.entries) s.blocks s.read in
    let many = all.many in
    let here : block_of docs i ≡ get_or s.blocks i [] = ap (λ (ds : List ℕ). block_of ds i) s.docs_are ∙ concat_block i s.blocks s.rest (are_whole skip (length skip.entries) s.blocks s.read) (omega arith) in
    rw here (stands_block skip i (get_or s.blocks i []) (all.at i h))

pub rest_of_documents : (skip : SkipList) (n i : ℕ) (docs after : List ℕ) → documents_at skip n ≡ Some (docs, after) → n < 128 → i ≡ length skip.entries → rest_docs skip n ≡ Some (block_of docs i, after)
rest_of_documents skip n i docs after e few end =
    let s = stands skip n docs after e in
    let many = (each_gives (block_docs skip) (length skip.entries) s.blocks s.read).many in
    let size = length-sorted_vints_at _ n _ s.rest after s.rest_read in
    let here : block_of docs i ≡ s.rest = ap (λ (ds : List ℕ). block_of ds i) s.docs_are ∙ last_block i s.blocks s.rest (are_whole skip (length skip.entries) s.blocks s.read) (end ∙ sym many) (omega arith) in
    rw here s.rest_read
