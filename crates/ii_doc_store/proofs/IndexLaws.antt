-- The checkpoints of an index, as the reader walks them.
use Rattle.std.proofs.Common.{◌≡◌, ℕ, zero, suc, ◌+◌, ◌-◌, ◌*◌, ◌<◌, ◌≤◌, Bool, true, false, Vec, Global, List, [], ◌∷◌, ◌++◌, length, length-drop, take, drop, get_or, refl, sym, subst, ap, ◌∙◌, append_assoc, arith, ⊎_elim}
use Rattle.std.specs.Prelude.{Some, Result, Ok, Err, IfErr, IfOk, IsErrOf, MatchResult, OnOk, bytes_eq, slice_get, slice_range, nat_le, nat_lt, ◌&&◌, not, if◌then◌else◌}
use Rattle.std.specs.Borrow.{Bor}
use Rattle.std.specs.List.Sorted.{IsNonDecreasingBy}
use Rattle.sha2.specs.Sha256.{sha256}
use Rattle.std.proofs.lemmas.Bool.{leb-true, leb-false, le-leb, lt-leb, lt-ltb, ltb-false, ltb-true, le-ltb, eqb-true, cases_lt}
use Rattle.std.proofs.lemmas.List.{take_all}
use Rattle.std.proofs.lemmas.Option.{get_or_from_slice_get}
use Rattle.ii_block_file.specs.declared.faults.ReadFault.{ReadFault}
use Rattle.ii_block_file.specs.declared.faults.ReadFault.TheVariants as reads
use Rattle.ii_doc_store.specs.declared.checkpoint.BlockPlace.{BlockPlace}
use Rattle.ii_doc_store.specs.declared.checkpoint.Checkpoint.{Checkpoint}
use Rattle.ii_doc_store.specs.declared.faults.StoreDamage.{StoreDamage}
use Rattle.ii_doc_store.specs.declared.faults.StoreDamage.TheVariants.{Block, Footer, Index}
use Rattle.ii_doc_store.specs.declared.faults.StoreFileFault.{StoreFileFault}
use Rattle.ii_doc_store.specs.declared.faults.StoreFileFault.TheVariants as file
use Rattle.ii_doc_store.specs.declared.faults.StoreOpenFault.{StoreOpenFault}
use Rattle.ii_doc_store.specs.declared.faults.StoreOpenFault.TheVariants.{Damaged, OutOfMemory}
use Rattle.ii_doc_store.specs.StoreFile.{store_file_fault}
use Rattle.ii_doc_store.specs.StoreReader.{HoldsBlock, HoldsDocuments, IsBlockOf, StoreBlockState, are_in_order, block_with, block_with_from, blocks_end, blocks_in_footer, bytes_of_block, checkpoint_in, checkpoints_in, checkpoints_of, document_in, document_of, document_of_block, ends_before_from, footer_of, has_footer, has_index, index_of, is_footer, is_index, num_blocks_of, num_docs, num_docs_from, or_damaged}

both : (a b : Bool) → (a && b) ≡ true → (a ≡ true) × (b ≡ true)
both true true is = (refl, refl)
both true false is = absurd (cc)
both false true is = absurd (cc)
both false false is = absurd (cc)

-- one more checkpoint was read
pub read_one : (front : List Checkpoint) (count i : ℕ) (rest : List ℕ) (all : List Checkpoint) → i < count
    → front ++ checkpoints_in (count - i) rest ≡ all → (front ++ checkpoint_in (take 44 rest) ∷ []) ++ checkpoints_in (count - (i + 1)) (drop 44 rest) ≡ all
read_one front count i rest all below so_far =
    let left : count - i ≡ suc (count - (i + 1)) = omega arith in
    append_assoc front (checkpoint_in (take 44 rest) ∷ []) (checkpoints_in (count - (i + 1)) (drop 44 rest)) ∙ rw left at so_far

-- the end of a block, as where the next one begins
pub ends_before_at : (doc byte n : ℕ) (cs : List Checkpoint) (d : Checkpoint) → n < length cs → ends_before_from doc byte cs (suc n) ≡ ((get_or cs n d).doc_end, (get_or cs n d).byte_end)
ends_before_at doc byte n [] d inside = absurd (omega arith)
ends_before_at doc byte zero (c ∷ cs) d inside = refl
ends_before_at doc byte (suc n) (c ∷ cs) d inside = ends_before_at c.doc_end c.byte_end n cs d (omega arith)

-- the number of documents is where the last block ends
pub num_docs_last : (doc : ℕ) (cs : List Checkpoint) (d : Checkpoint) → 0 < length cs → num_docs_from doc cs ≡ (get_or cs (length cs - 1) d).doc_end
num_docs_last doc [] d some = absurd (omega arith)
num_docs_last doc (c ∷ []) d some = refl
num_docs_last doc (c ∷ e ∷ cs) d some =
    let last : length (c ∷ e ∷ cs) - 1 ≡ suc (length (e ∷ cs) - 1) = omega arith in
    rw last (num_docs_last c.doc_end (e ∷ cs) d (omega arith))

-- blocks that all end before a document
pub past_all : (doc i : ℕ) (cs : List Checkpoint) (d : Checkpoint) → doc ≤ i → ((k : ℕ) → k < length cs → nat_le (get_or cs k d).doc_end i ≡ true) → num_docs_from doc cs ≤ i
past_all doc i [] d start below = start
past_all doc i (c ∷ cs) d start below = past_all c.doc_end i cs d (leb-true c.doc_end i (below 0 (omega arith))) (λ k inside. below (suc k) (omega arith))

-- the block of a document is the first that ends after it
place_from : (number doc byte n : ℕ) (cs : List Checkpoint) (i : ℕ) (d : Checkpoint) → n < length cs → ((k : ℕ) → k < n → nat_le (get_or cs k d).doc_end i ≡ true) → nat_le (get_or cs n d).doc_end i ≡ false
    → block_with_from number doc byte cs i ≡ Some (record {
      number = number + n;
      first_doc = (ends_before_from doc byte cs n).0;
      doc_end = (get_or cs n d).doc_end;
      start = (ends_before_from doc byte cs n).1;
      end = (get_or cs n d).byte_end;
      digest = (get_or cs n d).digest;
    })
place_from number doc byte n [] i d inside below here = absurd (omega arith)
place_from number doc byte zero (c ∷ cs) i d inside below here =
    let found : nat_lt i c.doc_end ≡ true = lt-ltb i c.doc_end (leb-false c.doc_end i here) in
    let same : number + 0 ≡ number = omega arith in
    rw (found, same) refl
place_from number doc byte (suc n) (c ∷ cs) i d inside below here =
    let after : nat_lt i c.doc_end ≡ false = le-ltb i c.doc_end (leb-true c.doc_end i (below 0 (omega arith))) in
    let next : number + suc n ≡ suc number + n = omega arith in
    rw (after, next) (place_from (suc number) c.doc_end c.byte_end n cs i d (omega arith) (λ k inside. below (suc k) (omega arith)) here)

pub place_at : (n : ℕ) (cs : List Checkpoint) (i : ℕ) (d : Checkpoint) → n < length cs → ((k : ℕ) → k < n → nat_le (get_or cs k d).doc_end i ≡ true) → nat_le (get_or cs n d).doc_end i ≡ false
    → block_with cs i ≡ Some (record { number = n; first_doc = (ends_before_from 0 0 cs n).0; doc_end = (get_or cs n d).doc_end; start = (ends_before_from 0 0 cs n).1; end = (get_or cs n d).byte_end; digest = (get_or cs n d).digest })
place_at n cs i d inside below here =
    let same : 0 + n ≡ n = omega arith in
    rw same at (place_from 0 0 0 n cs i d inside below here)

-- checkpoints in order end at their start or after it
order_from : (doc byte end : ℕ) (cs : List Checkpoint) → are_in_order doc byte end cs ≡ true → (j : ℕ) (d : Checkpoint) → j < length cs → doc ≤ (get_or cs j d).doc_end
order_from doc byte end [] order j d inside = absurd (omega arith)
order_from doc byte end (c ∷ cs) order zero d inside = leb-true doc c.doc_end (both _ _ (both _ _ order).0).0
order_from doc byte end (c ∷ cs) order (suc j) d inside =
    let first = leb-true doc c.doc_end (both _ _ (both _ _ order).0).0 in
    let later = order_from c.doc_end c.byte_end end cs (both _ _ order).1 j d (omega arith) in
    omega arith

non_decreasing_from : (doc byte end : ℕ) (cs : List Checkpoint) → are_in_order doc byte end cs ≡ true → (i j : ℕ) (d : Checkpoint) → i ≤ j → j < length cs → (get_or cs i d).doc_end ≤ (get_or cs j d).doc_end
non_decreasing_from doc byte end [] order i j d below inside = absurd (omega arith)
non_decreasing_from doc byte end (c ∷ cs) order zero zero d below inside = omega arith
non_decreasing_from doc byte end (c ∷ cs) order zero (suc j) d below inside = order_from c.doc_end c.byte_end end cs (both _ _ order).1 j d (omega arith)
non_decreasing_from doc byte end (c ∷ cs) order (suc i) zero d below inside = absurd (omega arith)
non_decreasing_from doc byte end (c ∷ cs) order (suc i) (suc j) d below inside = non_decreasing_from c.doc_end c.byte_end end cs (both _ _ order).1 i j d (omega arith) (omega arith)

order_end : (doc byte end : ℕ) (cs : List Checkpoint) → are_in_order doc byte end cs ≡ true → byte ≤ end
order_end doc byte end [] order = let same = eqb-true byte end order in omega arith
order_end doc byte end (c ∷ cs) order =
    let first = leb-true byte c.byte_end (both _ _ (both _ _ order).0).1 in
    let later = order_end c.doc_end c.byte_end end cs (both _ _ order).1 in
    omega arith

-- a block lies where the blocks do
range_from : (number doc byte end : ℕ) (cs : List Checkpoint) (i : ℕ) (b : BlockPlace) → are_in_order doc byte end cs ≡ true → block_with_from number doc byte cs i ≡ Some b → (b.start ≤ b.end) × (b.end ≤ end)
range_from number doc byte end [] i b order is = absurd (cc)
range_from number doc byte end (c ∷ cs) i b order is = by (nat_lt i c.doc_end) refl (λ later. range_from (suc number) c.doc_end c.byte_end end cs i b (both _ _ order).1 later)
  where
    by : (t : Bool) → nat_lt i c.doc_end ≡ t → (block_with_from (suc number) c.doc_end c.byte_end cs i ≡ Some b → (b.start ≤ b.end) × (b.end ≤ end)) → (b.start ≤ b.end) × (b.end ≤ end)
    by true found later =
        let here : Some (record { number = number; first_doc = doc; doc_end = c.doc_end; start = byte; end = c.byte_end; digest = c.digest }) ≡ Some b = rw found at is in
        let start : byte ≡ b.start = cc in
        let stop : c.byte_end ≡ b.end = cc in
        let first = leb-true byte c.byte_end (both _ _ (both _ _ order).0).1 in
        let last = order_end c.doc_end c.byte_end end cs (both _ _ order).1 in
        (omega arith, omega arith)
    by false after later = later (rw after at is)

abbrev decided : Bool → Bool → List Checkpoint → Result (List Checkpoint) StoreDamage
decided footer index cs = if not footer then Err Footer else if not index then Err Index else Ok cs

decides : (footer index : Bool) (found cs : List Checkpoint) → decided footer index found ≡ Ok cs → (footer ≡ true) × (index ≡ true) × (found ≡ cs)
decides true true found cs is = (refl, refl, cc)
decides true false found cs is = absurd (cc)
decides false true found cs is = absurd (cc)
decides false false found cs is = absurd (cc)

ordered : (bytes : List ℕ) → has_index bytes ≡ true → are_in_order 0 0 (blocks_end bytes) (checkpoints_of bytes) ≡ true
unfolding has_index
ordered bytes is = (both _ _ is).1

-- an index is in order
pub order_of_index : (bytes : List ℕ) (cs : List Checkpoint) → index_of bytes ≡ Ok cs → are_in_order 0 0 (blocks_end bytes) cs ≡ true
unfolding index_of
order_of_index bytes cs is =
    let parts = decides (has_footer bytes) (has_index bytes) (checkpoints_of bytes) cs is in
    ap (are_in_order 0 0 (blocks_end bytes)) (sym parts.2) ∙ ordered bytes parts.1

pub ordered_docs : (end : ℕ) (cs : List Checkpoint) → are_in_order 0 0 end cs ≡ true → IsNonDecreasingBy (λ (c : Checkpoint). c.doc_end) cs
ordered_docs end cs order = non_decreasing_from 0 0 end cs order

pub ordered_range : (end : ℕ) (cs : List Checkpoint) (doc : ℕ) (b : BlockPlace) → are_in_order 0 0 end cs ≡ true → block_with cs doc ≡ Some b → (b.start ≤ b.end) × (b.end ≤ end)
ordered_range end cs doc b order found = range_from 0 0 0 end cs doc b order found

pub non_decreasing : (bytes : List ℕ) (cs : List Checkpoint) → index_of bytes ≡ Ok cs → IsNonDecreasingBy (λ (c : Checkpoint). c.doc_end) cs
non_decreasing bytes cs is = non_decreasing_from 0 0 (blocks_end bytes) cs (order_of_index bytes cs is)

pub range_of_block : (bytes : List ℕ) (cs : List Checkpoint) (doc : ℕ) (b : BlockPlace) → index_of bytes ≡ Ok cs → block_with cs doc ≡ Some b → (b.start ≤ b.end) × (b.end ≤ length bytes)
range_of_block bytes cs doc b is found =
    let range = range_from 0 0 0 (blocks_end bytes) cs doc b (order_of_index bytes cs is) found in
    (range.0, omega (arith, range.1))

-- some block ends after a document of the store
pub some_end : (doc n : ℕ) (cs : List Checkpoint) → n ≤ length cs → doc < num_docs cs → ((k : ℕ) (d : Checkpoint) → k < n → nat_le (get_or cs k d).doc_end doc ≡ true) → n < length cs
some_end doc n cs within found below = ⊎_elim (λ inside. inside) (λ all. absurd (past cs all below found)) (cases_lt n (length cs))
  where
    past : (cs : List Checkpoint) → length cs ≤ n → ((k : ℕ) (d : Checkpoint) → k < n → nat_le (get_or cs k d).doc_end doc ≡ true) → doc < num_docs cs → ⊥
    past cs all below found =
        let last = past_all 0 doc cs (record { doc_end = 0; byte_end = 0; digest = [] }) (omega arith) (λ k inside. below k _ (omega arith)) in
        omega arith

-- what is wrong with an index, or the index
pub no_footer : (bytes : List ℕ) → has_footer bytes ≡ false → index_of bytes ≡ Err Footer
unfolding index_of
no_footer bytes none = rw none refl

pub no_index : (bytes : List ℕ) → has_footer bytes ≡ true → has_index bytes ≡ false → index_of bytes ≡ Err Index
unfolding index_of
no_index bytes footer none = rw (footer, none) refl

pub index_with : (bytes : List ℕ) (n : ℕ) (t : Bool) → n ≡ num_blocks_of bytes → is_index n (length bytes - 48 - 44 * n) (footer_of bytes) (slice_range bytes (length bytes - 48 - 44 * n) (length bytes - 48)) ≡ t → has_index bytes ≡ t
unfolding has_index
index_with bytes n t count is = rw count at is

pub sound_index : (bytes : List ℕ) (n : ℕ) → has_footer bytes ≡ true → n ≡ num_blocks_of bytes → is_index n (length bytes - 48 - 44 * n) (footer_of bytes) (slice_range bytes (length bytes - 48 - 44 * n) (length bytes - 48)) ≡ true
    → index_of bytes ≡ Ok (checkpoints_in n (slice_range bytes (length bytes - 48 - 44 * n) (length bytes - 48)))
unfolding index_of
sound_index bytes n footer count sound =
    let has : has_index bytes ≡ true = index_with bytes n true count sound in
    rw (footer, has, count) refl

-- ---- an index that is read by ranges
footer_end : (bytes : List ℕ) → 48 ≤ length bytes → take 48 (drop (length bytes - 48) bytes) ≡ footer_of bytes
footer_end bytes long = take_all 48 (drop (length bytes - 48) bytes) (omega (arith, long, length-drop (length bytes - 48) bytes))

unfooted : (bytes : List ℕ) (t : Bool) → 48 ≤ length bytes → is_footer (length bytes) (footer_of bytes) ≡ t → has_footer bytes ≡ t
unfolding has_footer
unfooted bytes t long is = rw (le-leb 48 (length bytes) long) is

pub short_footer : (bytes : List ℕ) → length bytes < 48 → has_footer bytes ≡ false
unfolding has_footer
short_footer bytes short = rw (lt-leb 48 (length bytes) short) refl

module _ (bytes : List ℕ) (len : ℕ) (same : len ≡ length bytes) (long : 48 ≤ len) where
  enough_long : 48 ≤ length bytes
  enough_long = omega (arith, same, long)

  footer_is : (footer : List ℕ) → footer ≡ take 48 (drop (len - 48) bytes) → footer ≡ footer_of bytes
  footer_is footer is = rw same at is ∙ footer_end bytes enough_long

  pub range_no_footer : (footer : List ℕ) → footer ≡ take 48 (drop (len - 48) bytes) → is_footer len footer ≡ false → index_of bytes ≡ Err Footer
  range_no_footer footer is none = no_footer bytes (unfooted bytes false enough_long (rw (same, footer_is footer is) at none))

  module _ (n : ℕ) (footer index : List ℕ) (is : footer ≡ take 48 (drop (len - 48) bytes)) (count : n ≡ blocks_in_footer footer) (enough : 48 + 44 * n ≤ len) (there : is_footer len footer ≡ true)
      (read : index ≡ take (44 * n) (drop (len - 48 - 44 * n) bytes)) where
    has : has_footer bytes ≡ true
    has = unfooted bytes true enough_long (rw (same, footer_is footer is) at there)

    count_is : n ≡ num_blocks_of bytes
    count_is = rw (footer_is footer is) at count

    part : index ≡ slice_range bytes (length bytes - 48 - 44 * n) (length bytes - 48)
    part = let size : length bytes - 48 - (length bytes - 48 - 44 * n) ≡ 44 * n = omega (arith, same, enough) in rw same at read ∙ rw size refl

    pub range_no_index : is_index n (len - 48 - 44 * n) footer index ≡ false → index_of bytes ≡ Err Index
    range_no_index none = no_index bytes has (index_with bytes n false count_is (rw (same, footer_is footer is, part) at none))

    pub range_index : is_index n (len - 48 - 44 * n) footer index ≡ true → index_of bytes ≡ Ok (checkpoints_in n index)
    range_index sound = rw part (sound_index bytes n has count_is (rw (same, footer_is footer is, part) at sound))

-- why the checkpoints of an index in a file aren't read
pub damaged_file : {A B X : Type 0} (fault : StoreOpenFault) (f : StoreFileFault) (damage : StoreDamage) → f ≡ store_file_fault fault → IsErrOf {T = A} (Err f) (file.Damaged damage) → ((d : StoreDamage) → IsErrOf {T = B} (Err fault) (Damaged d) → (d ≡ Index) × X) → (damage ≡ Index) × X
damaged_file OutOfMemory f damage same is cause = absurd (cc)
damaged_file (Damaged d) f damage same is cause = let here : d ≡ damage = cc in let h = cause d refl in (sym here ∙ h.0, h.1)

-- a range isn't read for want of memory
pub memory_file : {A : Type 0} (e fault : ReadFault) → e ≡ reads.OutOfMemory → IsErrOf {T = A} (Err (file.Read e)) (file.Read fault) → fault ≡ reads.OutOfMemory
memory_file e fault memory is = let here : e ≡ fault = cc in sym here ∙ memory

pub parts_index : (bytes : List ℕ) (n : ℕ) (r : Result (Vec Checkpoint Global) StoreOpenFault) → has_footer bytes ≡ true → n ≡ num_blocks_of bytes
    → IfOk r (λ v. v.items ≡ checkpoints_in n (slice_range bytes (length bytes - 48 - 44 * n) (length bytes - 48))) → OnOk r (is_index n (length bytes - 48 - 44 * n) (footer_of bytes) (slice_range bytes (length bytes - 48 - 44 * n) (length bytes - 48)) ≡ true)
    → IfOk r (λ v. index_of bytes ≡ Ok v.items)
parts_index bytes n (Ok v) footer count read sound = rw read (sound_index bytes n footer count sound)
parts_index bytes n (Err e) footer count read sound = tt

pub named_file : {A : Type 0} (found damage : StoreDamage) (bytes : List ℕ) → index_of bytes ≡ Err found → IsErrOf {T = A} (Err (file.Damaged found)) (file.Damaged damage) → index_of bytes ≡ Err damage
named_file found damage bytes law is = cc

pub named : {A : Type 0} (found damage : StoreDamage) (bytes : List ℕ) → index_of bytes ≡ Err found → IsErrOf {T = A} (Err (Damaged found)) (Damaged damage) → index_of bytes ≡ Err damage
named found damage bytes law is = cc

-- the last checkpoint tells the number of documents
pub last_end : (cs : List Checkpoint) (last : Checkpoint) → Some last ≡ slice_get cs (length cs - 1) → last.doc_end ≡ num_docs cs
last_end [] last is = absurd (cc)
last_end (c ∷ cs) last is =
    let same : last ≡ get_or (c ∷ cs) (length (c ∷ cs) - 1) last = sym (get_or_from_slice_get (c ∷ cs) (length (c ∷ cs) - 1) last last (sym is)) in
    ap (λ (e : Checkpoint). e.doc_end) same ∙ sym (num_docs_last 0 (c ∷ cs) last (omega arith))

pub held_count : (bytes : List ℕ) (cs : List Checkpoint) (documents : List (List ℕ)) → index_of bytes ≡ Ok cs → HoldsDocuments bytes documents → num_docs cs ≡ length documents
held_count bytes cs documents is held = let same : held.checkpoints ≡ cs = let first = held.index in cc in ap num_docs (sym same) ∙ held.count

-- the block of a document begins at it or before, and ends after it; all documents between have the same block
record IsAround (doc i count : ℕ) (b : BlockPlace) : Type 0 where
  pub start : doc ≤ b.first_doc
  pub first : b.first_doc ≤ i
  pub after : i < b.doc_end
  pub within : b.doc_end ≤ count

order_docs : (doc byte end : ℕ) (cs : List Checkpoint) → are_in_order doc byte end cs ≡ true → doc ≤ num_docs_from doc cs
order_docs doc byte end [] order = omega arith
order_docs doc byte end (c ∷ cs) order =
    let first = leb-true doc c.doc_end (both _ _ (both _ _ order).0).0 in
    let later = order_docs c.doc_end c.byte_end end cs (both _ _ order).1 in
    omega arith

around : (number doc byte end : ℕ) (cs : List Checkpoint) (i : ℕ) (b : BlockPlace) → are_in_order doc byte end cs ≡ true → doc ≤ i → block_with_from number doc byte cs i ≡ Some b → IsAround doc i (num_docs_from doc cs) b
around number doc byte end [] i b order past is = absurd (cc)
around number doc byte end (c ∷ cs) i b order past is = by (nat_lt i c.doc_end) refl (λ later beyond. around (suc number) c.doc_end c.byte_end end cs i b (both _ _ order).1 beyond later)
  where
    by : (t : Bool) → nat_lt i c.doc_end ≡ t → (block_with_from (suc number) c.doc_end c.byte_end cs i ≡ Some b → c.doc_end ≤ i → IsAround c.doc_end i (num_docs_from c.doc_end cs) b) → IsAround doc i (num_docs_from c.doc_end cs) b
    by true found later =
        let here : Some (record { number = number; first_doc = doc; doc_end = c.doc_end; start = byte; end = c.byte_end; digest = c.digest }) ≡ Some b = rw found at is in
        let first : doc ≡ b.first_doc = cc in
        let last : c.doc_end ≡ b.doc_end = cc in
        let before = ltb-true i c.doc_end found in
        let all = order_docs c.doc_end c.byte_end end cs (both _ _ order).1 in
        record { start = omega arith; first = omega arith; after = omega arith; within = omega arith }
    by false after later =
        let beyond = ltb-false i c.doc_end after in
        let h = later (rw after at is) beyond in
        let first = leb-true doc c.doc_end (both _ _ (both _ _ order).0).0 in
        let start = h.start in
        record { start = omega arith; first = h.first; after = h.after; within = h.within }

same_block : (number doc byte end : ℕ) (cs : List Checkpoint) (i j : ℕ) (b : BlockPlace) → are_in_order doc byte end cs ≡ true → doc ≤ i → block_with_from number doc byte cs i ≡ Some b → b.first_doc ≤ j → j < b.doc_end
    → block_with_from number doc byte cs j ≡ Some b
same_block number doc byte end [] i j b order past is above below = absurd (cc)
same_block number doc byte end (c ∷ cs) i j b order past is above below =
    by (nat_lt i c.doc_end) refl (λ later beyond. (around (suc number) c.doc_end c.byte_end end cs i b (both _ _ order).1 beyond later, same_block (suc number) c.doc_end c.byte_end end cs i j b (both _ _ order).1 beyond later above below))
  where
    by : (t : Bool) → nat_lt i c.doc_end ≡ t
        → (block_with_from (suc number) c.doc_end c.byte_end cs i ≡ Some b → c.doc_end ≤ i → IsAround c.doc_end i (num_docs_from c.doc_end cs) b × block_with_from (suc number) c.doc_end c.byte_end cs j ≡ Some b)
        → block_with_from number doc byte (c ∷ cs) j ≡ Some b
    by true found later =
        let here : Some (record { number = number; first_doc = doc; doc_end = c.doc_end; start = byte; end = c.byte_end; digest = c.digest }) ≡ Some b = rw found at is in
        let last : c.doc_end ≡ b.doc_end = cc in
        let inside : nat_lt j c.doc_end ≡ true = lt-ltb j c.doc_end (omega arith) in
        rw inside here
    by false after later =
        let h = later (rw after at is) (ltb-false i c.doc_end after) in
        let start = h.0.start in
        let skipped : nat_lt j c.doc_end ≡ false = le-ltb j c.doc_end (omega arith) in
        rw skipped h.1

-- the block of a document, as the index has it
pub ordered_around : (end : ℕ) (cs : List Checkpoint) (doc : ℕ) (b : BlockPlace) → are_in_order 0 0 end cs ≡ true → block_with cs doc ≡ Some b → (b.first_doc ≤ doc) × (doc < b.doc_end)
ordered_around end cs doc b order found = let h = around 0 0 0 end cs doc b order (omega arith) found in (h.first, h.after)

pub around_doc : (bytes : List ℕ) (cs : List Checkpoint) (doc : ℕ) (b : BlockPlace) → index_of bytes ≡ Ok cs → block_with cs doc ≡ Some b → (b.first_doc ≤ doc) × (doc < b.doc_end)
around_doc bytes cs doc b is found = ordered_around (blocks_end bytes) cs doc b (order_of_index bytes cs is) found

read_same : (bytes : List ℕ) (b : BlockPlace) (j : ℕ) → bytes_eq b.digest (sha256 (bytes_of_block bytes b)) ≡ true → document_of_block bytes b j ≡ or_damaged b.number (document_in (j - b.first_doc) (bytes_of_block bytes b))
unfolding document_of_block
read_same bytes b j sound = rw sound refl

read_other : (bytes : List ℕ) (b : BlockPlace) (j : ℕ) → bytes_eq b.digest (sha256 (bytes_of_block bytes b)) ≡ false → document_of_block bytes b j ≡ Err (Block b.number)
unfolding document_of_block
read_other bytes b j other = rw other refl

pub is_block : (bytes : List ℕ) (cs : List Checkpoint) (doc : ℕ) (b : BlockPlace) → index_of bytes ≡ Ok cs → block_with cs doc ≡ Some b → bytes_eq b.digest (sha256 (bytes_of_block bytes b)) ≡ true
    → IsBlockOf bytes cs (record { number = b.number; first_doc = b.first_doc; doc_end = b.doc_end; bytes = bytes_of_block bytes b })
is_block bytes cs doc b is found sound = record {
  docs = (around 0 0 0 (blocks_end bytes) cs doc b (order_of_index bytes cs is) (omega arith) found).within;
  each = λ j above below. let place = same_block 0 0 0 (blocks_end bytes) cs doc j b (order_of_index bytes cs is) (omega arith) found above below in rw place (sym (read_same bytes b j sound));
}

pub other_block : (bytes : List ℕ) (cs : List Checkpoint) (doc : ℕ) (b : BlockPlace) (damage : StoreDamage) → block_with cs doc ≡ Some b → damage ≡ Block b.number → bytes_eq b.digest (sha256 (bytes_of_block bytes b)) ≡ false
    → document_of bytes cs doc ≡ Err damage
other_block bytes cs doc b damage found named other = rw (found, named) (read_other bytes b doc other)

-- the model of a block that was read
abbrev read_state : List ℕ → BlockPlace → StoreBlockState
read_state bytes b = record { number = b.number; first_doc = b.first_doc; doc_end = b.doc_end; bytes = bytes_of_block bytes b }

-- what is told of a block, by the answer
pub block_gives : {E : Type 0} (bytes : List ℕ) (cs : List Checkpoint) (doc : ℕ) (b : BlockPlace) (r : Result StoreBlockState E) → index_of bytes ≡ Ok cs → block_with cs doc ≡ Some b
    → OnOk r (bytes_eq b.digest (sha256 (bytes_of_block bytes b)) ≡ true) → IfOk r (λ x. x ≡ read_state bytes b) → IfOk r (IsBlockOf bytes cs)
block_gives bytes cs doc b (Ok x) is found sound value = subst (IsBlockOf bytes cs) (sym value) (is_block bytes cs doc b is found sound)
block_gives bytes cs doc b (Err e) is found sound value = tt

pub block_here : (bytes : List ℕ) (cs : List Checkpoint) (doc : ℕ) (b : BlockPlace) (r : Result StoreBlockState StoreDamage) → index_of bytes ≡ Ok cs → block_with cs doc ≡ Some b → IfOk r (λ x. x ≡ read_state bytes b)
    → IfOk r (λ x. (x.first_doc ≤ doc) × (doc < x.doc_end))
block_here bytes cs doc b (Ok x) is found value = subst (λ (y : StoreBlockState). (y.first_doc ≤ doc) × (doc < y.doc_end)) (sym value) (around_doc bytes cs doc b is found)
block_here bytes cs doc b (Err e) is found value = tt

-- the same where the bytes of the file aren't known
pub block_around : {E : Type 0} (end : ℕ) (cs : List Checkpoint) (doc : ℕ) (b : BlockPlace) (r : Result StoreBlockState E) → are_in_order 0 0 end cs ≡ true → block_with cs doc ≡ Some b
    → IfOk r (λ x. (x.first_doc ≡ b.first_doc) × (x.doc_end ≡ b.doc_end)) → IfOk r (λ x. (x.first_doc ≤ doc) × (doc < x.doc_end))
block_around end cs doc b (Ok x) order found same = let h = ordered_around end cs doc b order found in (omega (arith, h.0, same.0), omega (arith, h.1, same.1))
block_around end cs doc b (Err e) order found same = tt

pub block_other : (bytes : List ℕ) (cs : List Checkpoint) (doc : ℕ) (b : BlockPlace) (r : Result StoreBlockState StoreDamage) → block_with cs doc ≡ Some b
    → IfErr r (λ damage. (damage ≡ Block b.number) × (bytes_eq b.digest (sha256 (bytes_of_block bytes b)) ≡ false)) → IfErr r (λ damage. document_of bytes cs doc ≡ Err damage)
block_other bytes cs doc b (Ok x) found told = tt
block_other bytes cs doc b (Err e) found told = other_block bytes cs doc b e found told.0 told.1

-- a block of a store of these documents
pub block_kept : {E : Type 0} (bytes : List ℕ) (cs : List Checkpoint) (documents : List (List ℕ)) (r : Result StoreBlockState E) → index_of bytes ≡ Ok cs → HoldsDocuments bytes documents → IfOk r (IsBlockOf bytes cs) → IfOk r (HoldsBlock documents)
block_kept bytes cs documents (Ok x) is held value =
    let known : held.checkpoints ≡ cs = let first = held.index in cc in
    let count = held_count bytes cs documents is held in
    let docs = value.docs in
    record { docs = omega arith; each = λ j above below. value.each j above below ∙ rw known at (held.each j (omega arith)) }
block_kept bytes cs documents (Err e) is held value = tt

-- none is damaged
pub never_damaged : (bytes : List ℕ) (cs : List Checkpoint) (doc : ℕ) (documents : List (List ℕ)) (damage : StoreDamage) → index_of bytes ≡ Ok cs → doc < num_docs cs → HoldsDocuments bytes documents → document_of bytes cs doc ≡ Err damage → ⊥
never_damaged bytes cs doc documents damage is inside held damaged =
    let known : held.checkpoints ≡ cs = let first = held.index in cc in
    let count = held_count bytes cs documents is held in
    let found : document_of bytes cs doc ≡ Ok (get_or documents doc []) = rw known at (held.each doc (omega arith)) in
    cc

pub block_held : (bytes : List ℕ) (cs : List Checkpoint) (doc : ℕ) (documents : List (List ℕ)) (r : Result StoreBlockState StoreDamage) → index_of bytes ≡ Ok cs → doc < num_docs cs → HoldsDocuments bytes documents
    → IfOk r (IsBlockOf bytes cs) → IfErr r (λ damage. document_of bytes cs doc ≡ Err damage) → MatchResult r (HoldsBlock documents) (λ _. ⊥)
block_held bytes cs doc documents (Ok x) is inside held value damaged = block_kept {E = StoreDamage} bytes cs documents (Ok x) is held value
block_held bytes cs doc documents (Err e) is inside held value damaged = never_damaged bytes cs doc documents e is inside held damaged

-- a document that was found where it must be
pub got : (found : Result (List ℕ) StoreDamage) (d : List ℕ) (r : Result (Bor (List ℕ)) StoreDamage) → found ≡ Ok d → MatchResult r (λ (x : Bor (List ℕ)). found ≡ Ok x.now) (λ e. found ≡ Err e)
    → MatchResult r (λ (x : Bor (List ℕ)). x.now ≡ d) (λ _. ⊥)
got found d (Ok x) is told = cc
got found d (Err e) is told = cc
