-- A store holds the documents that it was written of.
use Rattle.std.proofs.Common.{◌≡◌, ℕ, suc, ◌+◌, ◌-◌, ◌*◌, ◌/◌, ◌<◌, ◌≤◌, ◌^◌, true, false, List, [], ◌∷◌, ◌++◌, length, take, drop, get_or, refl, sym, ap, ◌∙◌, subst, append_assoc, arith, ⊎_elim}
use Rattle.std.specs.Prelude.{Some, Ok, bytes_eq, nat_le, nat_lt, slice_range}
use Rattle.std.specs.List.{flat_map, AllByRecursion}
use Rattle.std.specs.Cmp.Derive.{both_true}
use Rattle.std.specs.Int.{w64, from_le_bytes, to_le_bytes}
use Rattle.std.proofs.lemmas.Bool.{cases_lt, le-leb, le-ltb, lt-ltb}
use Rattle.std.proofs.lemmas.Cmp.{nat_eq_equiv, nat_list_eq_equiv}
use Rattle.std.proofs.lemmas.List.{append-nil, drop-drop, drop_at, get_or-append_right, get_or_append_left, length-append, take_at}
use Rattle.std.proofs.lemmas.Nat.{from_le_bytes-to_le_bytes_4, from_le_bytes-to_le_bytes_8}
use Rattle.sha2.specs.Sha256.{sha256}
use Rattle.sha2.proofs.Facts256.{length-sha256}
use Rattle.ii_doc_store.specs.declared.checkpoint.BlockPlace.{BlockPlace}
use Rattle.ii_doc_store.specs.declared.checkpoint.Checkpoint.{Checkpoint}
use Rattle.ii_doc_store.specs.RoundTrip.{GivesDocumentsBack}
use Rattle.ii_doc_store.specs.StoreFormat.{block_bytes, blocks_of, checkpoint_bytes, checkpoint_of, checkpoints_from, footer_bytes, format, index_and_footer, index_bytes, store_bytes}
use Rattle.ii_doc_store.specs.StoreReader.{HoldsDocuments, are_in_order, block_with_from, blocks_end, checkpoint_in, checkpoints_in, checkpoints_of, document_in, document_of_block, document_of_place, footer_of, has_footer, has_index, index_of, index_part, num_blocks_of, num_docs_from}
use Rattle.ii_doc_store.proofs.CutLaws.{blocks_bytes, blocks_joined, joined}
use Rattle.ii_doc_store.proofs.RecordLaws.{document_again}

abbrev Fits : List ℕ → Type 0
Fits d = length d < 2 ^ 31

split_all : (xs ys : List (List ℕ)) → AllByRecursion Fits (xs ++ ys) → AllByRecursion Fits xs × AllByRecursion Fits ys
split_all [] ys all = (tt, all)
split_all (x ∷ xs) ys all = let rest = split_all xs ys all.1 in ((all.0, rest.0), rest.1)

-- a checkpoint is read back
length_checkpoint : (c : Checkpoint) → length c.digest ≡ 32 → length (checkpoint_bytes c) ≡ 44
unfolding checkpoint_bytes
length_checkpoint c digest = ap (λ n. suc (suc (suc (suc (suc (suc (suc (suc (suc (suc (suc (suc n)))))))))))) digest

checkpoint_again : (c : Checkpoint) → c.doc_end < 2 ^ 32 → c.byte_end < 2 ^ 64 → checkpoint_in (checkpoint_bytes c) ≡ c
unfolding checkpoint_in checkpoint_bytes
checkpoint_again c doc byte = rw (from_le_bytes-to_le_bytes_4 c.doc_end doc, from_le_bytes-to_le_bytes_8 c.byte_end byte) refl

-- the checkpoints of blocks are read back
checkpoints_again : (doc byte : ℕ) (bs : List (List (List ℕ))) → doc + length (joined bs) < 2 ^ 32 → byte + length (blocks_bytes bs) < 2 ^ 64
    → checkpoints_in (length bs) (flat_map checkpoint_bytes (checkpoints_from doc byte bs)) ≡ checkpoints_from doc byte bs
checkpoints_again doc byte [] few small = refl
checkpoints_again doc byte (b ∷ bs) few small =
    let c = checkpoint_of doc byte b in
    let rest = flat_map checkpoint_bytes (checkpoints_from (doc + length b) (byte + length (block_bytes b)) bs) in
    let size = length_checkpoint c (length-sha256 (block_bytes b)) in
    let docs = length-append b (joined bs) in
    let bytes = length-append (block_bytes b) (blocks_bytes bs) in
    let one : checkpoint_in (take 44 (checkpoint_bytes c ++ rest)) ≡ c = ap (λ (l : List ℕ). checkpoint_in l) (take_at (checkpoint_bytes c) rest 44 size) ∙ checkpoint_again c (omega arith) (omega arith) in
    let others : checkpoints_in (length bs) (drop 44 (checkpoint_bytes c ++ rest)) ≡ checkpoints_from (doc + length b) (byte + length (block_bytes b)) bs =
    ap (checkpoints_in (length bs)) (drop_at (checkpoint_bytes c) rest 44 size) ∙ checkpoints_again (doc + length b) (byte + length (block_bytes b)) bs (omega arith) (omega arith) in
    ap (λ (e : Checkpoint). e ∷ checkpoints_in (length bs) (drop 44 (checkpoint_bytes c ++ rest))) one ∙ ap (λ (cs : List Checkpoint). c ∷ cs) others

length_checkpoints : (doc byte : ℕ) (bs : List (List (List ℕ))) → length (flat_map checkpoint_bytes (checkpoints_from doc byte bs)) ≡ 44 * length bs
length_checkpoints doc byte [] = refl
length_checkpoints doc byte (b ∷ bs) =
    let c = checkpoint_of doc byte b in
    let rest = flat_map checkpoint_bytes (checkpoints_from (doc + length b) (byte + length (block_bytes b)) bs) in
    let size = length_checkpoint c (length-sha256 (block_bytes b)) in
    let others = length_checkpoints (doc + length b) (byte + length (block_bytes b)) bs in
    length-append (checkpoint_bytes c) rest ∙ omega (arith, size, others)

-- they are in order, and tell the number of documents
in_order_again : (doc byte end : ℕ) (bs : List (List (List ℕ))) → byte + length (blocks_bytes bs) ≡ end → are_in_order doc byte end (checkpoints_from doc byte bs) ≡ true
in_order_again doc byte end [] is =
    let same : byte ≡ end = omega arith in
    rw same (nat_eq_equiv.refl end)
in_order_again doc byte end (b ∷ bs) is =
    let bytes = length-append (block_bytes b) (blocks_bytes bs) in
    both_true (both_true (le-leb doc (doc + length b) (omega arith)) (le-leb byte (byte + length (block_bytes b)) (omega arith)))
    (in_order_again (doc + length b) (byte + length (block_bytes b)) end bs (omega arith))

num_docs_again : (doc byte : ℕ) (bs : List (List (List ℕ))) → num_docs_from doc (checkpoints_from doc byte bs) ≡ doc + length (joined bs)
num_docs_again doc byte [] = omega arith
num_docs_again doc byte (b ∷ bs) = num_docs_again (doc + length b) (byte + length (block_bytes b)) bs ∙ omega (arith, length-append b (joined bs))

-- a document of a block whose bytes are where the index says
document_here : (bytes : List ℕ) (place : BlockPlace) (doc : ℕ) (b : List (List ℕ)) → slice_range bytes place.start place.end ≡ block_bytes b → place.digest ≡ sha256 (block_bytes b)
    → document_in (doc - place.first_doc) (block_bytes b) ≡ Some (get_or b (doc - place.first_doc) []) → document_of_block bytes place doc ≡ Ok (get_or b (doc - place.first_doc) [])
unfolding document_of_block
document_here bytes place doc b here digest found = rw (here, digest, nat_list_eq_equiv.refl (sha256 (block_bytes b)), found) refl

-- each document of the blocks is found
document_found : (bytes : List ℕ) (number doc byte : ℕ) (bs : List (List (List ℕ))) (more : List ℕ) (i : ℕ) → drop byte bytes ≡ blocks_bytes bs ++ more → AllByRecursion Fits (joined bs) → doc ≤ i
    → i < doc + length (joined bs) → document_of_place bytes (block_with_from number doc byte (checkpoints_from doc byte bs) i) i ≡ Ok (get_or (joined bs) (i - doc) [])
document_found bytes number doc byte [] more i at all after before = absurd (omega arith)
document_found bytes number doc byte (b ∷ bs) more i at all after before =
    ⊎_elim here (λ past. there past (document_found bytes (suc number) (doc + length b) (byte + length (block_bytes b)) bs more i (next at) (split_all b (joined bs) all).1 past (omega (arith, length-append b (joined bs))))) (cases_lt i (doc + length b))
  where
    next : drop byte bytes ≡ (block_bytes b ++ blocks_bytes bs) ++ more → drop (byte + length (block_bytes b)) bytes ≡ blocks_bytes bs ++ more
    next at =
        sym (drop-drop (length (block_bytes b)) byte bytes)
        ∙ ap (drop (length (block_bytes b))) (at ∙ append_assoc (block_bytes b) (blocks_bytes bs) more)
        ∙ drop_at (block_bytes b) (blocks_bytes bs ++ more) (length (block_bytes b)) refl

    here : i < doc + length b → document_of_place bytes (block_with_from number doc byte (checkpoints_from doc byte (b ∷ bs)) i) i ≡ Ok (get_or (b ++ joined bs) (i - doc) [])
    here before =
        let found : nat_lt i (doc + length b) ≡ true = lt-ltb i (doc + length b) before in
        let size : byte + length (block_bytes b) - byte ≡ length (block_bytes b) = omega arith in
        let block : slice_range bytes byte (byte + length (block_bytes b)) ≡ block_bytes b =
        rw size (ap (take (length (block_bytes b))) (at ∙ append_assoc (block_bytes b) (blocks_bytes bs) more) ∙ take_at (block_bytes b) (blocks_bytes bs ++ more) (length (block_bytes b)) refl) in
        let one : document_in (i - doc) (block_bytes b) ≡ Some (get_or b (i - doc) []) = rw append-nil at (document_again (i - doc) b [] (split_all b (joined bs) all).0 (omega arith)) in
        let place : BlockPlace = record { number = number; first_doc = doc; doc_end = doc + length b; start = byte; end = byte + length (block_bytes b); digest = sha256 (block_bytes b) } in
        rw (found, get_or_append_left b (joined bs) [] (i - doc) (omega arith)) (document_here bytes place i b block refl one)

    there : doc + length b ≤ i
        → document_of_place bytes (block_with_from (suc number) (doc + length b) (byte + length (block_bytes b)) (checkpoints_from (doc + length b) (byte + length (block_bytes b)) bs) i) i
        ≡ Ok (get_or (joined bs) (i - (doc + length b)) [])
        → document_of_place bytes (block_with_from number doc byte (checkpoints_from doc byte (b ∷ bs)) i) i ≡ Ok (get_or (b ++ joined bs) (i - doc) [])
    there past later =
        let skipped : nat_lt i (doc + length b) ≡ false = le-ltb i (doc + length b) past in
        let same : i - (doc + length b) ≡ i - doc - length b = omega arith in
        rw (skipped, get_or-append_right b (joined bs) (length b) (i - doc) [] refl (omega arith), ← same) later

-- the footer is read back
length_footer : (index : List ℕ) → length (footer_bytes index) ≡ 48
unfolding footer_bytes format
length_footer index = ap (λ n. suc (suc (suc (suc (suc (suc (suc (suc n)))))))) (length-append (sha256 index) format ∙ rw (length-sha256 index) refl)

footer_number : (index : List ℕ) → take 8 (footer_bytes index) ≡ to_le_bytes w64 (length index / 44)
unfolding footer_bytes
footer_number index = refl

footer_digest : (index : List ℕ) → take 32 (drop 8 (footer_bytes index)) ≡ sha256 index
unfolding footer_bytes
footer_digest index = take_at (sha256 index) format 32 (length-sha256 index)

footer_format : (index : List ℕ) → drop 40 (footer_bytes index) ≡ format
unfolding footer_bytes
footer_format index = drop_at (sha256 index) format 32 (length-sha256 index)

has_footer_by : (bytes footer : List ℕ) (n : ℕ) → 48 ≤ length bytes → footer_of bytes ≡ footer → drop 40 footer ≡ format → num_blocks_of bytes ≡ n → 44 * n ≤ length bytes - 48 → has_footer bytes ≡ true
unfolding has_footer
has_footer_by bytes footer n long is ends count enough =
    let form : bytes_eq (drop 40 (footer_of bytes)) format ≡ true = ap (λ (f : List ℕ). bytes_eq (drop 40 f) format) is ∙ ap (λ (f : List ℕ). bytes_eq f format) ends ∙ nat_list_eq_equiv.refl format in
    let room : nat_le (44 * num_blocks_of bytes) (length bytes - 48) ≡ true = ap (λ (m : ℕ). nat_le (44 * m) (length bytes - 48)) count ∙ le-leb (44 * n) (length bytes - 48) enough in
    both_true (le-leb 48 (length bytes) long) (both_true form room)

has_index_by : (bytes footer index : List ℕ) (end : ℕ) (cs : List Checkpoint) → footer_of bytes ≡ footer → take 32 (drop 8 footer) ≡ sha256 index → index_part bytes ≡ index → blocks_end bytes ≡ end → checkpoints_of bytes ≡ cs
    → are_in_order 0 0 end cs ≡ true → has_index bytes ≡ true
unfolding has_index
has_index_by bytes footer index end cs is digest part place read order =
    let sum : bytes_eq (take 32 (drop 8 (footer_of bytes))) (sha256 (index_part bytes)) ≡ true =
    ap (λ (f : List ℕ). bytes_eq (take 32 (drop 8 f)) (sha256 (index_part bytes))) is ∙ ap (λ (f : List ℕ). bytes_eq f (sha256 (index_part bytes))) digest
    ∙ ap (λ (i : List ℕ). bytes_eq (sha256 index) (sha256 i)) part ∙ nat_list_eq_equiv.refl (sha256 index) in
    both_true sum (ap (λ (e : ℕ). are_in_order 0 0 e (checkpoints_of bytes)) place ∙ ap (are_in_order 0 0 end) read ∙ order)

index_by : (bytes : List ℕ) (cs : List Checkpoint) → has_footer bytes ≡ true → has_index bytes ≡ true → checkpoints_of bytes ≡ cs → index_of bytes ≡ Ok cs
unfolding index_of
index_by bytes cs footer index read = rw (footer, index) (ap (λ (l : List Checkpoint). Ok l) read)

-- a store of these blocks
abbrev whole : List (List (List ℕ)) → List ℕ
whole bs = blocks_bytes bs ++ index_and_footer (index_bytes bs)

module _ (bs : List (List (List ℕ))) where
  front : whole bs ≡ (blocks_bytes bs ++ index_bytes bs) ++ footer_bytes (index_bytes bs)
  front = sym (append_assoc (blocks_bytes bs) (index_bytes bs) (footer_bytes (index_bytes bs)))

  size_front : length (whole bs) - 48 ≡ length (blocks_bytes bs ++ index_bytes bs)
  size_front = omega (arith, ap length front, length-append (blocks_bytes bs ++ index_bytes bs) (footer_bytes (index_bytes bs)), length_footer (index_bytes bs))

  long : 48 ≤ length (whole bs)
  long = omega (arith, ap length front, length-append (blocks_bytes bs ++ index_bytes bs) (footer_bytes (index_bytes bs)), length_footer (index_bytes bs))

  size_index : length (index_bytes bs) ≡ 44 * length bs
  size_index = length_checkpoints 0 0 bs

  footer_is : footer_of (whole bs) ≡ footer_bytes (index_bytes bs)
  footer_is =
      ap (λ (n : ℕ). drop n (whole bs)) size_front ∙ ap (drop (length (blocks_bytes bs ++ index_bytes bs))) front
      ∙ drop_at (blocks_bytes bs ++ index_bytes bs) (footer_bytes (index_bytes bs)) (length (blocks_bytes bs ++ index_bytes bs)) refl

  count_is : length (whole bs) < 2 ^ 64 → num_blocks_of (whole bs) ≡ length bs
  count_is small =
      let size = size_front in
      let both = length-append (blocks_bytes bs) (index_bytes bs) in
      let index = size_index in
      let enough = long in
      let number : length (index_bytes bs) / 44 ≡ length bs = omega arith in
      ap (λ (f : List ℕ). from_le_bytes w64 (take 8 f)) footer_is ∙ ap (from_le_bytes w64) (footer_number (index_bytes bs))
      ∙ from_le_bytes-to_le_bytes_8 (length (index_bytes bs) / 44) (omega arith) ∙ number

  end_is : length (whole bs) < 2 ^ 64 → blocks_end (whole bs) ≡ length (blocks_bytes bs)
  end_is small =
      let size = size_front in
      let both = length-append (blocks_bytes bs) (index_bytes bs) in
      let index = size_index in
      let count = count_is small in
      omega arith

  part_is : length (whole bs) < 2 ^ 64 → index_part (whole bs) ≡ index_bytes bs
  part_is small =
      let both = length-append (blocks_bytes bs) (index_bytes bs) in
      let size : length (whole bs) - 48 - length (blocks_bytes bs) ≡ length (index_bytes bs) = let s = size_front in omega arith in
      ap (λ (e : ℕ). slice_range (whole bs) e (length (whole bs) - 48)) (end_is small) ∙ ap (λ (n : ℕ). take n (drop (length (blocks_bytes bs)) (whole bs))) size
      ∙ ap (take (length (index_bytes bs))) (drop_at (blocks_bytes bs) (index_and_footer (index_bytes bs)) (length (blocks_bytes bs)) refl)
      ∙ take_at (index_bytes bs) (footer_bytes (index_bytes bs)) (length (index_bytes bs)) refl

  read_is : length (joined bs) < 2 ^ 31 → length (whole bs) < 2 ^ 64 → checkpoints_of (whole bs) ≡ checkpoints_from 0 0 bs
  read_is few small =
      let size = size_front in
      let both = length-append (blocks_bytes bs) (index_bytes bs) in
      let enough = long in
      ap (λ (n : ℕ). checkpoints_in n (index_part (whole bs))) (count_is small) ∙ ap (checkpoints_in (length bs)) (part_is small) ∙ checkpoints_again 0 0 bs (omega arith) (omega arith)

  held_by_whole : AllByRecursion Fits (joined bs) → length (joined bs) < 2 ^ 31 → length (whole bs) < 2 ^ 64 → HoldsDocuments (whole bs) (joined bs)
  held_by_whole fit few small =
      let size = size_front in
      let both = length-append (blocks_bytes bs) (index_bytes bs) in
      let index = size_index in
      let footer = has_footer_by (whole bs) (footer_bytes (index_bytes bs)) (length bs) long footer_is (footer_format (index_bytes bs)) (count_is small) (omega arith) in
      let order = in_order_again 0 0 (length (blocks_bytes bs)) bs (omega arith) in
      let has = has_index_by (whole bs) (footer_bytes (index_bytes bs)) (index_bytes bs) (length (blocks_bytes bs)) (checkpoints_from 0 0 bs) footer_is (footer_digest (index_bytes bs)) (part_is small) (end_is small) (read_is few small) order in
      record {
        checkpoints = checkpoints_from 0 0 bs;
        index = index_by (whole bs) (checkpoints_from 0 0 bs) footer has (read_is few small);
        count = num_docs_again 0 0 bs ∙ omega arith;
        each = λ doc inside. let same : doc - 0 ≡ doc = omega arith in rw same at (document_found (whole bs) 0 0 0 bs (index_and_footer (index_bytes bs)) doc refl fit (omega arith) (omega arith));
      }

pub gives_back : GivesDocumentsBack
unfolding store_bytes
gives_back ds h =
    let all = blocks_joined ds in
    subst (HoldsDocuments (whole (blocks_of ds))) all
    (held_by_whole (blocks_of ds) (subst (AllByRecursion Fits) (sym all) h.lengths) (subst (λ (l : List (List ℕ)). length l < 2 ^ 31) (sym all) h.few) h.size)
