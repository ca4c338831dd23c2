-- How documents are cut into blocks, and what the index has of these.
use Rattle.std.proofs.Common.{◌≡◌, ℕ, ◌+◌, ◌-◌, Bool, true, false, List, [], ◌∷◌, ◌++◌, length, take, refl, sym, ap, ◌∙◌, append_assoc, arith}
use Rattle.std.specs.List.{flat_map, AllByRecursion}
use Rattle.std.proofs.lemmas.List.{append-nil, length-append, take_at}
use Rattle.std.proofs.lemmas.List.Concat.{flat_map-append}
use Rattle.ii_doc_store.specs.declared.checkpoint.Checkpoint.{Checkpoint}
use Rattle.ii_doc_store.specs.RoundTrip.{CutsIntoBlocks}
use Rattle.ii_doc_store.specs.StoreFormat.{Cut, and_document, and_documents, block_bytes, blocks_of, checkpoint_bytes, checkpoint_of, checkpoints_from, cut, fill_block, index_bytes, with_last}

-- the documents of blocks
abbrev pub joined : List (List (List ℕ)) → List (List ℕ)
joined blocks = flat_map (λ (b : List (List ℕ)). b) blocks

-- the bytes of blocks
abbrev pub blocks_bytes : List (List (List ℕ)) → List ℕ
blocks_bytes blocks = flat_map block_bytes blocks

and_documents-append : (c : Cut) (ds : List (List ℕ)) (d : List ℕ) → and_documents c (ds ++ d ∷ []) ≡ and_document (and_documents c ds) d
and_documents-append c [] d = refl
and_documents-append c (e ∷ ds) d = and_documents-append (and_document c e) ds d

-- one document more
pub cut_more : (ds : List (List ℕ)) (d : List ℕ) → cut (ds ++ d ∷ []) ≡ and_document (cut ds) d
cut_more ds d = and_documents-append (record { full = []; rest = [] }) ds d

joined_step : (c : Cut) (d : List ℕ) (b : Bool) → fill_block (c.rest ++ d ∷ []) ≡ b → joined (and_document c d).full ++ (and_document c d).rest ≡ (joined c.full ++ c.rest) ++ d ∷ []
joined_step c d true full = rw full (rw (flat_map-append (λ (x : List (List ℕ)). x) c.full ((c.rest ++ d ∷ []) ∷ []), append-nil (c.rest ++ d ∷ []), append-nil (joined c.full ++ (c.rest ++ d ∷ []))) (sym (append_assoc (joined c.full) c.rest (d ∷ []))))
joined_step c d false more = rw more (sym (append_assoc (joined c.full) c.rest (d ∷ [])))

joined_all : (c : Cut) (ds : List (List ℕ)) → joined (and_documents c ds).full ++ (and_documents c ds).rest ≡ (joined c.full ++ c.rest) ++ ds
joined_all c [] = sym (append-nil (joined c.full ++ c.rest))
joined_all c (d ∷ ds) =
    joined_all (and_document c d) ds ∙ ap (λ (l : List (List ℕ)). l ++ ds) (joined_step c d (fill_block (c.rest ++ d ∷ [])) refl) ∙ append_assoc (joined c.full ++ c.rest) (d ∷ []) ds

-- the blocks and the documents after them are all documents
pub cut_joined : (ds : List (List ℕ)) → joined (cut ds).full ++ (cut ds).rest ≡ ds
cut_joined ds = joined_all (record { full = []; rest = [] }) ds

joined_with_last : (bs : List (List (List ℕ))) (ds : List (List ℕ)) → joined (with_last bs ds) ≡ joined bs ++ ds
joined_with_last bs [] = sym (append-nil (joined bs))
joined_with_last bs (d ∷ ds) = flat_map-append (λ (x : List (List ℕ)). x) bs ((d ∷ ds) ∷ []) ∙ ap (λ (l : List (List ℕ)). joined bs ++ l) (append-nil (d ∷ ds))

pub blocks_joined : (ds : List (List ℕ)) → joined (blocks_of ds) ≡ ds
unfolding blocks_of
blocks_joined ds = joined_with_last (cut ds).full (cut ds).rest ∙ cut_joined ds

-- one block more
pub blocks_bytes_more : (bs : List (List (List ℕ))) (b : List (List ℕ)) → blocks_bytes (bs ++ b ∷ []) ≡ blocks_bytes bs ++ block_bytes b
blocks_bytes_more bs b = flat_map-append block_bytes bs (b ∷ []) ∙ ap (λ (l : List ℕ). blocks_bytes bs ++ l) (append-nil (block_bytes b))

checkpoints_more : (doc byte : ℕ) (bs : List (List (List ℕ))) (b : List (List ℕ))
    → checkpoints_from doc byte (bs ++ b ∷ []) ≡ checkpoints_from doc byte bs ++ checkpoint_of (doc + length (joined bs)) (byte + length (blocks_bytes bs)) b ∷ []
checkpoints_more doc byte [] b =
    let d : doc + 0 ≡ doc = omega arith in
    let e : byte + 0 ≡ byte = omega arith in
    rw (d, e) refl
checkpoints_more doc byte (a ∷ bs) b =
    let d : doc + length a + length (joined bs) ≡ doc + length (a ++ joined bs) = omega (arith, length-append a (joined bs)) in
    let e : byte + length (block_bytes a) + length (blocks_bytes bs) ≡ byte + length (block_bytes a ++ blocks_bytes bs) = omega (arith, length-append (block_bytes a) (blocks_bytes bs)) in
    ap (λ (cs : List Checkpoint). checkpoint_of doc byte a ∷ cs) (checkpoints_more (doc + length a) (byte + length (block_bytes a)) bs b ∙ rw (d, e) refl)

pub index_more : (bs : List (List (List ℕ))) (b : List (List ℕ)) → index_bytes (bs ++ b ∷ []) ≡ index_bytes bs ++ checkpoint_bytes (checkpoint_of (length (joined bs)) (length (blocks_bytes bs)) b)
index_more bs b =
    let d : 0 + length (joined bs) ≡ length (joined bs) = omega arith in
    let e : 0 + length (blocks_bytes bs) ≡ length (blocks_bytes bs) = omega arith in
    let all : checkpoints_from 0 0 (bs ++ b ∷ []) ≡ checkpoints_from 0 0 bs ++ checkpoint_of (length (joined bs)) (length (blocks_bytes bs)) b ∷ [] = rw (d, e) at (checkpoints_more 0 0 bs b) in
    ap (flat_map checkpoint_bytes) all
    ∙ flat_map-append checkpoint_bytes (checkpoints_from 0 0 bs) (checkpoint_of (length (joined bs)) (length (blocks_bytes bs)) b ∷ [])
    ∙ ap (λ (l : List ℕ). index_bytes bs ++ l) (append-nil (checkpoint_bytes (checkpoint_of (length (joined bs)) (length (blocks_bytes bs)) b)))

abbrev IsFull : List (List ℕ) → Type 0
IsFull b = fill_block b ≡ true

abbrev IsFullByLast : List (List ℕ) → Type 0
IsFullByLast b = fill_block (take (length b - 1) b) ≡ false

-- What the blocks of a cut are, without its documents.
record AreFull (c : Cut) : Type 0 where
  pub full : AllByRecursion IsFull c.full
  pub by_last : AllByRecursion IsFullByLast c.full
  pub rest : fill_block c.rest ≡ false

all_more : (P : List (List ℕ) → Type 0) (bs : List (List (List ℕ))) (b : List (List ℕ)) → AllByRecursion P bs → P b → AllByRecursion P (bs ++ b ∷ [])
all_more P [] b all one = (one, tt)
all_more P (a ∷ bs) b all one = (all.0, all_more P bs b all.1 one)

without_last : (ds : List (List ℕ)) (d : List ℕ) → take (length (ds ++ d ∷ []) - 1) (ds ++ d ∷ []) ≡ ds
without_last ds d =
    let size : length (ds ++ d ∷ []) - 1 ≡ length ds = omega (arith, length-append ds (d ∷ [])) in
    rw size (take_at ds (d ∷ []) (length ds) refl)

none_fill : fill_block [] ≡ false
unfolding fill_block
none_fill = refl

full_step : (c : Cut) (d : List ℕ) (b : Bool) → fill_block (c.rest ++ d ∷ []) ≡ b → AreFull c → AreFull (and_document c d)
full_step c d true full h =
    let block : List (List ℕ) = c.rest ++ d ∷ [] in
    rw full (record { full = all_more IsFull c.full block h.full full; by_last = all_more IsFullByLast c.full block h.by_last (ap (λ (l : List (List ℕ)). fill_block l) (without_last c.rest d) ∙ h.rest); rest = none_fill })
full_step c d false more h = rw more (record { full = h.full; by_last = h.by_last; rest = more })

full_all : (c : Cut) (ds : List (List ℕ)) → AreFull c → AreFull (and_documents c ds)
full_all c [] h = h
full_all c (d ∷ ds) h = full_all (and_document c d) ds (full_step c d (fill_block (c.rest ++ d ∷ [])) refl h)

pub cuts_into_blocks : CutsIntoBlocks
cuts_into_blocks ds =
    let h = full_all (record { full = []; rest = [] }) ds (record { full = tt; by_last = tt; rest = none_fill }) in
    record { joined = cut_joined ds; full = h.full; by_last = h.by_last; rest = h.rest }
