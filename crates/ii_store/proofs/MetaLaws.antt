-- A `meta` file describes the index that it was encoded from.
use Rattle.std.proofs.Common.{◌≡◌, ◌<◌, ◌^◌, ℕ, suc, ◌+◌, List, ◌++◌, length, take, drop, Some, Ok, refl, sym, ap, ◌∙◌, append_assoc, arith}
use Rattle.std.specs.Int.{w32, w64, to_le_bytes}
use Rattle.std.proofs.Math.Seq.{drop-append_seam, take-append_seam}
use Rattle.std.proofs.lemmas.List.{drop-drop, length-append}
use Rattle.std.proofs.lemmas.Nat.{from_le_bytes-to_le_bytes_4}
use Rattle.std.proofs.lemmas.Cmp.{nat_list_eq_equiv}
use Rattle.sha2.specs.Sha256.{sha256}
use Rattle.sha2.proofs.Facts256.{length-sha256}
use Rattle.ii_directory.specs.declared.name.Kind.{Kind}
use Rattle.ii_directory.specs.declared.name.Kind.TheVariants.{Schema, Terms, Postings, Positions, FieldNorms}
use Rattle.ii_directory.specs.declared.name.Slot.{Slot}
use Rattle.ii_directory.specs.declared.name.Slot.TheVariants.{First, Second}
use Rattle.ii_store.specs.Index.{Index, entry, file_in, format, meta_file, meta_body, head, index_at, num_docs_in, slot_in, version_in, whole_num_docs_in}
use Rattle.ii_store.proofs.Steps.{reads_all}

drop_seam : (n : ℕ) (a b : List ℕ) → length a ≡ n → drop n (a ++ b) ≡ b
drop_seam n a b len = rw (sym len) (drop-append_seam a b)

take_seam : (n : ℕ) (a b : List ℕ) → length a ≡ n → take n (a ++ b) ≡ a
take_seam n a b len = rw (sym len) (take-append_seam a b)

length_entry : (bytes : List ℕ) → length (entry bytes) ≡ 40
unfolding entry
length_entry bytes = ap (λ n. suc (suc (suc (suc (suc (suc (suc (suc n)))))))) (length-sha256 bytes)

-- a file is as its entry says
file_given : (kind : Kind) (bytes more : List ℕ) → file_in kind (entry bytes ++ more) (Some bytes) ≡ Ok bytes
unfolding file_in entry
file_given kind bytes more = rw (take_seam 32 (sha256 bytes) more (length-sha256 bytes), nat_list_eq_equiv.refl (to_le_bytes w64 (length bytes)), nat_list_eq_equiv.refl (sha256 bytes)) refl

-- a meta file from left to right
abbrev parts : Slot → Index → List ℕ → List ℕ
parts slot i more = head slot i.num_docs ++ (entry i.schema ++ (entry i.terms ++ (entry i.postings ++ (entry i.positions ++ (entry i.fieldnorms ++ more)))))

regroup : (a b c d e f g : List ℕ) → (a ++ b ++ c ++ d ++ e ++ f) ++ g ≡ a ++ (b ++ (c ++ (d ++ (e ++ (f ++ g)))))
regroup a b c d e f g = simp append_assoc

meta_is : (slot : Slot) (i : Index) → meta_file slot i ≡ parts slot i (sha256 (meta_body slot i))
unfolding meta_file meta_body
meta_is slot i = regroup (head slot i.num_docs) (entry i.schema) (entry i.terms) (entry i.postings) (entry i.positions) (entry i.fieldnorms) (sha256 (meta_body slot i))

length_head : (slot : Slot) (n : ℕ) → length (head slot n) ≡ 17
unfolding head format
length_head slot n = refl

regroup_body : (a b c d e f : List ℕ) → a ++ b ++ c ++ d ++ e ++ f ≡ a ++ (b ++ (c ++ (d ++ (e ++ f))))
regroup_body a b c d e f = simp append_assoc

length_meta_body : (slot : Slot) (i : Index) → length (meta_body slot i) ≡ 217
unfolding meta_body
length_meta_body slot i =
    let r4 = entry i.fieldnorms in
    let r3 = entry i.positions ++ r4 in
    let r2 = entry i.postings ++ r3 in
    let r1 = entry i.terms ++ r2 in
    let r0 = entry i.schema ++ r1 in
    ap length (regroup_body (head slot i.num_docs) (entry i.schema) (entry i.terms) (entry i.postings) (entry i.positions) (entry i.fieldnorms)) ∙ length-append (head slot i.num_docs) r0 ∙ omega (
      arith,
      length-append (entry i.schema) r1,
      length-append (entry i.terms) r2,
      length-append (entry i.postings) r3,
      length-append (entry i.positions) r4,
      length_head slot i.num_docs,
      length_entry i.schema,
      length_entry i.terms,
      length_entry i.postings,
      length_entry i.positions,
      length_entry i.fieldnorms,
    )

length_meta : (slot : Slot) (i : Index) → length (meta_file slot i) ≡ 249
unfolding meta_file
length_meta slot i = length-append (meta_body slot i) (sha256 (meta_body slot i)) ∙ omega (arith, length_meta_body slot i, length-sha256 (meta_body slot i))

-- the bytes after an entry
next : (n : ℕ) (meta bytes more : List ℕ) → drop n meta ≡ entry bytes ++ more → drop (n + 40) meta ≡ more
next n meta bytes more at = sym (drop-drop 40 n meta) ∙ ap (drop 40) at ∙ drop_seam 40 (entry bytes) more (length_entry bytes)

-- a file that matches the entry at a place
file_at : (kind : Kind) (n : ℕ) (meta bytes more : List ℕ) → drop n meta ≡ entry bytes ++ more → file_in kind (drop n meta) (Some bytes) ≡ Ok bytes
file_at kind n meta bytes more at = rw at (file_given kind bytes more)

head_8 : (slot : Slot) (i : Index) → take 8 (parts slot i (sha256 (meta_body slot i))) ≡ format
unfolding head format
head_8 slot i = refl

-- the bytes before the entries
front_8 : (slot : Slot) (i : Index) → take 8 (meta_file slot i) ≡ format
front_8 slot i = ap (take 8) (meta_is slot i) ∙ head_8 slot i

head_at_8 : (slot : Slot) (i : Index) → take 4 (drop 8 (parts slot i (sha256 (meta_body slot i)))) ≡ to_le_bytes w32 1
unfolding head format
head_at_8 slot i = refl

version_at_8 : (slot : Slot) (i : Index) → take 4 (drop 8 (meta_file slot i)) ≡ to_le_bytes w32 1
version_at_8 slot i = ap (λ bytes. take 4 (drop 8 bytes)) (meta_is slot i) ∙ head_at_8 slot i

head_at_13 : (slot : Slot) (i : Index) → take 4 (drop 13 (parts slot i (sha256 (meta_body slot i)))) ≡ to_le_bytes w32 i.num_docs
unfolding head format
head_at_13 slot i = refl

docs_at_13 : (slot : Slot) (i : Index) → take 4 (drop 13 (meta_file slot i)) ≡ to_le_bytes w32 i.num_docs
docs_at_13 slot i = ap (λ bytes. take 4 (drop 13 bytes)) (meta_is slot i) ∙ head_at_13 slot i

named : (slot : Slot) (i : Index) → slot_in (parts slot i (sha256 (meta_body slot i))) ≡ slot
unfolding slot_in head format
named First i = refl
named Second i = refl

-- the slot of a meta file is the one that it was made for
pub slot_of_meta : (slot : Slot) (i : Index) → slot_in (meta_file slot i) ≡ slot
unfolding slot_in
slot_of_meta slot i = ap (λ meta. slot_in meta) (meta_is slot i) ∙ named slot i

version_of_meta : (slot : Slot) (i : Index) → version_in (meta_file slot i) ≡ Ok 1
unfolding version_in
version_of_meta slot i = rw (length_meta slot i, front_8 slot i, nat_list_eq_equiv.refl format, version_at_8 slot i) refl

checksum_of : (slot : Slot) (i : Index) → drop 217 (meta_file slot i) ≡ sha256 (meta_body slot i)
unfolding meta_file
checksum_of slot i = drop_seam 217 (meta_body slot i) (sha256 (meta_body slot i)) (length_meta_body slot i)

meta_body_of : (slot : Slot) (i : Index) → take 217 (meta_file slot i) ≡ meta_body slot i
unfolding meta_file
meta_body_of slot i = take_seam 217 (meta_body slot i) (sha256 (meta_body slot i)) (length_meta_body slot i)

whole_of_meta : (slot : Slot) (i : Index) → i.num_docs < 2 ^ 32 → whole_num_docs_in (meta_file slot i) ≡ Ok i.num_docs
unfolding whole_num_docs_in
whole_of_meta slot i small =
    let end : drop 217 (meta_file slot i) ≡ sha256 (meta_body slot i) = checksum_of slot i in
    let front : take 217 (meta_file slot i) ≡ meta_body slot i = meta_body_of slot i in
    rw (length_meta slot i, end, front, nat_list_eq_equiv.refl (sha256 (meta_body slot i)), docs_at_13 slot i, from_le_bytes-to_le_bytes_4 i.num_docs small) refl

docs_of_meta : (slot : Slot) (i : Index) → i.num_docs < 2 ^ 32 → num_docs_in (meta_file slot i) ≡ Ok i.num_docs
unfolding num_docs_in
docs_of_meta slot i small = rw (version_of_meta slot i) (whole_of_meta slot i small)

-- a meta file and the files that it was made of are the index
pub index_of_meta : (slot : Slot) (i : Index) → i.num_docs < 2 ^ 32
    → index_at (meta_file slot i) (Some i.schema) (Some i.terms) (Some i.postings) (Some i.positions) (Some i.fieldnorms) ≡ Ok i
index_of_meta slot i small =
    let meta = meta_file slot i in
    let end = sha256 (meta_body slot i) in
    let r4 : List ℕ = entry i.fieldnorms ++ end in
    let r3 : List ℕ = entry i.positions ++ r4 in
    let r2 : List ℕ = entry i.postings ++ r3 in
    let r1 : List ℕ = entry i.terms ++ r2 in
    let r0 : List ℕ = entry i.schema ++ r1 in
    let at0 : drop 17 meta ≡ r0 = ap (drop 17) (meta_is slot i) ∙ drop_seam 17 (head slot i.num_docs) r0 (length_head slot i.num_docs) in
    let at1 : drop 57 meta ≡ r1 = next 17 meta i.schema r1 at0 in
    let at2 : drop 97 meta ≡ r2 = next 57 meta i.terms r2 at1 in
    let at3 : drop 137 meta ≡ r3 = next 97 meta i.postings r3 at2 in
    let at4 : drop 177 meta ≡ r4 = next 137 meta i.positions r4 at3 in
    reads_all meta (Some i.schema) (Some i.terms) (Some i.postings) (Some i.positions) (Some i.fieldnorms) i.num_docs (docs_of_meta slot i small)
    i.schema (file_at Schema 17 meta i.schema r1 at0) i.terms (file_at Terms 57 meta i.terms r2 at1) i.postings (file_at Postings 97 meta i.postings r3 at2)
    i.positions (file_at Positions 137 meta i.positions r4 at3) i.fieldnorms (file_at FieldNorms 177 meta i.fieldnorms end at4)
