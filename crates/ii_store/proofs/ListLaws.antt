-- A list of segments is read back from its `meta` file.
use Rattle.std.proofs.Common.{◌≡◌, ℕ, zero, suc, ◌+◌, ◌-◌, ◌^◌, ◌<◌, ◌≤◌, ◌==◌, Bool, true, false, not, ◌||◌, ltb, nat_lt, bytes_eq, List, [], ◌∷◌, ◌++◌, length, take, drop, Result, Ok, Err, refl, sym, ap, subst, ◌∙◌, append_assoc, arith, if◌then◌else◌}
use Rattle.std.specs.Int.{Width, w16, w32, w64, byte_len, from_le_bytes, to_le_bytes}
use Rattle.std.specs.List.{flat_map, list_all, AllByRecursion}
use Rattle.std.proofs.lemmas.Bool.{and_parts, le-ltb, ne_eqb}
use Rattle.std.proofs.lemmas.Cmp.{nat_list_eq_equiv}
use Rattle.std.proofs.lemmas.List.{append-nil, take_at, drop_at, length-append}
use Rattle.std.proofs.lemmas.List.Concat.{flat_map-cons}
use Rattle.std.proofs.lemmas.Nat.{from_le_bytes-to_le_bytes_2, from_le_bytes-to_le_bytes_4, from_le_bytes-to_le_bytes_8}
use Rattle.sha2.specs.Sha256.{sha256}
use Rattle.sha2.proofs.Facts256.{length-sha256}
use Rattle.ii_store.specs.declared.faults.IndexFault.{IndexFault}
use Rattle.ii_store.specs.declared.faults.IndexFault.TheVariants.{DamagedMeta, OtherVersion}
use Rattle.ii_store.specs.declared.file_digest.FileDigest.{FileDigest}
use Rattle.ii_store.specs.declared.file_digest.FileDigest.TheVariants.{Sha256, LongBlocks, Blocks}
use Rattle.ii_store.specs.declared.index_meta.FileMeta.{FileMeta}
use Rattle.ii_directory.specs.declared.name.SegmentComponent.{SegmentComponent}
use Rattle.ii_directory.specs.declared.name.SegmentComponent.TheVariants.{Alive, BlockTables, Counts, FieldNorms, Positions, Postings, Store, Terms}
use Rattle.ii_store.specs.FileDigest.{digest_items, digest_kind}
use Rattle.ii_store.specs.Index.{◌>>=◌, format, version_in}
use Rattle.ii_store.specs.IndexMeta.{FileFits, IsValidMeta, MetaFits, MetaState, SegmentFits, SegmentState, body_bytes, byte_at, bytes_at, checked_list, component_of, digest_at, digest_bytes, digest_of, file_at, file_bytes, file_head, has_only_sha256, is_consistent, is_list_version, items_at, digest_kind_at, list_at, list_bytes, list_file, list_head, list_numbers, meta_bytes, meta_of, number_at, segment_at, segment_bytes, segment_head}
use Rattle.ii_directory.specs.Names.{component_generation, component_number}

-- A width whose numbers are read back.
record IsWide (w : Width) (limit : ℕ) : Type 0 where
  pub len : (n : ℕ) → length (to_le_bytes w n) ≡ byte_len w
  pub again : (n : ℕ) → n < limit → from_le_bytes w (to_le_bytes w n) ≡ n

wide16 : IsWide w16 (2 ^ 16)
wide16 = record { len = λ n. refl; again = λ n lt. from_le_bytes-to_le_bytes_2 n lt }

wide32 : IsWide w32 (2 ^ 32)
wide32 = record { len = λ n. refl; again = λ n lt. from_le_bytes-to_le_bytes_4 n lt }

wide64 : IsWide w64 (2 ^ 64)
wide64 = record { len = λ n. refl; again = λ n lt. from_le_bytes-to_le_bytes_8 n lt }

number_again : (w : Width) (limit : ℕ) (wide : IsWide w limit) (n : ℕ) (rest : List ℕ) → n < limit → number_at w (to_le_bytes w n ++ rest) ≡ Ok (n, rest)
unfolding number_at
number_again w limit wide n rest lt =
    let len = wide.len n in
    let long : ltb (length (to_le_bytes w n ++ rest)) (byte_len w) ≡ false = le-ltb _ _ (omega (arith, length-append (to_le_bytes w n) rest)) in
    rw (long, take_at (to_le_bytes w n) rest (byte_len w) len, drop_at (to_le_bytes w n) rest (byte_len w) len, wide.again n lt) refl

again16 : (n : ℕ) (rest : List ℕ) → n < 2 ^ 16 → number_at w16 (to_le_bytes w16 n ++ rest) ≡ Ok (n, rest)
again16 n rest lt = number_again w16 (2 ^ 16) wide16 n rest lt

again32 : (n : ℕ) (rest : List ℕ) → n < 2 ^ 32 → number_at w32 (to_le_bytes w32 n ++ rest) ≡ Ok (n, rest)
again32 n rest lt = number_again w32 (2 ^ 32) wide32 n rest lt

again64 : (n : ℕ) (rest : List ℕ) → n < 2 ^ 64 → number_at w64 (to_le_bytes w64 n ++ rest) ≡ Ok (n, rest)
again64 n rest lt = number_again w64 (2 ^ 64) wide64 n rest lt

bytes_again : (count : ℕ) (bytes rest : List ℕ) → length bytes ≡ count → bytes_at count (bytes ++ rest) ≡ Ok (bytes, rest)
unfolding bytes_at
bytes_again count bytes rest len =
    let long : ltb (length (bytes ++ rest)) count ≡ false = le-ltb _ _ (omega (arith, length-append bytes rest)) in
    rw (long, take_at bytes rest count len, drop_at bytes rest count len) refl

component_again : (c : SegmentComponent) → component_of (component_number c) (component_generation c) ≡ Ok c
unfolding component_of
component_again Terms = refl
component_again Postings = refl
component_again Positions = refl
component_again FieldNorms = refl
component_again Counts = refl
component_again (Alive generation) = refl
component_again Store = refl
component_again BlockTables = refl

number_small : (c : SegmentComponent) → component_number c < 2 ^ 16
number_small Terms = omega arith
number_small Postings = omega arith
number_small Positions = omega arith
number_small FieldNorms = omega arith
number_small Counts = omega arith
number_small (Alive generation) = omega arith
number_small Store = omega arith
number_small BlockTables = omega arith

-- some parts and what comes after them

three : (a b c rest : List ℕ) → (a ++ b ++ c) ++ rest ≡ a ++ (b ++ (c ++ rest))
three a b c rest = simp append_assoc

four : (a b c d rest : List ℕ) → (a ++ b ++ c ++ d) ++ rest ≡ a ++ (b ++ (c ++ (d ++ rest)))
four a b c d rest = simp append_assoc

five : (a b c d e rest : List ℕ) → (a ++ b ++ c ++ d ++ e) ++ rest ≡ a ++ (b ++ (c ++ (d ++ (e ++ rest))))
five a b c d e rest = simp append_assoc

-- Whether a list of a version can hold a digest: one of version 2 holds a SHA-256 alone.
abbrev can_hold : ℕ → FileDigest → Bool
can_hold version d = not (version == 2) || digest_kind d == 0

abbrev digest_if : Bool → FileDigest → List ℕ
digest_if first d = if first then digest_items d else digest_kind d ∷ digest_items d

kind_in : (first : Bool) (d : FileDigest) (bytes : List ℕ) → (not first || digest_kind d == 0) ≡ true → (if first then Ok (0, digest_if first d ++ bytes) else byte_at (digest_if first d ++ bytes)) ≡ Ok (digest_kind d, digest_items d ++ bytes)
kind_in true (Sha256 digest) bytes held = refl
kind_in true (LongBlocks digest) bytes held = absurd cc
kind_in true (Blocks digest) bytes held = absurd cc
kind_in false d bytes held = refl

kind_again : (version : ℕ) (d : FileDigest) (bytes : List ℕ) → can_hold version d ≡ true → digest_kind_at version (digest_bytes version d ++ bytes) ≡ Ok (digest_kind d, digest_items d ++ bytes)
unfolding digest_kind_at digest_bytes
kind_again version d bytes held = kind_in (version == 2) d bytes held

kind_of_digest : (d : FileDigest) → digest_of (digest_kind d) (digest_items d) ≡ Ok d
unfolding digest_of
kind_of_digest (Sha256 digest) = refl
kind_of_digest (LongBlocks digest) = refl
kind_of_digest (Blocks digest) = refl

digest_again : (version : ℕ) (d : FileDigest) (rest : List ℕ) → length (digest_items d) ≡ 32 → can_hold version d ≡ true → digest_at version (digest_bytes version d ++ rest) ≡ Ok (d, rest)
unfolding digest_at
digest_again version d rest len held = rw (kind_again version d rest held, bytes_again 32 (digest_items d) rest len, kind_of_digest d) refl

-- A file that a list of a version can hold.
record IsHeld (version : ℕ) (f : FileMeta) : Type 0 where
  pub fits : FileFits f
  pub held : can_hold version f.digest ≡ true

file_again : (version : ℕ) (f : FileMeta) (rest : List ℕ) → IsHeld version f → file_at version (file_bytes version f ++ rest) ≡ Ok (f, rest)
unfolding file_at file_bytes file_head
file_again version f rest is =
    let number = to_le_bytes w16 (component_number f.component) in
    let generation = to_le_bytes w64 (component_generation f.component) in
    let len = to_le_bytes w64 f.len in
    let digest = digest_bytes version f.digest in
    ap (file_at version) (append_assoc (number ++ generation ++ len) digest rest ∙ three number generation len (digest ++ rest)) ∙ rw (
      again16 (component_number f.component) (generation ++ (len ++ (digest ++ rest))) (number_small f.component),
      again64 (component_generation f.component) (len ++ (digest ++ rest)) is.fits.generation,
      again64 f.len (digest ++ rest) is.fits.len,
      digest_again version f.digest rest is.fits.digest is.held,
      component_again f.component,
    ) refl

-- items that are read back one by one are read back in sequence
items_again : {A : Type 0} (item_at : List ℕ → Result (A × List ℕ) IndexFault) (item_bytes : A → List ℕ) (Fits : A → Type 0)
    → ((x : A) (rest : List ℕ) → Fits x → item_at (item_bytes x ++ rest) ≡ Ok (x, rest))
    → (xs : List A) (rest : List ℕ) → AllByRecursion Fits xs → items_at item_at (length xs) (flat_map item_bytes xs ++ rest) ≡ Ok (xs, rest)
unfolding items_at
items_again item_at item_bytes Fits one [] rest fits = refl
items_again item_at item_bytes Fits one (x ∷ xs) rest fits =
    let regrouped : flat_map item_bytes (x ∷ xs) ++ rest ≡ item_bytes x ++ (flat_map item_bytes xs ++ rest) = ap (λ (bytes : List ℕ). bytes ++ rest) (flat_map-cons item_bytes x xs) ∙ append_assoc (item_bytes x) (flat_map item_bytes xs) rest in
    ap (items_at item_at (suc (length xs))) regrouped ∙ rw (one x (flat_map item_bytes xs ++ rest) fits.0, items_again item_at item_bytes Fits one xs rest fits.1) refl

-- whether a list of a version can hold the digests of files
abbrev holds_files : ℕ → List FileMeta → Bool
holds_files version fs = list_all (λ (f : FileMeta). can_hold version f.digest) fs

held_files : (version : ℕ) (fs : List FileMeta) → AllByRecursion FileFits fs → holds_files version fs ≡ true → AllByRecursion (IsHeld version) fs
held_files version [] fits held = tt
held_files version (f ∷ fs) fits held =
    let p = and_parts (can_hold version f.digest) (holds_files version fs) held in
    (record { fits = fits.0; held = p.0 }, held_files version fs fits.1 p.1)

-- A segment that a list of a version can hold.
record IsHeldSegment (version : ℕ) (s : SegmentState) : Type 0 where
  pub fits : SegmentFits s
  pub held : holds_files version s.files ≡ true

segment_again : (version : ℕ) (s : SegmentState) (rest : List ℕ) → IsHeldSegment version s → segment_at version (segment_bytes version s ++ rest) ≡ Ok (s, rest)
unfolding segment_at segment_bytes segment_head
segment_again version s rest is =
    let id = to_le_bytes w64 s.id in
    let num_docs = to_le_bytes w32 s.num_docs in
    let num_living = to_le_bytes w32 s.num_living in
    let count = to_le_bytes w16 (length s.files) in
    let files = flat_map (file_bytes version) s.files in
    let fits = is.fits in
    ap (segment_at version) (append_assoc (id ++ num_docs ++ num_living ++ count) files rest ∙ four id num_docs num_living count (files ++ rest)) ∙ rw (
      again64 s.id (num_docs ++ (num_living ++ (count ++ (files ++ rest)))) fits.id,
      again32 s.num_docs (num_living ++ (count ++ (files ++ rest))) fits.num_docs,
      again32 s.num_living (count ++ (files ++ rest)) fits.num_living,
      again16 (length s.files) (files ++ rest) fits.count,
      items_again (file_at version) (file_bytes version) (IsHeld version) (file_again version) s.files rest (held_files version s.files fits.files is.held),
    ) refl

-- whether a list of a version can hold the digests of segments
abbrev holds_segments : ℕ → List SegmentState → Bool
holds_segments version ss = list_all (λ (s : SegmentState). holds_files version s.files) ss

held_segments : (version : ℕ) (ss : List SegmentState) → AllByRecursion SegmentFits ss → holds_segments version ss ≡ true → AllByRecursion (IsHeldSegment version) ss
held_segments version [] fits held = tt
held_segments version (s ∷ ss) fits held =
    let p = and_parts (holds_files version s.files) (holds_segments version ss) held in
    (record { fits = fits.0; held = p.0 }, held_segments version ss fits.1 p.1)

list_again : (version : ℕ) (m : MetaState) → MetaFits m → holds_segments version m.segments ≡ true → list_at version (list_bytes version m) ≡ Ok m
unfolding list_at list_bytes list_head list_numbers
list_again version m fits held =
    let generation = to_le_bytes w64 m.generation in
    let next = to_le_bytes w64 m.next_segment_id in
    let len = to_le_bytes w32 (length m.schema) in
    let count = to_le_bytes w16 (length m.segments) in
    let segments = flat_map (segment_bytes version) m.segments in
    let all = held_segments version m.segments fits.segments held in
    let last : items_at (segment_at version) (length m.segments) segments ≡ Ok (m.segments, []) =
    ap (items_at (segment_at version) (length m.segments)) (sym (append-nil segments)) ∙ items_again (segment_at version) (segment_bytes version) (IsHeldSegment version) (segment_again version) m.segments [] all
    in
    ap (list_at version) (five generation next len m.schema count segments) ∙ rw (
      again64 m.generation (next ++ (len ++ (m.schema ++ (count ++ segments)))) fits.generation,
      again64 m.next_segment_id (len ++ (m.schema ++ (count ++ segments))) fits.next_segment_id,
      again32 (length m.schema) (m.schema ++ (count ++ segments)) fits.schema,
      bytes_again (length m.schema) m.schema (count ++ segments) refl,
      again16 (length m.segments) segments fits.count,
      last,
    ) refl

-- a version that lists segments
record IsListVersion (version : ℕ) : Type 0 where
  pub small : version < 2 ^ 32
  pub lists : is_list_version version ≡ true

abbrev front : ℕ → List ℕ
front version = format ++ to_le_bytes w32 version

length_front : (version : ℕ) → length (front version) ≡ 12
unfolding format
length_front version = refl

front_8 : (version : ℕ) (rest : List ℕ) → take 8 (front version ++ rest) ≡ format
unfolding format
front_8 version rest = refl

front_version : (version : ℕ) (rest : List ℕ) → take 4 (drop 8 (front version ++ rest)) ≡ to_le_bytes w32 version
unfolding format
front_version version rest = refl

version_of_front : (version : ℕ) (rest : List ℕ) → version < 2 ^ 32 → version_in (front version ++ rest) ≡ Ok version
unfolding version_in
version_of_front version rest small =
    let long : ltb (length (front version ++ rest)) 12 ≡ false = le-ltb _ _ (omega (arith, length-append (front version) rest, length_front version)) in
    rw (long, front_8 version rest, nat_list_eq_equiv.refl format, front_version version rest, wide32.again version small) refl

module _ (version : ℕ) (m : MetaState) where
  body_len : 12 ≤ length (body_bytes version m)
  unfolding body_bytes
  body_len = omega (arith, length-append (front version) (list_bytes version m), length_front version)

  list_of_body : drop 12 (body_bytes version m) ≡ list_bytes version m
  unfolding body_bytes
  list_of_body = drop_at (front version) (list_bytes version m) 12 (length_front version)

  meta_len : length (list_file version m) ≡ length (body_bytes version m) + 32
  unfolding list_file
  meta_len = length-append (body_bytes version m) (sha256 (body_bytes version m)) ∙ omega (arith, length-sha256 (body_bytes version m))

  body_of_meta : take (length (list_file version m) - 32) (list_file version m) ≡ body_bytes version m
  unfolding list_file
  body_of_meta = take_at (body_bytes version m) (sha256 (body_bytes version m)) (length (list_file version m) - 32) (omega (arith, meta_len))

  checksum_of_meta : drop (length (list_file version m) - 32) (list_file version m) ≡ sha256 (body_bytes version m)
  unfolding list_file
  checksum_of_meta = drop_at (body_bytes version m) (sha256 (body_bytes version m)) (length (list_file version m) - 32) (omega (arith, meta_len))

  checked_again : IsValidMeta m → holds_segments version m.segments ≡ true → checked_list version (list_file version m) ≡ Ok m
  unfolding checked_list
  checked_again valid held =
      let long : ltb (length (list_file version m)) 44 ≡ false = le-ltb _ _ (omega (arith, meta_len, body_len)) in
      rw (long, checksum_of_meta, body_of_meta, nat_list_eq_equiv.refl (sha256 (body_bytes version m)), list_of_body, list_again version m valid.fits held, valid.consistent) refl

  version_of_meta : version < 2 ^ 32 → version_in (list_file version m) ≡ Ok version
  unfolding list_file body_bytes
  version_of_meta small = ap version_in (append_assoc (front version) (list_bytes version m) (sha256 (body_bytes version m))) ∙ version_of_front version (list_bytes version m ++ sha256 (body_bytes version m)) small

  list_file_again : IsListVersion version → IsValidMeta m → holds_segments version m.segments ≡ true → meta_of (list_file version m) ≡ Ok m
  unfolding meta_of
  list_file_again is valid held = rw (version_of_meta is.small, is.lists) (checked_again valid held)

all_files : (fs : List FileMeta) → holds_files 3 fs ≡ true
all_files [] = refl
all_files (f ∷ fs) = all_files fs

all_segments : (ss : List SegmentState) → holds_segments 3 ss ≡ true
all_segments [] = refl
all_segments (s ∷ ss) = rw (all_files s.files) (all_segments ss)

-- a valid list is read back
pub meta_again : (m : MetaState) → IsValidMeta m → meta_of (meta_bytes m) ≡ Ok m
meta_again m valid = list_file_again 3 m (record { small = omega arith; lists = refl }) valid (all_segments m.segments)

-- and from a file of version 2, if its digests are SHA-256
pub earlier_again : (m : MetaState) → IsValidMeta m → has_only_sha256 m ≡ true → meta_of (list_file 2 m) ≡ Ok m
earlier_again m valid only = list_file_again 2 m (record { small = omega arith; lists = refl }) valid only

-- what a `meta` file gives

abbrev unless : Bool → IndexFault → Result MetaState IndexFault → Result MetaState IndexFault
unless b fault rest = if b then Err fault else rest

past : (b : Bool) (fault : IndexFault) (rest : Result MetaState IndexFault) (m : MetaState) → unless b fault rest ≡ Ok m → rest ≡ Ok m
past true fault rest m e = absurd cc
past false fault rest m e = e

abbrev taken : Bool → MetaState → Result MetaState IndexFault
taken b m = if b then Ok m else Err DamagedMeta

chosen : (b : Bool) (x m : MetaState) → taken b x ≡ Ok m → (b ≡ true) × (x ≡ m)
chosen true x m e = (refl, cc)
chosen false x m e = absurd cc

last : (r : Result MetaState IndexFault) (m : MetaState) → (r >>= λ x. taken (is_consistent x) x) ≡ Ok m → is_consistent m ≡ true
last (Ok x) m e = let p = chosen (is_consistent x) x m e in subst (λ (y : MetaState). is_consistent y ≡ true) p.1 p.0
last (Err fault) m e = absurd cc

checked_consistent : (version : ℕ) (meta : List ℕ) (m : MetaState) → checked_list version meta ≡ Ok m → is_consistent m ≡ true
unfolding checked_list
checked_consistent version meta m e =
    let short = nat_lt (length meta) 44 in
    let changed = not (bytes_eq (drop (length meta - 32) meta) (sha256 (take (length meta - 32) meta))) in
    let list = list_at version (drop 12 (take (length meta - 32) meta)) in
    let read = list >>= λ x. taken (is_consistent x) x in
    last list m (past changed DamagedMeta read m (past short DamagedMeta (unless changed DamagedMeta read) m e))

is_listed : (b : Bool) (fault : IndexFault) (rest : Result MetaState IndexFault) (m : MetaState) → unless (not b) fault rest ≡ Ok m → b ≡ true
is_listed true fault rest m e = refl
is_listed false fault rest m e = absurd cc

not_first : (version : ℕ) → is_list_version version ≡ true → (version == 1) ≡ false
not_first zero lists = refl
not_first (suc zero) lists = absurd cc
not_first (suc (suc n)) lists = ne_eqb (suc (suc n)) 1 (λ same. omega (arith, same))

versioned : (r : Result ℕ IndexFault) (lists : ℕ → Result MetaState IndexFault) (m : MetaState) → (r >>= λ version. unless (not (is_list_version version)) (OtherVersion version) (lists version)) ≡ Ok m
    → (version : ℕ) × (r ≡ Ok version) × (is_list_version version ≡ true) × (lists version ≡ Ok m)
versioned (Ok version) lists m e = (version, refl, is_listed (is_list_version version) (OtherVersion version) (lists version) m e, past (not (is_list_version version)) (OtherVersion version) (lists version) m e)
versioned (Err fault) lists m e = absurd cc

-- the list of a `meta` file is consistent
pub list_consistent : (meta : List ℕ) (m : MetaState) → meta_of meta ≡ Ok m → is_consistent m ≡ true
unfolding meta_of
list_consistent meta m e =
    let v = versioned (version_in meta) (λ version. checked_list version meta) m e in
    checked_consistent v.0 meta m v.3

-- the version of a `meta` file that lists segments isn't 1
pub list_version : (meta : List ℕ) (m : MetaState) → meta_of meta ≡ Ok m → (version : ℕ) × (version_in meta ≡ Ok version) × ((version == 1) ≡ false)
unfolding meta_of
list_version meta m e =
    let v = versioned (version_in meta) (λ version. checked_list version meta) m e in
    (v.0, v.1, not_first v.0 v.2)
