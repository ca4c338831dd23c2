-- Laws of skip lists and of their places.
use Rattle.std.proofs.Common.{◌≡◌, ℕ, zero, suc, ◌+◌, ◌*◌, ◌<◌, ◌≤◌, Bool, true, false, ◌&&◌, List, ◌∷◌, length, drop, get_or, Option, Some, None, nat_le, refl, sym, ap, ◌∙◌, arith, add-one}
use Rattle.std.proofs.lemmas.Bool.{le-leb, lt-leb}
use Rattle.std.proofs.lemmas.List.{drop-drop, drop_all}
use Rattle.std.proofs.lemmas.List.FromFn.{length-map-range_with_len, get_or-map-range_with_len}
use Rattle.std.proofs.Math.Seq.{drop-cons}
use Rattle.std.specs.List.{list_all}
use Rattle.ii_base.specs.declared.schema.index_record_option.IndexRecordOption.{IndexRecordOption}
use Rattle.ii_io.specs.Steps.{◌>>=◌, needs}
use Rattle.ii_io.specs.Vints.{u64_at}
use Rattle.ii_layout.specs.declared.skip.BlockInfo.{BlockInfo}
use Rattle.ii_layout.specs.SkipReader.{block_info_of, tf_num_bits_of}
use Rattle.ii_layout.specs.SkipList.{SkipEntry, SkipList, entry_at, entries_at, skip_list, skip_list_at, skip_info_of, entry_size, no_entry}

-- A number of bytes was read that are there, and the shape of the entries follows from it.
pub record ReadsLen (recorded : IndexRecordOption) (blocks : ℕ) (bytes rest : List ℕ) (len : ℕ) (skip_info : IndexRecordOption) : Type 0 where
  pub some : 0 < blocks
  pub read : Some (len, rest) ≡ u64_at bytes
  pub whole : len ≤ length rest
  pub info : skip_info ≡ skip_info_of recorded blocks len

-- what is left of reading once the number of bytes is known to be there
abbrev pub by_skip_info : ℕ → ℕ → List ℕ → IndexRecordOption → Option SkipList
by_skip_info more len rest skip_info =
    needs (nat_le (entry_size skip_info * suc more) len) >>= λ _.
    needs (list_all (λ (e : SkipEntry). nat_le e.tf_num_bits 32) (entries_at skip_info (suc more) rest)) >>= λ _.
    Some (record { skip_info = skip_info; entries = entries_at skip_info (suc more) rest; body = drop len rest })

skip_is : (recorded : IndexRecordOption) (more : ℕ) (bytes rest : List ℕ) (len : ℕ) (skip_info : IndexRecordOption) → ReadsLen recorded (suc more) bytes rest len skip_info → skip_list recorded (suc more) bytes ≡ by_skip_info more len rest skip_info
skip_is recorded more bytes rest len skip_info r = rw (← r.read, le-leb len (length rest) r.whole) (ap (by_skip_info more len rest) (sym r.info))

pub skip_wide : (recorded : IndexRecordOption) (blocks : ℕ) (bytes rest : List ℕ) (len : ℕ) (skip_info : IndexRecordOption) → ReadsLen recorded blocks bytes rest len skip_info → entry_size skip_info * blocks ≤ len
    → list_all (λ (e : SkipEntry). nat_le e.tf_num_bits 32) (entries_at skip_info blocks rest) ≡ false → skip_list recorded blocks bytes ≡ None
skip_wide recorded zero bytes rest len skip_info r enough wide = absurd (let some = r.some in omega arith)
skip_wide recorded (suc more) bytes rest len skip_info r enough wide =
    skip_is recorded more bytes rest len skip_info r ∙ (rw (le-leb (entry_size skip_info * suc more) len enough, wide) refl)

-- too few bytes for the entries, or fewer than the number at the front
pub skip_short : (recorded : IndexRecordOption) (blocks : ℕ) (bytes rest : List ℕ) (len : ℕ) (skip_info : IndexRecordOption) → ReadsLen recorded blocks bytes rest len skip_info → len < entry_size skip_info * blocks → skip_list recorded blocks bytes ≡ None
skip_short recorded zero bytes rest len skip_info r short = absurd (let some = r.some in omega arith)
skip_short recorded (suc more) bytes rest len skip_info r short =
    skip_is recorded more bytes rest len skip_info r ∙ (rw (lt-leb (entry_size skip_info * suc more) len short) refl)

pub skip_cut : (recorded : IndexRecordOption) (blocks : ℕ) (bytes rest : List ℕ) (len : ℕ) → 0 < blocks → Some (len, rest) ≡ u64_at bytes → length rest < len → skip_list recorded blocks bytes ≡ None
skip_cut recorded zero bytes rest len some read cut = absurd (omega arith)
skip_cut recorded (suc more) bytes rest len some read cut = rw (← read, lt-leb len (length rest) cut) refl

pub skip_found : (recorded : IndexRecordOption) (blocks : ℕ) (bytes rest : List ℕ) (entries len : ℕ) (skip_info : IndexRecordOption) → ReadsLen recorded blocks bytes rest len skip_info → rest ≡ drop entries bytes
    → entry_size skip_info * blocks ≤ len → list_all (λ (e : SkipEntry). nat_le e.tf_num_bits 32) (entries_at skip_info blocks rest) ≡ true
    → skip_list recorded blocks bytes ≡ Some (skip_list_at skip_info blocks bytes entries (entries + len))
skip_found recorded zero bytes rest entries len skip_info r rest_is enough narrow = absurd (let some = r.some in omega arith)
skip_found recorded (suc more) bytes rest entries len skip_info r rest_is enough narrow =
    let found : List ℕ → List ℕ → Option SkipList = λ rest body. Some (record { skip_info = skip_info; entries = entries_at skip_info (suc more) rest; body = body }) in
    skip_is recorded more bytes rest len skip_info r
    ∙ (rw (le-leb (entry_size skip_info * suc more) len enough, narrow) refl)
    ∙ (λ j. found (rest_is j) ((ap (drop len) rest_is ∙ drop-drop len entries bytes) j))

-- entries that are looked at one by one
abbrev pub is_narrow : SkipEntry → Bool
is_narrow e = nat_le e.tf_num_bits 32

all_cases : (e : SkipEntry) (es : List SkipEntry) (t : Bool) → is_narrow e ≡ t → list_all is_narrow (e ∷ es) ≡ (t && list_all is_narrow es)
all_cases e es t same = rw same refl

from_entry : (skip_info : IndexRecordOption) (blocks i n : ℕ) (bytes : List ℕ) (info : BlockInfo) (t : Bool) → i < blocks → info ≡ block_info_of (entry_at skip_info (drop (entry_size skip_info * i) bytes)) → n ≡ tf_num_bits_of info → nat_le n 32 ≡ t
    → list_all is_narrow (drop i (entries_at skip_info blocks bytes)) ≡ (t && list_all is_narrow (drop (i + 1) (entries_at skip_info blocks bytes)))
from_entry skip_info blocks i n bytes info t within info_is n_is test =
    let entries = entries_at skip_info blocks bytes in
    let many = length-map-range_with_len (λ k. entry_at skip_info (drop (entry_size skip_info * k) bytes)) 0 blocks in
    let entry = get_or-map-range_with_len (λ k. entry_at skip_info (drop (entry_size skip_info * k) bytes)) 0 blocks i i no_entry within (omega arith) in
    let bits : (get_or entries i no_entry).tf_num_bits ≡ n = ap (λ (e : SkipEntry). e.tf_num_bits) entry ∙ sym (ap tf_num_bits_of info_is) ∙ sym n_is in
    ap (list_all is_narrow) (drop-cons entries i no_entry (omega arith)) ∙ all_cases (get_or entries i no_entry) (drop (suc i) entries) t (ap (λ (k : ℕ). nat_le k 32) bits ∙ test)
    ∙ ap (λ (k : ℕ). t && list_all is_narrow (drop k entries)) (sym (add-one i))

pub narrow_more : (skip_info : IndexRecordOption) (blocks i n : ℕ) (bytes : List ℕ) (info : BlockInfo) → i < blocks → info ≡ block_info_of (entry_at skip_info (drop (entry_size skip_info * i) bytes)) → n ≡ tf_num_bits_of info → n ≤ 32
    → list_all is_narrow (drop i (entries_at skip_info blocks bytes)) ≡ list_all is_narrow (drop (i + 1) (entries_at skip_info blocks bytes))
narrow_more skip_info blocks i n bytes info within info_is n_is few = from_entry skip_info blocks i n bytes info true within info_is n_is (le-leb n 32 few)

pub narrow_not : (skip_info : IndexRecordOption) (blocks i n : ℕ) (bytes : List ℕ) (info : BlockInfo) → i < blocks → info ≡ block_info_of (entry_at skip_info (drop (entry_size skip_info * i) bytes)) → n ≡ tf_num_bits_of info → 32 < n
    → list_all is_narrow (drop i (entries_at skip_info blocks bytes)) ≡ false
narrow_not skip_info blocks i n bytes info within info_is n_is many = from_entry skip_info blocks i n bytes info false within info_is n_is (lt-leb n 32 many)

pub narrow_all : (skip_info : IndexRecordOption) (blocks i : ℕ) (bytes : List ℕ) → blocks ≤ i → list_all is_narrow (drop i (entries_at skip_info blocks bytes)) ≡ true
narrow_all skip_info blocks i bytes past =
    let many = length-map-range_with_len (λ k. entry_at skip_info (drop (entry_size skip_info * k) bytes)) 0 blocks in
    ap (list_all is_narrow) (drop_all i (entries_at skip_info blocks bytes) (omega arith))
