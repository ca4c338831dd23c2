-- Ranges of files, read in whole blocks.
use Rattle.std.proofs.Common.{◌≡◌, ℕ, ◌+◌, ◌-◌, ◌*◌, ◌/◌, ◌%◌, ◌<◌, ◌≤◌, min, true, false, List, length, take, drop, Some, None, Option, IfSome, true≢false, refl, sym, ap, ◌∙◌, arith, inl, inr, subst}
use Rattle.std.proofs.lemmas.Bool.{cases_lt}
use Rattle.std.proofs.lemmas.List.{drop-drop, drop-take, length-drop, length-take-le, take_all, take_at}
use Rattle.std.proofs.Math.Seq.{take-add}
use Rattle.ii_block_file.specs.BlockTable.{AreListed, BlockTableState, IsRange, IsReadFault, file_block, lists_checksum, num_file_blocks, block_table_of}
use Rattle.ii_block_file.proofs.TableLaws.{own_block}
use Rattle.ii_block_file.specs.declared.faults.ReadFault.{ReadFault}
use Rattle.ii_block_file.specs.declared.faults.ReadFault.TheVariants as faults

-- fewer of the first bytes
pub shorter : (n m : ℕ) (xs : List ℕ) → n ≤ m → take n (take m xs) ≡ take n xs
shorter n m xs fewer = elim (cases_lt (length xs) m) [
  | inl short ↦ ap (take n) (take_all m xs (omega (arith, short)))
  | inr long ↦
      let parts : m ≡ n + (m - n) = omega (arith, fewer) in
      let len : length (take n xs) ≡ n = length-take-le n xs (omega (arith, fewer, long)) in
      ap (take n) (ap (λ k. take k xs) parts ∙ take-add n (m - n) xs) ∙ take_at (take n xs) (take (m - n) (drop n xs)) n len
]

-- the bytes of a range, cut out of more bytes that begin before it
pub cut_out : (file : List ℕ) (start skipped len long : ℕ) → skipped + len ≤ long → take len (drop skipped (take long (drop start file))) ≡ take len (drop (start + skipped) file)
cut_out file start skipped len long within =
    let more = long - skipped in
    let parts : long ≡ skipped + more = omega (arith, within) in
    let rest = drop start file in
    ap (λ n. take len (drop skipped (take n rest))) parts ∙ ap (take len) (drop-take skipped more rest) ∙ shorter len more (drop skipped rest) (omega (arith, within)) ∙ ap (take len) (drop-drop skipped start file)

-- a block of a file, cut out of blocks that begin with one before it
pub block_of_range : (file : List ℕ) (first k blocks long : ℕ) → first ≤ k → k < first + blocks → long ≡ min (blocks * 4096) (length file - first * 4096) → k * 4096 < length file → file_block (k - first) (take long (drop (first * 4096) file)) ≡ file_block k file
block_of_range file first k blocks long from within least inside =
    let at : first * 4096 + (k - first) * 4096 ≡ k * 4096 = omega (arith, from) in
    let rest = drop (first * 4096) file in
    let place = (k - first) * 4096 in
    elim (cases_lt long (place + 4096)) [
      | inl last ↦
          let parts : long ≡ place + (long - place) = omega (arith, last, least, from, within, inside) in
          let ends : length (drop (k * 4096) file) ≤ long - place = omega (arith, length-drop (k * 4096) file, last, least, from, within, inside) in
          let left : drop place rest ≡ drop (k * 4096) file = drop-drop place (first * 4096) file ∙ ap (λ n. drop n file) at in
          ap (λ n. take 4096 (drop place (take n rest))) parts ∙ ap (take 4096) (drop-take place (long - place) rest ∙ ap (take (long - place)) left ∙ take_all (long - place) (drop (k * 4096) file) ends)
      | inr full ↦ cut_out file (first * 4096) place 4096 long (omega (arith, full)) ∙ ap (λ n. take 4096 (drop n file)) at
    ]

-- the blocks of a range reach to its end
pub enough : (from len total long : ℕ) → 0 < len → from + len ≤ total → long ≡ min (((from + (len - 1)) / 4096 + 1) * 4096) total - from / 4096 * 4096 → from % 4096 + len ≤ long
enough from len total long some within least = omega (arith, some, within, least)

module _ (t : BlockTableState) (from len : ℕ) (blocks bytes : List ℕ) (reach : from % 4096 + len ≤ length blocks) (cut : bytes ≡ take (from % 4096 + len - from % 4096) (drop (from % 4096) blocks)) where
  fewer : from % 4096 + len - from % 4096 ≡ len
  fewer = omega arith

  cut_is : bytes ≡ take len (drop (from % 4096) blocks)
  cut_is = cut ∙ ap (λ n. take n (drop (from % 4096) blocks)) fewer

  -- what is cut out of listed blocks is a range
  pub range_is : AreListed t (from / 4096) blocks → IsRange t from len bytes
  range_is listed = record {
    blocks = blocks;
    listed = listed;
    cut = cut_is;
    long = ap length cut_is ∙ length-take-le len (drop (from % 4096) blocks) (omega (arith, reach, length-drop (from % 4096) blocks));
  }

  -- what is cut out of the blocks of a file is its range
  pub range_of_file : (file : List ℕ) → blocks ≡ take (length blocks) (drop (from / 4096 * 4096) file) → bytes ≡ take len (drop from file)
  range_of_file file exact =
      let at : from / 4096 * 4096 + from % 4096 ≡ from = omega arith in
      cut_is ∙ ap (λ b. take len (drop (from % 4096) b)) exact ∙ cut_out file (from / 4096 * 4096) (from % 4096) len (length blocks) reach ∙ ap (λ n. take len (drop n file)) at

-- a statement of what is known, if something is
pub told : (source : Option (List ℕ)) (P : List ℕ → Type 0) → ((file : List ℕ) → source ≡ Some file → P file) → IfSome source P
told None P each = tt
told (Some file) P each = each file refl

module _ (file : List ℕ) (t : BlockTableState) (own : t ≡ block_table_of file) where
  len_is : t.len ≡ length file
  len_is = ap (λ (u : BlockTableState). u.len) own

  no_fault : (e : ReadFault) → IsReadFault t (Some file) 0 0 e → e ≡ faults.OutOfMemory
  no_fault faults.OutOfMemory fault = refl
  no_fault faults.Range fault = absurd (omega (arith, fault))
  no_fault (faults.Refused kind) fault = absurd (omega (arith, fault, len_is))
  no_fault (faults.Damaged k) fault =
      let listed : lists_checksum t k (file_block k file) ≡ true = ap (λ u. lists_checksum u k (file_block k file)) own ∙ own_block file k (omega (arith, fault.0, len_is)) in
      absurd (true≢false (sym listed ∙ fault.1 (sym len_is)))

  -- a file with its own table isn't found damaged
  pub sound_file : (source : Option (List ℕ)) (e : ReadFault) → source ≡ Some file → IsReadFault t source 0 0 e → e ≡ faults.OutOfMemory
  sound_file source e known fault = no_fault e (subst (λ s. IsReadFault t s 0 0 e) known fault)

-- a block that isn't listed is damaged in the file, if the blocks were read from it
pub is_damaged : (t : BlockTableState) (source : Option (List ℕ)) (first k blocks : ℕ) (read : List ℕ) → ((file : List ℕ) → source ≡ Some file → length file ≡ t.len → read ≡ take (length read) (drop (first * 4096) file))
    → length read ≡ min (blocks * 4096) (t.len - first * 4096) → first ≤ k → k < first + num_file_blocks (length read) → lists_checksum t k (file_block (k - first) read) ≡ false
    → IfSome source (λ file. length file ≡ t.len → lists_checksum t k (file_block k file) ≡ false)
is_damaged t source first k blocks read exact long from within other = told source _ (λ file known same.
    let same_block = ap (file_block (k - first)) (exact file known same) ∙ block_of_range file first k blocks (length read) from (omega (arith, long, within)) (long ∙ ap (λ n. min (blocks * 4096) (n - first * 4096)) (sym same)) (omega (arith, long, within, from, same)) in
    ap (lists_checksum t k) (sym same_block) ∙ other)
