-- Files that `meta` lists, and their tables.
use Rattle.std.proofs.Common.{◌≡◌, ℕ, ◌+◌, ◌≤◌, ◌==◌, not, Bool, true, false, true≢false, inl, inr, List, length, Some, None, Option, Result, Ok, Err, refl, sym, ap, ◌∙◌, arith, if◌then◌else◌}
use Rattle.std.specs.Option.{IsSome}
use Rattle.std.specs.Result.{is_ok}
use Rattle.std.proofs.lemmas.Bool.{cases_lt, eq-eqb}
use Rattle.ii_store.specs.FileDigest.{blocks_digest, digest_kind, has_digest}
use Rattle.ii_store.specs.Index.{◌>>=◌}
use Rattle.ii_store.specs.Segments.{ListedFile, listed_bytes}
use Rattle.ii_store.specs.declared.faults.IndexFault.{IndexFault}
use Rattle.ii_store.specs.declared.faults.IndexFault.TheVariants.{WrongFileChecksum}
use Rattle.ii_store.specs.declared.file_digest.FileDigest.{FileDigest}
use Rattle.ii_store.specs.declared.file_digest.FileDigest.TheVariants as digests
use Rattle.ii_block_file.specs.BlockTable.{BlockTableState, block_table_of, is_digest_of}
use Rattle.ii_block_file.specs.ListedFile.{bytes_or_none, table_of_listed}

-- a file with at least this length, after which there is no byte, has this length
pub not_longer : {E : Type 0} {P : Type 0} (len : ℕ) (bytes : List ℕ) (next : Result Unit E) → is_ok next ≡ false → len ≤ length bytes → (len + 1 ≤ length bytes → (next ≡ Ok tt) × P) → length bytes ≡ len
not_longer len bytes next failed enough reads = elim (cases_lt len (length bytes)) [
  | inl longer ↦ absurd (true≢false (sym (ap is_ok (reads (omega (arith, longer))).0) ∙ failed))
  | inr most ↦ omega (arith, enough, most)
]

-- a file has the digest of its blocks if its table has it
same_digest : (d : FileDigest) (bytes : List ℕ) → digest_kind d ≡ 2 → has_digest d bytes ≡ is_digest_of d (block_table_of bytes).bytes
unfolding has_digest blocks_digest
same_digest (digests.Sha256 digest) bytes kind = absurd (omega (arith, kind))
same_digest (digests.LongBlocks digest) bytes kind = absurd (omega (arith, kind))
same_digest (digests.Blocks digest) bytes kind = refl

same_bytes : (long changed : Bool) (f g : IndexFault) (bytes b : List ℕ) → ◌≡◌ {A = Result (List ℕ) IndexFault} (if long then Err f else if changed then Err g else Ok bytes) (Ok b) → b ≡ bytes
same_bytes true changed f g bytes b e = absurd cc
same_bytes false true f g bytes b e = absurd cc
same_bytes false false f g bytes b e = cc

bytes_of_table : (r : Result (List ℕ) IndexFault) (t : BlockTableState) → (r >>= λ bytes. Ok (block_table_of bytes)) ≡ Ok t → (bytes : List ℕ) × (r ≡ Ok bytes) × (t ≡ block_table_of bytes)
bytes_of_table (Ok bytes) t e = (bytes, refl, cc)
bytes_of_table (Err fault) t e = absurd cc

module _ (l : ListedFile) (bytes : List ℕ) where
  -- a file of this length with another table
  pub wrong_checksum : digest_kind l.file.digest ≡ 2 → length bytes ≡ l.file.len → is_digest_of l.file.digest (block_table_of bytes).bytes ≡ false → table_of_listed l (Some bytes) ≡ Err (WrongFileChecksum l.id l.file.component)
  unfolding listed_bytes
  wrong_checksum kind same other = rw (eq-eqb (length bytes) l.file.len same, same_digest l.file.digest bytes kind ∙ other) refl

  -- a file of this length with this table
  pub right_table : digest_kind l.file.digest ≡ 2 → length bytes ≡ l.file.len → is_digest_of l.file.digest (block_table_of bytes).bytes ≡ true → table_of_listed l (Some bytes) ≡ Ok (block_table_of bytes)
  unfolding listed_bytes
  right_table kind same is = rw (eq-eqb (length bytes) l.file.len same, same_digest l.file.digest bytes kind ∙ is) refl

  listed_same : (b : List ℕ) → listed_bytes l (Some bytes) ≡ Ok b → b ≡ bytes
  unfolding listed_bytes
  listed_same b = same_bytes (not (length bytes == l.file.len)) (not (has_digest l.file.digest bytes)) _ _ bytes b

  -- the bytes of a file whose table was read
  pub opened_bytes : (t : BlockTableState) → table_of_listed l (Some bytes) ≡ Ok t → (listed_bytes l (Some bytes) ≡ Ok bytes) × (t ≡ block_table_of bytes)
  opened_bytes t read =
      let (b, listed, is) = bytes_of_table (listed_bytes l (Some bytes)) t read in
      let same = listed_same b listed in
      (listed ∙ ap (λ (bs : List ℕ). Ok bs) same, is ∙ ap block_table_of same)

-- an open file has bytes
pub some_bytes : (seen source : Option (List ℕ)) → source ≡ seen → IsSome seen → (bytes : List ℕ) × (seen ≡ Some bytes) × (source ≡ Some bytes)
some_bytes None source same there = absurd cc
some_bytes (Some bytes) source same there = (bytes, refl, same)

-- a file whose table was read is the listed one
pub opens : (l : ListedFile) (seen source : Option (List ℕ)) (bytes : List ℕ) (t : BlockTableState) → seen ≡ Some bytes → source ≡ Some bytes → table_of_listed l (Some bytes) ≡ Ok t → listed_bytes l seen ≡ Ok (bytes_or_none source)
opens l seen source bytes t here own read = ap (listed_bytes l) here ∙ (opened_bytes l bytes t read).0 ∙ ap (λ (o : Option (List ℕ)). Ok (bytes_or_none o)) (sym own)
