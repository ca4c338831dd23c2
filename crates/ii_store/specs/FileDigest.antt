-- The digest of a file of a segment.
use Rattle.std.specs.Prelude.{ℕ, ◌+◌, ◌-◌, ◌*◌, ◌/◌, Bool, List, map, length, take, drop, bytes_eq}
use Rattle.std.specs.List.{flat_map, range_with_len}
use Rattle.std.specs.Int.{w64, to_le_bytes}
use Rattle.std.specs.Hash.DefaultHasher.{finish, initial, write}
use Rattle.sha2.specs.Sha256.{sha256}
use Rattle.ii_store.specs.declared.file_digest.FileDigest.{FileDigest}
use Rattle.ii_store.specs.declared.file_digest.FileDigest.TheVariants as digests

-- bytes cut into blocks of a length, the last of which may be shorter
abbrev pub blocks : ℕ → List ℕ → List (List ℕ)
blocks len bytes = map (λ k. take len (drop (k * len) bytes)) (range_with_len 0 ((length bytes + len - 1) / len))

-- the checksum of a block: its SipHash-1-3 with both keys 0
unfoldable pub block_checksum : List ℕ → ℕ
block_checksum block = finish (write initial block)

-- the checksums of blocks, eight bytes each
abbrev pub checksum_bytes : List (List ℕ) → List ℕ
checksum_bytes bs = flat_map (λ block. to_le_bytes w64 (block_checksum block)) bs

-- the digest of the blocks of a file, of a length each
unfoldable pub blocks_digest : ℕ → List ℕ → List ℕ
blocks_digest len bytes = sha256 (checksum_bytes (blocks len bytes))

-- whether a file with these bytes has a digest
unfoldable pub has_digest : FileDigest → List ℕ → Bool
has_digest (digests.Sha256 digest) bytes = bytes_eq digest (sha256 bytes)
has_digest (digests.LongBlocks digest) bytes = bytes_eq digest (blocks_digest 65536 bytes)
has_digest (digests.Blocks digest) bytes = bytes_eq digest (blocks_digest 4096 bytes)

-- the number of a kind of digest in `meta`
abbrev pub digest_kind : FileDigest → ℕ
digest_kind (digests.Sha256 digest) = 0
digest_kind (digests.LongBlocks digest) = 1
digest_kind (digests.Blocks digest) = 2

-- the bytes of a digest
abbrev pub digest_items : FileDigest → List ℕ
digest_items (digests.Sha256 digest) = digest
digest_items (digests.LongBlocks digest) = digest
digest_items (digests.Blocks digest) = digest
