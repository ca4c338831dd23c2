-- The documents of a term, in full blocks and then as vints.
use Rattle.std.specs.Prelude.{ℕ, zero, suc, List, ◌++◌, drop, length, slice_index, ◌==◌, Option, Some}
use Rattle.std.specs.List.{concat, slice_index_or}
use Rattle.ii_io.specs.Steps.{◌>>=◌, needs}
use Rattle.ii_base.specs.Entries.{are_documents}
use Rattle.ii_codes.specs.Blocks.{sorted_block_at}
use Rattle.ii_codes.specs.SortedVints.{sorted_vints_at}
use Rattle.ii_layout.specs.Each.{each}
use Rattle.ii_layout.specs.SkipList.{SkipEntry, SkipList, no_entry, block_place}

-- the skip entry of block i
abbrev pub skip_entry : List SkipEntry → ℕ → SkipEntry
skip_entry entries i = slice_index_or entries i no_entry

-- the last document before block i, or 0 if there is none
abbrev pub last_doc_before : List SkipEntry → ℕ → ℕ
last_doc_before entries zero = 0
last_doc_before entries (suc i) = (skip_entry entries i).last_doc

-- the documents of block i, which must end with its entry's last document
abbrev pub block_docs : SkipList → ℕ → Option (List ℕ)
block_docs skip i = do
  let e = skip_entry skip.entries i
  found ← sorted_block_at e.strict_delta (last_doc_before skip.entries i) e.doc_num_bits (drop (block_place skip.entries i) skip.body)
  _ ← needs (slice_index found.0 127 == e.last_doc)
  Some found.0

-- the n documents after the full blocks, and the bytes after them
abbrev pub rest_docs : SkipList → ℕ → Option (List ℕ × List ℕ)
rest_docs skip n =
    let blocks = length skip.entries in
    sorted_vints_at (last_doc_before skip.entries blocks) n (drop (block_place skip.entries blocks) skip.body)

-- all documents, and the bytes after them
abbrev pub documents_at : SkipList → ℕ → Option (List ℕ × List ℕ)
documents_at skip n = do
  blocks ← each (block_docs skip) (length skip.entries)
  rest ← rest_docs skip n
  _ ← needs (are_documents (concat blocks ++ rest.0))
  Some (concat blocks ++ rest.0, rest.1)
