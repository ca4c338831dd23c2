-- The bytes of the key of a term.
use Rattle.std.specs.Prelude.{ℕ, ◌≤◌, List, ⊤, take}
use Rattle.ii_postings_writer.specs.declared.term_key.KeyBytes.{KeyBytes}
use Rattle.ii_postings_writer.specs.declared.term_key.KeyBytes.TheVariants.{Inline, Heap}

-- the bytes of a key
abbrev pub bytes_of_key : KeyBytes → List ℕ
bytes_of_key (Inline len bytes) = take len bytes
bytes_of_key (Heap v) = v.items

-- The bytes of a key that are inline fit there.
abbrev pub fits_inline : KeyBytes → Type 0
fits_inline (Inline len bytes) = len ≤ 23
fits_inline (Heap v) = ⊤
