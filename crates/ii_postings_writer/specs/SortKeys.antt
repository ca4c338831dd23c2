-- What is compared first where terms are sorted: numbers that are computed once for each term.
use Rattle.std.specs.Prelude.{ℕ, zero, suc, ◌≡◌, ◌+◌, ◌*◌, ◌^◌, ◌<◌, ◌≤◌, Bool, List, [], ◌∷◌, get_or, length}
use Rattle.std.specs.Cmp.Lexicographic.{slice_cmp}
use Rattle.std.specs.Ordering.{nat_cmp, ordering_then}
use Rattle.std.specs.declared.cmp.Ordering.{Ordering}
use Rattle.ii_postings_writer.specs.declared.sorted_terms.KeptTerm.{KeptTerm}
use Rattle.ii_postings_writer.specs.IndexingTerm.{field_in}
use Rattle.ii_postings_writer.specs.ResolvedTerms.{behind_id, path_id_in, rank_of}

-- the big-endian number of the first `n` bytes, with 0 for each byte that is missing
abbrev pub padded_number : ℕ → List ℕ → ℕ
padded_number zero bytes = 0
padded_number (suc n) [] = 0
padded_number (suc n) (b ∷ bytes) = b * 256 ^ n + padded_number n bytes

-- the order of terms by their numbers, then by the bytes of their values
abbrev pub kept_cmp : List Bool → KeptTerm → KeptTerm → Ordering
kept_cmp flags s t =
    ordering_then (ordering_then (ordering_then (nat_cmp s.field t.field) (nat_cmp s.rank t.rank)) (nat_cmp s.start t.start)) (slice_cmp nat_cmp (behind_id flags s.term.now) (behind_id flags t.term.now))

-- The numbers of a term, which has a field, are its field, the rank of its path, and the first 8 bytes of its value.
pub record IsKept (flags : List Bool) (ranks : List ℕ) (t : KeptTerm) : Type 0 where
  pub long : 4 ≤ length t.term.now
  pub bytes : (i : ℕ) → get_or t.term.now i 0 < 256
  pub field : t.field ≡ field_in t.term.now
  pub rank : t.rank ≡ rank_of ranks (path_id_in flags t.term.now)
  pub start : t.start ≡ padded_number 8 (behind_id flags t.term.now)
