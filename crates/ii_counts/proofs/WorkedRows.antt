-- Computed examples of the counts of documents.
use Rattle.std.proofs.Common.{◌≡◌, ℕ, List, [], ◌∷◌, map, refl}
use Rattle.std.specs.Prelude.{Some, None}
use Rattle.ii_io.specs.Composite.{Body}
use Rattle.ii_io.specs.Vints.{vint_u32, vint_u64, u32_at, u64_at}
use Rattle.ii_counts.specs.Counts.{counts_at, written_counts}
use Rattle.ii_counts.specs.CountsWriter.{count_at, count_bodies, first_counts}

-- three documents with 3, 0 and 200 tokens: no full block, then vints, whose last byte has 128 added
pub bytes_of_three : written_counts (3 ∷ 0 ∷ 200 ∷ []) ≡ 128 ∷ 131 ∷ 128 ∷ 72 ∷ 129 ∷ []
unfolding vint_u32 vint_u64
bytes_of_three = refl

pub counts_of_three : counts_at 3 (128 ∷ 131 ∷ 128 ∷ 72 ∷ 129 ∷ []) ≡ Some (3 ∷ 0 ∷ 200 ∷ [])
unfolding u64_at u32_at
counts_of_three = refl

-- more and fewer counts than documents
pub counts_of_two : counts_at 2 (128 ∷ 131 ∷ 128 ∷ 72 ∷ 129 ∷ []) ≡ None
unfolding u64_at u32_at
counts_of_two = refl

pub counts_of_four : counts_at 4 (128 ∷ 131 ∷ 128 ∷ 72 ∷ 129 ∷ []) ≡ None
unfolding u64_at u32_at
counts_of_four = refl

-- a block whose number is given, but not its width
pub no_width : counts_at 128 (129 ∷ []) ≡ None
unfolding u64_at
no_width = refl

-- the numbers of three documents, of which the first one alone was counted
first_three : first_counts 3 (5 ∷ []) ≡ 5 ∷ 0 ∷ 0 ∷ []
first_three = refl

-- a number in the second field, and one that is missing
second_field : count_at ((1 ∷ []) ∷ (7 ∷ 8 ∷ []) ∷ []) 1 1 ≡ 8
second_field = refl

missing : count_at ((1 ∷ []) ∷ []) 3 0 ≡ 0
missing = refl

-- two fields of a document, with 3 tokens and none
abbrev fields_of : List Body → List ℕ
fields_of bodies = map (λ (b : Body). b.field) bodies

two_fields : fields_of (count_bodies ((3 ∷ []) ∷ (0 ∷ []) ∷ [])) ≡ 0 ∷ 1 ∷ []
two_fields = refl
