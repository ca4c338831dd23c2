-- The greatest number of bytes of a dictionary.
use Rattle.std.proofs.Common.{◌≡◌, ℕ, suc, ◌+◌, ◌*◌, ◌≤◌, List, [], ◌∷◌, ◌++◌, length, refl, ap, arith, length-append}
use Rattle.std.specs.List.{AllByRecursion, flat_map}
use Rattle.std.proofs.lemmas.List.Concat.{flat_map-cons}
use Rattle.std.proofs.Math.Nat.{suc-mul}
use Rattle.ii_io.specs.Numbers.{le_bytes}
use Rattle.ii_io.specs.NumberLemmas.{length_le_bytes}
use Rattle.ii_termstore.specs.declared.term_info.TermInfo.{TermInfo}
use Rattle.ii_termdict.specs.Written.{ends_from, written_dictionary}
use Rattle.ii_termstore.proofs.SizeLemmas.{length-flat_map-le, length-written_store-le}
use Rattle.ii_termstore.specs.Written.{written_store}
use Rattle.ii_termdict.proofs.ReadDictionaryLemmas.{length-ends_from}

length-joined-le : (size : ℕ) (keys : List (List ℕ)) → AllByRecursion (λ (k : List ℕ). length k ≤ size) keys → length (flat_map (λ (k : List ℕ). k) keys) ≤ length keys * size
length-joined-le size [] short = omega arith
length-joined-le size (k ∷ ks) short =
    omega (arith, ap length (flat_map-cons (λ (k : List ℕ). k) k ks), length-append k (flat_map (λ (k : List ℕ). k) ks), short.0, length-joined-le size ks short.1, suc-mul (length ks) size)

-- a dictionary of n keys of at most a size each
pub length-written_dictionary-le : (size : ℕ) (keys : List (List ℕ)) (infos : List TermInfo) → length infos ≡ length keys → AllByRecursion (λ (k : List ℕ). length k ≤ size) keys → length (written_dictionary keys infos) ≤ 24 + 6208 * length keys + length keys * size
unfolding written_dictionary
length-written_dictionary-le size keys infos many short =
    let ends = flat_map (le_bytes 8) (ends_from 0 keys) in
    let joined = flat_map (λ (k : List ℕ). k) keys in
    omega (
      arith,
      many,
      length-append (le_bytes 8 (length keys) ++ ends ++ joined) (written_store infos),
      length-append (le_bytes 8 (length keys) ++ ends) joined,
      length-append (le_bytes 8 (length keys)) ends,
      length_le_bytes 8 (length keys),
      length-flat_map-le (le_bytes 8) 8 (λ n. omega (arith, length_le_bytes 8 n)) (ends_from 0 keys),
      length-ends_from 0 keys,
      length-joined-le size keys short,
      length-written_store-le infos,
    )
