-- The keys of a dictionary ascend.
use Rattle.std.proofs.Common.{◌≡◌, ℕ, zero, suc, ◌+◌, ◌<◌, Bool, true, false, List, [], eqb, length, map, drop, Option, Some, None, Result, Ok, Err, refl, sym, subst, arith}
use Rattle.std.specs.Prelude.{IsOk, if◌then◌else◌}
use Rattle.std.specs.Ordering.{nat_cmp}
use Rattle.std.specs.Cmp.Lexicographic.{slice_cmp}
use Rattle.std.specs.declared.cmp.Ordering.TheVariants.{Less}
use Rattle.std.specs.List.{AllByRecursion, range_with_len, zip}
use Rattle.std.specs.List.Sorted.{IsStrictlySortedBy}
use Rattle.std.specs.Result.{result_unwrap_or}
use Rattle.std.proofs.lemmas.Bool.{eqb-true}
use Rattle.ii_io.specs.declared.faults.Part.{Part}
use Rattle.ii_io.specs.declared.faults.Part.TheVariants.{Dictionary}
use Rattle.ii_io.specs.Steps.{◌>>=◌, needs}
use Rattle.ii_termstore.specs.declared.term_info.TermInfo.{TermInfo}
use Rattle.ii_termstore.specs.TermStore.{term_store}
use Rattle.ii_termdict.specs.Dictionary.{TermEntry, dictionary, ends_rise, entry_keys, key_of, key_parts, keys_ascend, keys_at, keys_of, start_of, with_infos, with_keys}
use Rattle.ii_termdict.specs.ReadBack.{AreAscending}
use Rattle.ii_termdict.proofs.SearchLemmas.{keys_in_order, zip_keys}

all_later : (n : ℕ) (ends body : List ℕ) (j first m : ℕ) → keys_ascend n ends body ≡ true → j < first → first + m ≡ n
    → AllByRecursion (λ (k : List ℕ). slice_cmp nat_cmp (key_of ends body j) k ≡ Less) (map (key_of ends body) (range_with_len first m))
all_later n ends body j first zero h below many = tt
all_later n ends body j first (suc m) h below many =
    (keys_in_order n ends body j first h below (omega (arith, many)), all_later n ends body j (first + 1) m h (omega (arith, below)) (omega (arith, many)))

in_order_from : (n : ℕ) (ends body : List ℕ) (first m : ℕ) → keys_ascend n ends body ≡ true → first + m ≡ n → AreAscending (map (key_of ends body) (range_with_len first m))
unfolding IsStrictlySortedBy
in_order_from n ends body first zero h many = tt
in_order_from n ends body first (suc m) h many =
    (all_later n ends body first (first + 1) m h (omega arith) (omega (arith, many)), in_order_from n ends body (first + 1) m h (omega (arith, many)))

by_infos : (keys : List (List ℕ)) (infos : Option (List TermInfo)) (es : List TermEntry) → AreAscending keys → with_infos keys infos ≡ Ok es → AreAscending (entry_keys es)
by_infos keys None es ascend is = absurd (cc)
by_infos keys (Some infos) es ascend is = by (eqb (length infos) (length keys)) refl is
  where
    by : (b : Bool) → eqb (length infos) (length keys) ≡ b → (if b then Ok (zip keys infos) else Err Dictionary) ≡ Ok es → AreAscending (entry_keys es)
    by false other is = absurd (cc)
    by true same is =
        let all : zip keys infos ≡ es = cc in
        subst (λ (xs : List TermEntry). AreAscending (entry_keys xs)) all (subst AreAscending (sym (zip_keys keys infos (sym (eqb-true (length infos) (length keys) same)))) ascend)

by_parts : (p : Option (ℕ × List ℕ × List ℕ)) (es : List TermEntry)
    → with_keys (p >>= λ (parts : ℕ × List ℕ × List ℕ). needs (ends_rise parts.0 parts.1 parts.2) >>= λ _. needs (keys_ascend parts.0 parts.1 parts.2) >>= λ _. Some (keys_of parts.0 parts.1 parts.2, drop (start_of parts.1 parts.0) parts.2)) ≡ Ok es
    → AreAscending (entry_keys es)
by_parts None es is = absurd (cc)
by_parts (Some (n, ends, body)) es is = by (ends_rise n ends body) (keys_ascend n ends body) refl is
  where
    by : (r a : Bool) → keys_ascend n ends body ≡ a → with_keys (needs r >>= λ _. needs a >>= λ _. Some (keys_of n ends body, drop (start_of ends n) body)) ≡ Ok es → AreAscending (entry_keys es)
    by false a ascend is = absurd (cc)
    by true false ascend is = absurd (cc)
    by true true ascend is = by_infos (keys_of n ends body) (term_store (drop (start_of ends n) body)) es (in_order_from n ends body 0 n ascend (omega arith)) is

held_by : (bytes : List ℕ) (es : List TermEntry) → dictionary bytes ≡ Ok es → AreAscending (entry_keys es)
unfolding dictionary keys_at
held_by bytes es is = by_parts (key_parts bytes) es is

-- the keys of what bytes hold
pub keys_are_ascending : (bytes : List ℕ) → IsOk (dictionary bytes) → AreAscending (entry_keys (result_unwrap_or (dictionary bytes) []))
keys_are_ascending bytes there = by (dictionary bytes) refl there
  where
    by : (found : Result (List TermEntry) Part) → dictionary bytes ≡ found → IsOk found → AreAscending (entry_keys (result_unwrap_or found []))
    by (Err part) is there = absurd (cc)
    by (Ok es) is there = held_by bytes es is
