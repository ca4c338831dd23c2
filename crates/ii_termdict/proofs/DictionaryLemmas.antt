-- What is read from a dictionary.
use Rattle.std.proofs.Common.{[], ◌≡◌, ℕ, zero, suc, ◌+◌, ◌-◌, ◌*◌, ◌<◌, ◌≤◌, ◌≢◌, Bool, true, false, List, length, Option, Some, None, Result, Ok, Err, eqb, nat_le, refl, sym, ap, ◌∙◌, arith}
use Rattle.std.specs.Prelude.{IsSome, IsSomeAnd, IsOk, if◌then◌else◌, unwrap_or}
use Rattle.std.specs.List.{list_all, range_with_len, zip}
use Rattle.std.proofs.lemmas.Bool.{le-leb, lt-leb, leb-true, ne_eqb, eq-eqb, eqb-true}
use Rattle.std.proofs.lemmas.List.FromFn.{length-map-range_with_len}
use Rattle.ii_io.specs.declared.faults.Part.{Part}
use Rattle.ii_io.specs.declared.faults.Part.TheVariants.{Dictionary, TermStore}
use Rattle.ii_io.specs.Steps.{◌>>=◌, needs}
use Rattle.ii_termstore.specs.declared.term_info.TermInfo.{TermInfo}
use Rattle.ii_termstore.specs.TermStore.{term_store}
use Rattle.ii_termdict.specs.Dictionary.{end_of, start_of, key_of, keys_of, ends_rise, keys_ascend, key_parts, keys_at, with_infos, with_keys, dictionary, store_after, opened_entries, AreOpened, TermEntry}
use Rattle.ii_termstore.proofs.ListLemmas.{all_more, all_at, not_all}
use Rattle.std.proofs.lemmas.Bool.{and_parts}

-- an end below the one before it
pub falls : (n : ℕ) (ends body : List ℕ) (i : ℕ) → i < n → end_of ends i < start_of ends i → false ≡ ends_rise n ends body
falls n ends body i h below =
    let no_rise = not_all (λ i. nat_le (start_of ends i) (end_of ends i)) n i h (lt-leb (start_of ends i) (end_of ends i) below) in
    rw no_rise refl

pub rise_more : (ends : List ℕ) (i : ℕ) → list_all (λ i. nat_le (start_of ends i) (end_of ends i)) (range_with_len 0 i) ≡ true → start_of ends i ≤ end_of ends i
    → list_all (λ i. nat_le (start_of ends i) (end_of ends i)) (range_with_len 0 (i + 1)) ≡ true
rise_more ends i h le = all_more (λ i. nat_le (start_of ends i) (end_of ends i)) i h (le-leb (start_of ends i) (end_of ends i) le)

pub rise_end : (n i : ℕ) (ends body : List ℕ) → i ≡ n → list_all (λ i. nat_le (start_of ends i) (end_of ends i)) (range_with_len 0 i) ≡ true → nat_le (start_of ends n) (length body) ≡ ends_rise n ends body
rise_end n i ends body e h = let all = rw e at h in rw all refl

pub start_of-suc : (ends : List ℕ) (j : ℕ) → start_of ends (suc j) ≡ end_of ends j
start_of-suc ends j =
    let later : eqb (suc j) 0 ≡ false = ne_eqb (suc j) 0 (λ e. absurd (omega arith)) in
    let back : suc j - 1 ≡ j = omega arith in
    rw (later, back) refl

rises : (n : ℕ) (ends body : List ℕ) (i : ℕ) → ends_rise n ends body ≡ true → i < n → start_of ends i ≤ end_of ends i
rises n ends body i h within =
    let both = and_parts (list_all (λ i. nat_le (start_of ends i) (end_of ends i)) (range_with_len 0 n)) (nat_le (start_of ends n) (length body)) h in
    leb-true (start_of ends i) (end_of ends i) (all_at (λ i. nat_le (start_of ends i) (end_of ends i)) n i within both.0)

later_ends : (n : ℕ) (ends body : List ℕ) (i m : ℕ) → ends_rise n ends body ≡ true → i + m < n → end_of ends i ≤ end_of ends (i + m)
later_ends n ends body i zero h within = let same : i + 0 ≡ i = omega arith in rw same (omega arith)
later_ends n ends body i (suc m) h within =
    let ih = later_ends n ends body i m h (omega arith) in
    let next : i + suc m ≡ suc (i + m) = omega arith in
    let up = rises n ends body (suc (i + m)) h (omega arith) in
    let from = start_of-suc ends (i + m) in
    rw next (omega arith)

pub start_lies : (n : ℕ) (ends body : List ℕ) → ends_rise n ends body ≡ true → start_of ends n ≤ length body
start_lies n ends body h =
    let both = and_parts (list_all (λ i. nat_le (start_of ends i) (end_of ends i)) (range_with_len 0 n)) (nat_le (start_of ends n) (length body)) h in
    leb-true (start_of ends n) (length body) both.1

-- a key lies within the body
pub key_lies : (n : ℕ) (ends body : List ℕ) (i : ℕ) → i < n → ends_rise n ends body ≡ true → (start_of ends i ≤ end_of ends i) × (end_of ends i ≤ length body)
key_lies n ends body i within h =
    let up = later_ends n ends body i (n - suc i) h (omega arith) in
    let end : n ≡ suc (i + (n - suc i)) = omega arith in
    let last = ap (start_of ends) end ∙ start_of-suc ends (i + (n - suc i)) in
    let lies = start_lies n ends body h in
    (rises n ends body i h within, omega arith)

-- What bytes hold, by their parts.
pub dictionary-no_parts : (bytes : List ℕ) → None ≡ key_parts bytes → dictionary bytes ≡ Err Dictionary
unfolding dictionary keys_at
dictionary-no_parts bytes e = rw (← e) refl

pub dictionary-falls : (bytes : List ℕ) (n : ℕ) (ends body : List ℕ) → Some (n, ends, body) ≡ key_parts bytes → false ≡ ends_rise n ends body → dictionary bytes ≡ Err Dictionary
unfolding dictionary keys_at
dictionary-falls bytes n ends body e h = rw (← e, ← h) refl

pub dictionary-unordered : (bytes : List ℕ) (n : ℕ) (ends body : List ℕ) → Some (n, ends, body) ≡ key_parts bytes → true ≡ ends_rise n ends body → false ≡ keys_ascend n ends body → dictionary bytes ≡ Err Dictionary
unfolding dictionary keys_at
dictionary-unordered bytes n ends body e r h = rw (← e, ← r, ← h) refl

pub dictionary-is : (bytes : List ℕ) (n : ℕ) (ends body : List ℕ) → Some (n, ends, body) ≡ key_parts bytes → true ≡ ends_rise n ends body → true ≡ keys_ascend n ends body
    → dictionary bytes ≡ with_infos (keys_of n ends body) (term_store (store_after n ends body))
unfolding dictionary keys_at
dictionary-is bytes n ends body e r h = rw (← e, ← r, ← h) refl

pub length-keys_of : (n : ℕ) (ends body : List ℕ) → length (keys_of n ends body) ≡ n
length-keys_of n ends body = length-map-range_with_len (key_of ends body) 0 n

pub infos-none : (keys : List (List ℕ)) (o : Option (List TermInfo)) → None ≡ o → with_infos keys o ≡ Err TermStore
infos-none keys o e = rw (← e) refl

pub infos-other : (keys : List (List ℕ)) (o : Option (List TermInfo)) (infos : List TermInfo) (n : ℕ) → Some infos ≡ o → length keys ≡ n → length infos ≢ n → with_infos keys o ≡ Err Dictionary
infos-other keys o infos n e k apart =
    let other : eqb (length infos) (length keys) ≡ false = ne_eqb (length infos) (length keys) (λ same. apart (same ∙ k)) in
    rw (← e, other) refl

pub infos-ok : (keys : List (List ℕ)) (o : Option (List TermInfo)) (infos : List TermInfo) (n : ℕ) → Some infos ≡ o → length keys ≡ n → length infos ≡ n → IsOk (with_infos keys o)
infos-ok keys o infos n e k same =
    let equal : eqb (length infos) (length keys) ≡ true = eq-eqb (length infos) (length keys) (same ∙ sym k) in
    rw (← e, equal) refl

-- the store of an opened dictionary
pub store_there : (o : Option (List TermInfo)) (n : ℕ) → IsSomeAnd o (λ infos. length infos ≡ n) → IsSome o
store_there None n h = absurd h
store_there (Some infos) n h = refl

pub store_count : (o : Option (List TermInfo)) (infos : List TermInfo) (n : ℕ) → o ≡ Some infos → IsSomeAnd o (λ infos. length infos ≡ n) → length infos ≡ n
store_count o infos n e h = rw e at h

-- What is known where bytes hold a dictionary.
abbrev counted_by : Bool → List (List ℕ) → List TermInfo → Result (List TermEntry) Part
counted_by b keys infos = if b then Ok (zip keys infos) else Err Dictionary

counted : (keys : List (List ℕ)) (infos : List TermInfo) (n : ℕ) → length keys ≡ n → (b : Bool) → eqb (length infos) (length keys) ≡ b → IsOk (counted_by b keys infos)
    → (length infos ≡ n) × (counted_by b keys infos ≡ Ok (zip keys infos))
counted keys infos n k true e h = (eqb-true (length infos) (length keys) e ∙ k, refl)
counted keys infos n k false e h = absurd (cc)

infos-opened : (keys : List (List ℕ)) (o : Option (List TermInfo)) (n : ℕ) → length keys ≡ n → IsOk (with_infos keys o)
    → IsSomeAnd o (λ infos. length infos ≡ n) × (with_infos keys o ≡ Ok (zip keys (unwrap_or o [])))
infos-opened keys None n k h = absurd (cc)
infos-opened keys (Some infos) n k h = counted keys infos n k (eqb (length infos) (length keys)) refl h

opened_cases : (n : ℕ) (ends body : List ℕ) (r a : Bool) → ends_rise n ends body ≡ r → keys_ascend n ends body ≡ a → 8 * n ≤ length ends
    → IsOk (with_keys (needs r >>= λ _. needs a >>= λ _. Some (keys_of n ends body, store_after n ends body)))
    → AreOpened n ends body × (with_keys (needs r >>= λ _. needs a >>= λ _. Some (keys_of n ends body, store_after n ends body)) ≡ Ok (zip (keys_of n ends body) (unwrap_or (term_store (store_after n ends body)) [])))
opened_cases n ends body true true x y there h =
    let known = infos-opened (keys_of n ends body) (term_store (store_after n ends body)) n (length-keys_of n ends body) h in
    (record { there = there; rise = x; ascend = y; store = known.0 }, known.1)
opened_cases n ends body true false x y there h = absurd (cc)
opened_cases n ends body false a x y there h = absurd (cc)

pub dictionary-opened : (bytes : List ℕ) (n : ℕ) (ends body : List ℕ) → Some (n, ends, body) ≡ key_parts bytes → 8 * n ≤ length ends → IsOk (dictionary bytes)
    → AreOpened n ends body × (dictionary bytes ≡ Ok (opened_entries n ends body))
unfolding dictionary keys_at opened_entries
dictionary-opened bytes n ends body e there h =
    let known = opened_cases n ends body (ends_rise n ends body) (keys_ascend n ends body) refl refl there (rw (← e) at h) in
    (known.0, rw (← e) known.1)

pub no_dictionary : (bytes : List ℕ) → None ≡ key_parts bytes → IsOk (dictionary bytes) → ⊥
unfolding dictionary keys_at
no_dictionary bytes e h = let none = rw (← e) at h in cc
