-- Laws of vints: encodings are read, and written bytes encode their number.
use Rattle.std.proofs.Common.{◌≡◌, ℕ, zero, suc, ◌+◌, ◌-◌, ◌*◌, ◌/◌, ◌%◌, ◌^◌, ◌<◌, ◌≤◌, Bool, true, false, List, [], ◌∷◌, ◌++◌, length, Some, nat_lt, refl, sym, ap, ◌∙◌, arith, cond, get_or}
use Rattle.std.proofs.Math.Nat.{pow-suc}
use Rattle.std.proofs.lemmas.Bool.{lt-ltb, le-ltb, ltb-true, ltb-false}
use Rattle.ii_io.specs.Steps.{◌>>=◌, needs}
use Rattle.ii_io.specs.Vints.{groups_sum, Spells, groups_at, vint_at, u32_at, u64_at, fewest_groups, vint_u32, vint_u64, ReadsWhatIsSpelled, SpellsInFewest}
use Rattle.ii_io.specs.StepLemmas.{needs-some, step-some, some-same}

-- Only the last byte is 128 or more.
pub record Ends (s : List ℕ) : Type 0 where
  pub some : 0 < length s
  pub low : (i : ℕ) → i + 1 < length s → get_or s i 0 < 128
  pub last : 128 ≤ get_or s (length s - 1) 0

Ends-one : (b : ℕ) → 128 ≤ b → Ends (b ∷ [])
Ends-one b high = record { some = omega arith; low = λ i h. absurd (omega arith); last = high }

low_cons : (b : ℕ) (s : List ℕ) → b < 128 → Ends s → (i : ℕ) → i + 1 < suc (length s) → get_or (b ∷ s) i 0 < 128
low_cons b s below e zero h = below
low_cons b s below e (suc i) h = e.low i (omega arith)

Ends-cons : (b : ℕ) (s : List ℕ) → b < 128 → Ends s → Ends (b ∷ s)
Ends-cons b [] below e = absurd (let h = e.some in omega arith)
Ends-cons b (c ∷ s) below e =
    let front : suc (suc (length s)) - 1 ≡ suc (length s) = omega arith in
    let back : suc (length s) - 1 ≡ length s = omega arith in
    record { some = omega arith; low = low_cons b (c ∷ s) below e; last = rw front (rw back at e.last) }

Ends-tail : (b c : ℕ) (s : List ℕ) → Ends (b ∷ c ∷ s) → Ends (c ∷ s)
Ends-tail b c s e =
    let front : suc (suc (length s)) - 1 ≡ suc (length s) = omega arith in
    let back : suc (length s) - 1 ≡ length s = omega arith in
    record { some = omega arith; low = λ i h. e.low (suc i) (omega arith); last = rw back (rw front at e.last) }

Ends-head : (b c : ℕ) (s : List ℕ) → Ends (b ∷ c ∷ s) → b < 128
Ends-head b c s e = e.low 0 (omega arith)

-- an encoding is read, whatever follows it
groups_at-append : (most : ℕ) (s rest : List ℕ) → Ends s → length s ≤ most → groups_at most (s ++ rest) ≡ Some (groups_sum s, rest)
groups_at-append most [] rest e short = absurd (let h = e.some in omega arith)
groups_at-append zero (b ∷ s) rest e short = absurd (omega arith)
groups_at-append (suc most) (b ∷ []) rest e short =
    let value : b % 128 + 128 * 0 ≡ b % 128 = omega arith in
    rw (le-ltb b 128 e.last, value) refl
groups_at-append (suc most) (b ∷ c ∷ s) rest e short =
    rw (lt-ltb b 128 (Ends-head b c s e), groups_at-append most (c ∷ s) rest (Ends-tail b c s e) (omega arith)) refl

some_cases : (most b : ℕ) (bs : List ℕ) (t : Bool) (found : ℕ × List ℕ) → nat_lt b 128 ≡ t
    → ((later : ℕ × List ℕ) → groups_at most bs ≡ Some later → (s : List ℕ) × Ends s × (length s ≤ most) × (later.0 ≡ groups_sum s) × (bs ≡ s ++ later.1))
    → cond t (groups_at most bs >>= λ later. Some (b % 128 + 128 * later.0, later.1)) (Some (b % 128, bs)) ≡ Some found
    → (s : List ℕ) × Ends s × (length s ≤ suc most) × (found.0 ≡ groups_sum s) × (b ∷ bs ≡ s ++ found.1)
some_cases most b bs true found e ih h =
    let later = step-some (groups_at most bs) (λ later. Some (b % 128 + 128 * later.0, later.1)) found h in
    let known = ih later.0 later.1 in
    let both = some-same later.2 in
    let value = ap (λ (p : ℕ × List ℕ). p.0) both in
    let rest = ap (λ (p : ℕ × List ℕ). p.1) both in
    let short = known.2 in (
      b ∷ known.0,
      Ends-cons b known.0 (ltb-true b 128 e) known.1,
      omega arith,
      sym value ∙ ap (λ (n : ℕ). b % 128 + 128 * n) known.3,
      ap (λ (xs : List ℕ). b ∷ xs) (known.4 ∙ ap (λ (xs : List ℕ). known.0 ++ xs) rest),
    )
some_cases most b bs false found e ih h =
    let both = some-same h in
    let value = ap (λ (p : ℕ × List ℕ). p.0) both in
    let rest = ap (λ (p : ℕ × List ℕ). p.1) both in
    (b ∷ [], Ends-one b (ltb-false b 128 e), omega arith, (let zero_high : b % 128 ≡ b % 128 + 128 * 0 = omega arith in sym value ∙ zero_high), ap (λ (xs : List ℕ). b ∷ xs) rest)

-- bytes that are read are an encoding
groups_at-some : (most : ℕ) (bytes : List ℕ) (found : ℕ × List ℕ) → groups_at most bytes ≡ Some found
    → (s : List ℕ) × Ends s × (length s ≤ most) × (found.0 ≡ groups_sum s) × (bytes ≡ s ++ found.1)
groups_at-some zero bytes found e = absurd (cc)
groups_at-some (suc most) [] found e = absurd (cc)
groups_at-some (suc most) (b ∷ bs) found e = some_cases most b bs (nat_lt b 128) found refl (λ later. groups_at-some most bs later) e

vint_at-append : (most limit v : ℕ) (s rest : List ℕ) → Spells most limit s v → vint_at most limit (s ++ rest) ≡ Some (v, rest)
vint_at-append most limit v s rest h =
    let read = groups_at-append most s rest (record { some = h.some; low = h.low; last = h.last }) h.few in
    let fits = h.fits in
    let below : groups_sum s < limit = rw (← h.value) fits in
    rw (read, lt-ltb (groups_sum s) limit below, h.value) refl

vint_at-some : (most limit v : ℕ) (all rest : List ℕ) → vint_at most limit all ≡ Some (v, rest) → (bytes : List ℕ) × Spells most limit bytes v × (all ≡ bytes ++ rest)
vint_at-some most limit v all rest e =
    let found = step-some (groups_at most all) (λ found. needs (nat_lt found.0 limit) >>= λ _. Some found) (v, rest) e in
    let tested = needs-some (nat_lt found.0.0 limit) (λ _. Some found.0) (v, rest) found.2 in
    let both = some-same tested.1 in
    let value = ap (λ (p : ℕ × List ℕ). p.0) both in
    let after = ap (λ (p : ℕ × List ℕ). p.1) both in
    let spelled = groups_at-some most all found.0 found.1 in
    let ends = spelled.1 in
    let below = ltb-true found.0.0 limit tested.0 in (
      spelled.0,
      record { some = ends.some; few = spelled.2; low = ends.low; last = ends.last; value = sym value ∙ spelled.3; fits = rw value at below },
      spelled.4 ∙ ap (λ (xs : List ℕ). spelled.0 ++ xs) after,
    )

pub reads_what_is_spelled : (most limit : ℕ) → ReadsWhatIsSpelled most limit
reads_what_is_spelled most limit = (λ s rest v. vint_at-append most limit v s rest, λ all rest v. vint_at-some most limit v all rest)

-- a number below 128 ^ (more + 1), encoded in its fewest groups
pub record FewestSpell (more n : ℕ) : Type 0 where
  pub ends : Ends (fewest_groups more n)
  pub few : length (fewest_groups more n) ≤ suc more
  pub value : n ≡ groups_sum (fewest_groups more n)

spell_cases : (more n : ℕ) (t : Bool) → nat_lt n 128 ≡ t → FewestSpell more (n / 128)
    → (let s = cond t ((n + 128) ∷ []) (n % 128 ∷ fewest_groups more (n / 128)) in Ends s × (length s ≤ suc (suc more)) × (n ≡ groups_sum s))
spell_cases more n true e ih =
    let low = ltb-true n 128 e in
    (Ends-one (n + 128) (omega arith), omega arith, omega arith)
spell_cases more n false e ih =
    let few = ih.few in
    let high = ih.value in
    let low : n % 128 % 128 ≡ n % 128 = omega arith in
    let whole : n ≡ n % 128 + 128 * (n / 128) = omega arith in (
      Ends-cons (n % 128) (fewest_groups more (n / 128)) (omega arith) ih.ends,
      omega arith,
      rw low (whole ∙ ap (λ (m : ℕ). n % 128 + 128 * m) high),
    )

fewest_spell : (more n : ℕ) → n < 128 ^ suc more → FewestSpell more n
fewest_spell zero n h =
    let low : n < 128 = omega arith in
    record { ends = Ends-one (n + 128) (omega arith); few = omega arith; value = omega arith }
fewest_spell (suc more) n h =
    let below = rw pow-suc at h in
    let all = spell_cases more n (nat_lt n 128) refl (fewest_spell more (n / 128) (omega arith)) in
    record { ends = all.0; few = all.1; value = all.2 }

least_cases : (more n len : ℕ) (t : Bool) → nat_lt n 128 ≡ t → 0 < len → (128 ≤ n → suc (length (fewest_groups more (n / 128))) ≤ len)
    → length (cond t ((n + 128) ∷ []) (n % 128 ∷ fewest_groups more (n / 128))) ≤ len
least_cases more n len true e some ih = some
least_cases more n len false e some ih = ih (ltb-false n 128 e)

-- no encoding is shorter
fewest_least : (more : ℕ) (s : List ℕ) (n : ℕ) → Ends s → n ≡ groups_sum s → length (fewest_groups more n) ≤ length s
fewest_least more [] n e value = absurd (let h = e.some in omega arith)
fewest_least zero (b ∷ s) n e value = omega arith
fewest_least (suc more) (b ∷ []) n e value = least_cases more n 1 (nat_lt n 128) refl (omega arith) (λ high. absurd (omega arith))
fewest_least (suc more) (b ∷ c ∷ s) n e value =
    let rest : n / 128 ≡ groups_sum (c ∷ s) = omega arith in
    let ih = fewest_least more (c ∷ s) (n / 128) (Ends-tail b c s e) rest in
    least_cases more n (suc (suc (length s))) (nat_lt n 128) refl (omega arith) (λ high. omega arith)

pub spells_in_fewest : (more : ℕ) → SpellsInFewest more
spells_in_fewest more n limit h fits =
    let f = fewest_spell more n h in
    let ends = f.ends in (
      record { some = ends.some; few = f.few; low = ends.low; last = ends.last; value = f.value; fits = fits },
      λ bytes s. fewest_least more bytes n (record { some = s.some; low = s.low; last = s.last }) s.value,
    )

-- a written number is read back, whatever follows it
pub u32_at-vint_u32 : (n : ℕ) (rest : List ℕ) → n < 2 ^ 32 → u32_at (vint_u32 n ++ rest) ≡ Some (n, rest)
unfolding u32_at vint_u32
u32_at-vint_u32 n rest fits =
    let spelled = spells_in_fewest 4 n (2 ^ 32) (omega arith) fits in
    vint_at-append 5 (2 ^ 32) n (fewest_groups 4 n) rest spelled.0

pub u64_at-vint_u64 : (n : ℕ) (rest : List ℕ) → n < 2 ^ 64 → u64_at (vint_u64 n ++ rest) ≡ Some (n, rest)
unfolding u64_at vint_u64
u64_at-vint_u64 n rest fits =
    let spelled = spells_in_fewest 9 n (2 ^ 64) (omega arith) fits in
    vint_at-append 10 (2 ^ 64) n (fewest_groups 9 n) rest spelled.0
