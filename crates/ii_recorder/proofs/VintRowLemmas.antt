-- Vints in a row, read and written one by one.
use Rattle.std.proofs.Common.{◌≡◌, ℕ, zero, suc, ◌+◌, ◌*◌, ◌%◌, ◌^◌, ◌<◌, ◌≤◌, Bool, true, false, List, [], ◌∷◌, ◌++◌, length, Some, nat_lt, refl, sym, ap, subst, ◌∙◌, arith, cond, append-nil, append_assoc, length-append}
use Rattle.std.specs.Prelude.{IsSome, ◌==◌}
use Rattle.ii_io.specs.Steps.{◌>>=◌, needs}
use Rattle.ii_io.specs.StepLemmas.{needs-some, some-same, step-some}
use Rattle.ii_io.specs.Vints.{groups_at, u32_at, u32s_at, vint_at, vint_u32}
use Rattle.ii_io.specs.VintLemmas.{reads_what_is_spelled, u32_at-vint_u32}
use Rattle.ii_recorder.specs.VintRows.{AreVints, lower_group, numbers}

first_cases : (most b : ℕ) (bs : List ℕ) (t : Bool) (found : ℕ × List ℕ) → ((later : ℕ × List ℕ) → groups_at most bs ≡ Some later → numbers bs ≡ later.0 ∷ numbers later.1)
    → cond t (groups_at most bs >>= λ later. Some (b % 128 + 128 * later.0, later.1)) (Some (b % 128, bs)) ≡ Some found → cond t (lower_group b (numbers bs)) (b % 128 ∷ numbers bs) ≡ found.0 ∷ numbers found.1
first_cases most b bs true found ih h =
    let later = step-some (groups_at most bs) (λ later. Some (b % 128 + 128 * later.0, later.1)) found h in
    ap (lower_group b) (ih later.0 later.1) ∙ ap (λ (p : ℕ × List ℕ). p.0 ∷ numbers p.1) (some-same later.2)
first_cases most b bs false found ih h = ap (λ (p : ℕ × List ℕ). p.0 ∷ numbers p.1) (some-same h)

-- the number that is read first is the first one
numbers_first : (most : ℕ) (bytes : List ℕ) (found : ℕ × List ℕ) → groups_at most bytes ≡ Some found → numbers bytes ≡ found.0 ∷ numbers found.1
numbers_first zero bytes found e = absurd (cc)
numbers_first (suc most) [] found e = absurd (cc)
numbers_first (suc most) (b ∷ bs) found e = first_cases most b bs (nat_lt b 128) found (λ later. numbers_first most bs later) e

groups_of : (bytes : List ℕ) (found : ℕ × List ℕ) → u32_at bytes ≡ Some found → groups_at 5 bytes ≡ Some found
unfolding u32_at
groups_of bytes found e =
    let read = step-some (groups_at 5 bytes) (λ f. needs (nat_lt f.0 (2 ^ 32)) >>= λ _. Some f) found e in
    let tested = needs-some (nat_lt read.0.0 (2 ^ 32)) (λ _. Some read.0) found read.2 in
    read.1 ∙ tested.1

pub numbers_next : (bytes : List ℕ) (found : ℕ × List ℕ) → u32_at bytes ≡ Some found → numbers bytes ≡ found.0 ∷ numbers found.1
numbers_next bytes found e = numbers_first 5 bytes found (groups_of bytes found e)

-- what is read stays, whatever follows
u32_at-append : (bytes more rest : List ℕ) (n : ℕ) → u32_at bytes ≡ Some (n, rest) → u32_at (bytes ++ more) ≡ Some (n, rest ++ more)
unfolding u32_at
u32_at-append bytes more rest n e =
    let law = reads_what_is_spelled 5 (2 ^ 32) in
    let spelled = law.1 bytes rest n e in
    let parts : bytes ++ more ≡ spelled.0 ++ (rest ++ more) = ap (λ (all : List ℕ). all ++ more) spelled.2 ∙ append_assoc spelled.0 rest more in
    ap (vint_at 5 (2 ^ 32)) parts ∙ law.0 spelled.0 (rest ++ more) n spelled.1

-- the first step of reading a row
row_step : (k : ℕ) (bytes : List ℕ) (found : List ℕ × List ℕ) → u32s_at (suc k) bytes ≡ Some found
    → (first : ℕ × List ℕ) × (others : List ℕ × List ℕ) × (u32_at bytes ≡ Some first) × (u32s_at k first.1 ≡ Some others) × (found ≡ (first.0 ∷ others.0, others.1))
row_step k bytes found e =
    let first = step-some (u32_at bytes) (λ first. u32s_at k first.1 >>= λ others. Some (first.0 ∷ others.0, others.1)) found e in
    let others = step-some (u32s_at k first.0.1) (λ others. Some (first.0.0 ∷ others.0, others.1)) found first.2 in
    (first.0, others.0, first.1, others.1, sym (some-same others.2))

row_append : (k : ℕ) (bytes more : List ℕ) (found : List ℕ × List ℕ) → u32s_at k bytes ≡ Some found → (u32s_at k (bytes ++ more) ≡ Some (found.0, found.1 ++ more)) × (numbers (bytes ++ more) ≡ found.0 ++ numbers (found.1 ++ more))
row_append zero bytes more found e = subst (λ (f : List ℕ × List ℕ). (u32s_at zero (bytes ++ more) ≡ Some (f.0, f.1 ++ more)) × (numbers (bytes ++ more) ≡ f.0 ++ numbers (f.1 ++ more))) (some-same e) (refl, refl)
row_append (suc k) bytes more found e =
    let parts = row_step k bytes found e in
    let first = parts.0 in
    let others = parts.1 in
    let here = u32_at-append bytes more first.1 first.0 parts.2 in
    let later = row_append k first.1 more others parts.3 in
    let all : u32s_at (suc k) (bytes ++ more) ≡ Some (first.0 ∷ others.0, others.1 ++ more) = rw (here, later.0) refl in
    let spelled : numbers (bytes ++ more) ≡ (first.0 ∷ others.0) ++ numbers (others.1 ++ more) = numbers_next (bytes ++ more) (first.0, first.1 ++ more) here ∙ ap (λ (ns : List ℕ). first.0 ∷ ns) later.1 in
    subst (λ (f : List ℕ × List ℕ). (u32s_at (suc k) (bytes ++ more) ≡ Some (f.0, f.1 ++ more)) × (numbers (bytes ++ more) ≡ f.0 ++ numbers (f.1 ++ more))) (sym parts.4) (all, spelled)

row_push : (k : ℕ) (bytes : List ℕ) (found : List ℕ × List ℕ) (n : ℕ) (rest : List ℕ) → u32s_at k bytes ≡ Some found → u32_at found.1 ≡ Some (n, rest) → u32s_at (suc k) bytes ≡ Some (found.0 ++ n ∷ [], rest)
row_push zero bytes found n rest e next =
    let first : u32_at bytes ≡ Some (n, rest) = subst (λ (f : List ℕ × List ℕ). u32_at f.1 ≡ Some (n, rest)) (sym (some-same e)) next in
    subst (λ (f : List ℕ × List ℕ). u32s_at 1 bytes ≡ Some (f.0 ++ n ∷ [], rest)) (some-same e) (rw first refl)
row_push (suc k) bytes found n rest e next =
    let parts = row_step k bytes found e in
    let first = parts.0 in
    let others = parts.1 in
    let later = row_push k first.1 others n rest parts.3 (subst (λ (f : List ℕ × List ℕ). u32_at f.1 ≡ Some (n, rest)) parts.4 next) in
    subst (λ (f : List ℕ × List ℕ). u32s_at (suc (suc k)) bytes ≡ Some (f.0 ++ n ∷ [], rest)) (sym parts.4) (rw (parts.2, later) refl)

-- one more vint
pub record IsLonger (bytes new : List ℕ) (n : ℕ) : Type 0 where
  pub vints : AreVints new
  pub numbers : numbers new ≡ numbers bytes ++ n ∷ []

vints_more : (bytes : List ℕ) (n : ℕ) → AreVints bytes → n < 2 ^ 32 → IsLonger bytes (bytes ++ vint_u32 n) n
vints_more bytes n are fits =
    let read : u32_at (vint_u32 n) ≡ Some (n, []) = subst (λ (b : List ℕ). u32_at b ≡ Some (n, [])) (append-nil (vint_u32 n)) (u32_at-vint_u32 n [] fits) in
    let row = row_append (length (numbers bytes)) bytes (vint_u32 n) (numbers bytes, []) are in
    let known : numbers (bytes ++ vint_u32 n) ≡ numbers bytes ++ n ∷ [] = row.1 ∙ ap (λ (ns : List ℕ). numbers bytes ++ ns) (numbers_next (vint_u32 n) (n, []) read) in
    let count : length (numbers bytes ++ n ∷ []) ≡ suc (length (numbers bytes)) = omega (arith, length-append (numbers bytes) (n ∷ [])) in
    let all = row_push (length (numbers bytes)) (bytes ++ vint_u32 n) (numbers bytes, vint_u32 n) n [] row.0 read in
    record { vints = rw (known, count) all; numbers = known }

pub longer : (bytes new : List ℕ) (n : ℕ) → AreVints bytes → n < 2 ^ 32 → new ≡ bytes ++ vint_u32 n → IsLonger bytes new n
longer bytes new n are fits is = rw is (vints_more bytes n are fits)

-- What bytes that aren't empty begin with.
pub record Begins (bytes : List ℕ) : Type 0 where
  pub number : ℕ
  pub rest : List ℕ
  pub read : u32_at bytes ≡ Some (number, rest)
  pub vints : AreVints rest
  pub numbers : numbers bytes ≡ number ∷ numbers rest

same_tail : (n m : ℕ) (ns ms : List ℕ) → n ∷ ns ≡ m ∷ ms → ns ≡ ms
same_tail n m ns ms e = cc

begins_by : (ns bytes : List ℕ) → numbers bytes ≡ ns → u32s_at (length ns) bytes ≡ Some (ns, []) → 0 < length bytes → Begins bytes
begins_by [] bytes is row some =
    let none : bytes ≡ [] = ap (λ (f : List ℕ × List ℕ). f.1) (some-same row) in
    absurd (omega (arith, some, ap length none))
begins_by (n ∷ ns) bytes is row some =
    let parts = row_step (length ns) bytes (n ∷ ns, []) row in
    let first = parts.0 in
    let others = parts.1 in
    let known = numbers_next bytes first parts.2 in
    let tail : ns ≡ others.0 = same_tail n first.0 ns others.0 (ap (λ (f : List ℕ × List ℕ). f.0) parts.4) in
    let later : numbers first.1 ≡ ns = same_tail first.0 n (numbers first.1) ns (sym known ∙ is) in
    let end : [] ≡ others.1 = ap (λ (f : List ℕ × List ℕ). f.1) parts.4 in
    let rest : u32s_at (length ns) first.1 ≡ Some (ns, []) = parts.3 ∙ sym (ap (λ (ms : List ℕ). Some (ms, others.1)) tail) ∙ sym (ap (λ (bs : List ℕ). Some (ns, bs)) end) in
    record { number = first.0; rest = first.1; read = parts.2; vints = rw later rest; numbers = known }

pub begins : (bytes : List ℕ) → AreVints bytes → 0 < length bytes → Begins bytes
begins bytes are some = begins_by (numbers bytes) bytes refl are some

lower_length : (b : ℕ) (ns : List ℕ) → length (lower_group b ns) ≤ suc (length ns)
lower_length b [] = omega arith
lower_length b (n ∷ ns) = omega arith

length_cases : (b : ℕ) (bs : List ℕ) (t : Bool) → length (numbers bs) ≤ length bs → length (cond t (lower_group b (numbers bs)) (b % 128 ∷ numbers bs)) ≤ suc (length bs)
length_cases b bs true ih = let low = lower_length b (numbers bs) in omega (arith, low, ih)
length_cases b bs false ih = omega (arith, ih)

-- a number takes a byte at least
pub length_numbers : (bytes : List ℕ) → length (numbers bytes) ≤ length bytes
length_numbers [] = omega arith
length_numbers (b ∷ bs) = length_cases b bs (nat_lt b 128) (length_numbers bs)

pub some_bytes : (n : ℕ) → false ≡ (n == 0) → 0 < n
some_bytes zero e = absurd (cc)
some_bytes (suc n) e = omega arith

pub vints_read : (bytes rest : List ℕ) (n : ℕ) → AreVints bytes → 0 < length bytes → u32_at bytes ≡ Some (n, rest) → AreVints rest × (numbers bytes ≡ n ∷ numbers rest)
vints_read bytes rest n are some read =
    let first = begins bytes are some in
    let same : ◌≡◌ {A = ℕ × List ℕ} (first.number, first.rest) (n, rest) = some-same (sym first.read ∙ read) in
    (subst AreVints (ap (λ (p : ℕ × List ℕ). p.1) same) first.vints, numbers_next bytes (n, rest) read)

pub can_read : (bytes : List ℕ) → AreVints bytes → 0 < length bytes → IsSome (u32_at bytes)
can_read bytes are some = rw (begins bytes are some).read refl
