-- Laws of the moves of several cursors.
use Rattle.std.specs.Prelude.{ℕ, ◌+◌, List, [], ◌∷◌}
use Rattle.std.proofs.Common.{arith}
use Rattle.std.specs.List.{AllZip}
use Rattle.ii_query.specs.Phrase.{PhraseTermState, ReadsOnce, Spent}

-- no move
pub none_went : {T : Type 0} (R : T → T → Type 0) → ((t : T) → R t t) → (ts : List T) → AllZip R ts ts
none_went R none [] = tt
none_went R none (t ∷ ts) = (none t, none_went R none ts)

-- one move after another
pub all_went_on : {T : Type 0} (R : T → T → Type 0) → ((a b c : T) → R a b → R b c → R a c) → (xs ys zs : List T) → AllZip R xs ys → AllZip R ys zs → AllZip R xs zs
all_went_on R on [] [] [] first second = tt
all_went_on R on [] [] (z ∷ zs) first second = elim second [ ]
all_went_on R on [] (y ∷ ys) zs first second = elim first [ ]
all_went_on R on (x ∷ xs) [] zs first second = elim first [ ]
all_went_on R on (x ∷ xs) (y ∷ ys) [] first second = elim second [ ]
all_went_on R on (x ∷ xs) (y ∷ ys) (z ∷ zs) first second = (on x y z first.0 second.0, all_went_on R on xs ys zs first.1 second.1)

-- positions were read twice
pub spent_in_turn : {P : Type 0} (spent : ℕ → ℕ → P → P → Type 0) → ((k m l n : ℕ) (a b c : P) → spent k m a b → spent l n b c → spent (k + l) (m + n) a c) → (a b c : P) → Spent spent a b → Spent spent b c → Spent spent a c
spent_in_turn spent on a b c first second = record { asked = first.asked + second.asked; count = first.count + second.count; by = on first.asked first.count second.asked second.count a b c first.by second.by }

-- no positions were read
pub spent_nothing : {P : Type 0} (spent : ℕ → ℕ → P → P → Type 0) {a b : P} → spent 0 0 a b → Spent spent a b
spent_nothing spent by = record { asked = 0; count = 0; by = by }

-- a term read nothing
pub reads_nothing : {P : Type 0} (spent : ℕ → ℕ → P → P → Type 0) (t : PhraseTermState P) → spent 0 0 t.cursor t.cursor → ReadsOnce spent t t
reads_nothing spent t by = record { asked = 0; count = 0; by = by; reads = omega arith; positions = omega arith }

-- a term read positions twice, of which none was the same
pub reads_in_turn : {P : Type 0} (spent : ℕ → ℕ → P → P → Type 0) → ((k m l n : ℕ) (a b c : P) → spent k m a b → spent l n b c → spent (k + l) (m + n) a c) → (a b c : PhraseTermState P) → ReadsOnce spent a b → ReadsOnce spent b c → ReadsOnce spent a c
reads_in_turn spent on a b c first second =
    let reads = first.reads in
    let more_reads = second.reads in
    let positions = first.positions in
    let more_positions = second.positions in
    record {
      asked = first.asked + second.asked;
      count = first.count + second.count;
      by = on first.asked first.count second.asked second.count a.cursor b.cursor c.cursor first.by second.by;
      reads = omega (arith, reads, more_reads);
      positions = omega (arith, positions, more_positions);
    }
