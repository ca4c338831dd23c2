-- The moves of a phrase's cursors while its terms are visited in turn.
use Rattle.std.proofs.Common.{◌≡◌, ℕ, zero, suc, ◌<◌, List, [], ◌∷◌, ◌++◌, get_or, length, set, refl, ap, ◌∙◌, arith}
use Rattle.std.specs.List.{AllByRecursion, AllZip}
use Rattle.ii_query.specs.Phrase.{PhrasePartState, PhraseTermState, parts_in}

-- two lists of parts, joined
pub all_beside : {T : Type 0} (R : T → T → Type 0) (xs ys us vs : List T) → AllZip R xs us → AllZip R ys vs → AllZip R (xs ++ ys) (us ++ vs)
all_beside R [] ys [] vs first other = other
all_beside R [] ys (u ∷ us) vs first other = elim first [ ]
all_beside R (x ∷ xs) ys [] vs first other = elim first [ ]
all_beside R (x ∷ xs) ys (u ∷ us) vs first other = (first.0, all_beside R xs ys us vs first.1 other)

-- a term is replaced
pub parts_set : {P : Type 0} (terms : List (PhraseTermState P)) (i : ℕ) (new : PhraseTermState P) → parts_in (set terms i new) ≡ set (parts_in terms) i new.part
parts_set [] i new = refl
parts_set (t ∷ ts) zero new = refl
parts_set (t ∷ ts) (suc i) new = ap (λ (ps : List PhrasePartState). t.part ∷ ps) (parts_set ts i new)

-- the part of a term at a place
pub part_got : {P : Type 0} (terms : List (PhraseTermState P)) (i : ℕ) (t : PhraseTermState P) → i < length terms → t ≡ get_or terms i t → t.part ≡ get_or (parts_in terms) i t.part
part_got [] i t inside is = absurd (omega (arith, inside))
part_got (s ∷ ss) zero t inside is = ap (λ (u : PhraseTermState _). u.part) is
part_got (s ∷ ss) (suc i) t inside is = part_got ss i t (omega (arith, inside)) is

pub parts_many : {P : Type 0} (terms : List (PhraseTermState P)) → length (parts_in terms) ≡ length terms
parts_many [] = refl
parts_many (t ∷ ts) = ap suc (parts_many ts)

-- a part that stays is as good as the term before it
pub parts_same : {P : Type 0} (terms : List (PhraseTermState P)) (i : ℕ) (old new : PhraseTermState P) → i < length terms → old ≡ get_or terms i old → new.part ≡ old.part → parts_in (set terms i new) ≡ parts_in terms
parts_same [] i old new inside is same = absurd (omega (arith, inside))
parts_same (t ∷ ts) zero old new inside is same = ap (λ (p : PhrasePartState). p ∷ parts_in ts) (same ∙ ap (λ (u : PhraseTermState _). u.part) is)
parts_same (t ∷ ts) (suc i) old new inside is same = ap (λ (ps : List PhrasePartState). t.part ∷ ps) (parts_same ts i old new (omega (arith, inside)) is same)

-- one element went on
pub work_set : {T : Type 0} (R : T → T → Type 0) → ((a b c : T) → R a b → R b c → R a c) → (start now : List T) (i : ℕ) (old new : T) → i < length now → old ≡ get_or now i old → R old new → AllZip R start now → AllZip R start (set now i new)
work_set R on start [] i old new inside is moved work = absurd (omega (arith, inside))
work_set R on [] (t ∷ ts) i old new inside is moved work = elim work [ ]
work_set R on (s ∷ ss) (t ∷ ts) zero old new inside is moved work = (on s t new work.0 (rw is at moved), work.1)
work_set R on (s ∷ ss) (t ∷ ts) (suc i) old new inside is moved work = (work.0, work_set R on ss ts i old new (omega (arith, inside)) is moved work.1)

-- what holds of each element holds of one, and where that is replaced by another of which it holds
pub each_at : {T : Type 0} (P : T → Type 0) (ts : List T) (i : ℕ) (t : T) → AllByRecursion P ts → i < length ts → t ≡ get_or ts i t → P t
each_at P [] i t all inside is = absurd (omega (arith, inside))
each_at P (s ∷ ss) zero t all inside is = rw is all.0
each_at P (s ∷ ss) (suc i) t all inside is = each_at P ss i t all.1 (omega (arith, inside)) is

pub each_set : {T : Type 0} (P : T → Type 0) (ts : List T) (i : ℕ) (t : T) → P t → AllByRecursion P ts → AllByRecursion P (set ts i t)
each_set P [] i t holds all = tt
each_set P (s ∷ ss) zero t holds all = (holds, all.1)
each_set P (s ∷ ss) (suc i) t holds all = (all.0, each_set P ss i t holds all.1)
