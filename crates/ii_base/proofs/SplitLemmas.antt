-- The text of a path is split character by character.
use Rattle.std.proofs.Common.{◌≡◌, ℕ, ◌<◌, ◌≤◌, Bool, true, false, not, ◌&&◌, List, [], ◌∷◌, ◌++◌, append_assoc, append-nil, length, map, refl, sym, ap, arith, ◌∙◌, ⊎_elim, cond, lit<, ◌==◌}
use lib.Utf8.{encode}
use Rattle.std.specs.List.{All, onto_first, slice_split}
use Rattle.std.proofs.lemmas.Bool.{cases_lt, ne_eqb}
use Rattle.std.proofs.lemmas.List.Elements.{All-head, All-tail}
use Rattle.std.proofs.lemmas.Str.{encode_ascii, length-encode, len_utf8_bounds}
use Rattle.ii_base.specs.Paths.{acts_as, kept_bytes, marked, segments_of}
use Rattle.ii_base.proofs.CharLemmas.{past_ascii}

-- the segments of bytes of which the first may be kept
abbrev pub segments_from : Bool → List ℕ → List (List ℕ)
segments_from kept bytes = map kept_bytes (slice_split (acts_as 46) (marked kept bytes))

-- segments whose first goes on from these bytes
abbrev pub in_front : List ℕ → List (List ℕ) → List (List ℕ)
in_front xs [] = xs ∷ []
in_front xs (s ∷ ss) = (xs ++ s) ∷ ss

pub in_front-append : (xs ys : List ℕ) (ss : List (List ℕ)) → in_front (xs ++ ys) ss ≡ in_front xs (in_front ys ss)
in_front-append xs ys [] = refl
in_front-append xs ys (s ∷ ss) = ap (λ (l : List ℕ). l ∷ ss) (append_assoc xs ys s)

onto_parts : (x : ℕ × Bool) (parts : List (List (ℕ × Bool))) → in_front [] (map kept_bytes (onto_first x parts)) ≡ map kept_bytes (onto_first x parts)
onto_parts x [] = refl
onto_parts x (p ∷ ps) = refl

parts_by : (b : Bool) (x : ℕ × Bool) (parts : List (List (ℕ × Bool))) → in_front [] (map kept_bytes (cond b ([] ∷ parts) (onto_first x parts))) ≡ map kept_bytes (cond b ([] ∷ parts) (onto_first x parts))
parts_by true x parts = refl
parts_by false x parts = onto_parts x parts

in_front_parts : (bs : List (ℕ × Bool)) → in_front [] (map kept_bytes (slice_split (acts_as 46) bs)) ≡ map kept_bytes (slice_split (acts_as 46) bs)
in_front_parts [] = refl
in_front_parts (x ∷ bs) = parts_by (acts_as 46 x) x (slice_split (acts_as 46) bs)

pub in_front_nothing : (kept : Bool) (bytes : List ℕ) → in_front [] (segments_from kept bytes) ≡ segments_from kept bytes
in_front_nothing kept bytes = in_front_parts (marked kept bytes)

unkept : (parts : List (List (ℕ × Bool))) → map kept_bytes (onto_first (92, false) parts) ≡ in_front [] (map kept_bytes parts)
unkept [] = refl
unkept (p ∷ ps) = refl

pub at_backslash : (rest : List ℕ) → segments_of (92 ∷ rest) ≡ segments_from true rest
at_backslash rest = unkept (slice_split (acts_as 46) (marked true rest)) ∙ in_front_nothing true rest

onto_kept : (b : ℕ) (kept : Bool) (parts : List (List (ℕ × Bool))) → acts_as 92 (b, kept) ≡ false → map kept_bytes (onto_first (b, kept) parts) ≡ in_front (b ∷ []) (map kept_bytes parts)
onto_kept b kept [] e = rw e refl
onto_kept b kept (p ∷ ps) e = rw e refl

pub at_byte : (b : ℕ) (kept : Bool) (rest : List ℕ) → acts_as 46 (b, kept) ≡ false → acts_as 92 (b, kept) ≡ false → segments_from kept (b ∷ rest) ≡ in_front (b ∷ []) (segments_from false rest)
at_byte b kept rest dot backslash =
    rw dot (onto_kept b kept (slice_split (acts_as 46) (marked (not kept && (b == 92)) rest)) backslash ∙ ap (λ (k : Bool). in_front (b ∷ []) (segments_from k rest)) backslash)

at_bytes : (xs rest : List ℕ) → All (λ b. 128 ≤ b) xs → segments_from false (xs ++ rest) ≡ in_front xs (segments_from false rest)
at_bytes [] rest high = sym (in_front_nothing false rest)
at_bytes (x ∷ xs) rest high =
    let first = All-head (λ b. 128 ≤ b) x xs high in
    at_byte x false (xs ++ rest) (ne_eqb x 46 (λ e. omega (arith, e, first))) (ne_eqb x 92 (λ e. omega (arith, e, first)))
    ∙ ap (in_front (x ∷ [])) (at_bytes xs rest (All-tail (λ b. 128 ≤ b) x xs high))
    ∙ sym (in_front-append (x ∷ []) xs (segments_from false rest))

pub at_char : (c : ℕ) (rest : List ℕ) → (c ≡ 46 → ⊥) → (c ≡ 92 → ⊥) → segments_of (encode c ++ rest) ≡ in_front (encode c) (segments_of rest)
at_char c rest dot backslash =
    ⊎_elim (λ low. rw (encode_ascii c low) (at_byte c false rest (ne_eqb c 46 dot) (ne_eqb c 92 backslash))) (λ high. at_bytes (encode c) rest (past_ascii c high)) (cases_lt c 128)

at_kept_bytes : (xs rest : List ℕ) → 0 < length xs → All (λ b. 128 ≤ b) xs → segments_from true (xs ++ rest) ≡ in_front xs (segments_from false rest)
at_kept_bytes [] rest some high = absurd (omega (arith, some))
at_kept_bytes (x ∷ xs) rest some high =
    at_byte x true (xs ++ rest) refl refl
    ∙ ap (in_front (x ∷ [])) (at_bytes xs rest (All-tail (λ b. 128 ≤ b) x xs high))
    ∙ sym (in_front-append (x ∷ []) xs (segments_from false rest))

pub at_kept_char : (c : ℕ) (rest : List ℕ) → segments_from true (encode c ++ rest) ≡ in_front (encode c) (segments_of rest)
at_kept_char c rest =
    let some : 0 < length (encode c) = omega (arith, length-encode c, (len_utf8_bounds c).0) in
    ⊎_elim (λ low. rw (encode_ascii c low) (at_byte c true rest refl refl)) (λ high. at_kept_bytes (encode c) rest some (past_ascii c high)) (cases_lt c 128)

-- A text is split into the complete segments, the current one, and those of the remaining bytes.
pub record IsSplitting (text : List ℕ) (segments : List (List ℕ)) (segment rest : List ℕ) : Type 0 where
  pub whole : segments_of text ≡ segments ++ in_front segment (segments_of rest)

pub splitting_first : (text : List ℕ) → IsSplitting text [] [] text
splitting_first text = record { whole = sym (in_front_nothing false text) }

pub splitting_dot : (text : List ℕ) (segments : List (List ℕ)) (segment bytes rest : List ℕ) (c : ℕ) → IsSplitting text segments segment bytes → bytes ≡ encode c ++ rest → c ≡ 46 → IsSplitting text (segments ++ segment ∷ []) [] rest
splitting_dot text segments segment bytes rest c is next same =
    let dot : encode c ≡ 46 ∷ [] = ap encode same ∙ encode_ascii 46 (lit< tt) in
    let from : bytes ≡ 46 ∷ rest = next ∙ ap (λ (l : List ℕ). l ++ rest) dot in
    record {
      whole = is.whole ∙ ap (λ (l : List ℕ). segments ++ in_front segment (segments_of l)) from
          ∙ ap (λ (l : List ℕ). segments ++ l ∷ segments_of rest) (append-nil segment)
          ∙ sym (append_assoc segments (segment ∷ []) (segments_of rest))
          ∙ ap (λ (l : List (List ℕ)). (segments ++ segment ∷ []) ++ l) (sym (in_front_nothing false rest));
    }

pub splitting_char : (text : List ℕ) (segments : List (List ℕ)) (segment bytes rest : List ℕ) (c : ℕ) → IsSplitting text segments segment bytes → bytes ≡ encode c ++ rest → (c ≡ 46 → ⊥) → (c ≡ 92 → ⊥) → IsSplitting text segments (segment ++ encode c) rest
splitting_char text segments segment bytes rest c is next dot backslash = record {
  whole = is.whole ∙ ap (λ (l : List ℕ). segments ++ in_front segment (segments_of l)) next
      ∙ ap (λ (l : List (List ℕ)). segments ++ in_front segment l) (at_char c rest dot backslash)
      ∙ ap (λ (l : List (List ℕ)). segments ++ l) (sym (in_front-append segment (encode c) (segments_of rest)));
}

behind_backslash : (bytes rest : List ℕ) (c : ℕ) → bytes ≡ encode c ++ rest → c ≡ 92 → segments_of bytes ≡ segments_from true rest
behind_backslash bytes rest c next same =
    let backslash : encode c ≡ 92 ∷ [] = ap encode same ∙ encode_ascii 92 (lit< tt) in
    ap segments_of (next ∙ ap (λ (l : List ℕ). l ++ rest) backslash) ∙ at_backslash rest

pub splitting_kept : (text : List ℕ) (segments : List (List ℕ)) (segment bytes more rest : List ℕ) (b c : ℕ) → IsSplitting text segments segment bytes → bytes ≡ encode b ++ more → b ≡ 92 → more ≡ encode c ++ rest → IsSplitting text segments (segment ++ encode c) rest
splitting_kept text segments segment bytes more rest b c is first same next = record {
  whole = is.whole
      ∙ ap (λ (l : List (List ℕ)). segments ++ in_front segment l) (behind_backslash bytes more b first same ∙ ap (segments_from true) next ∙ at_kept_char c rest)
      ∙ ap (λ (l : List (List ℕ)). segments ++ l) (sym (in_front-append segment (encode c) (segments_of rest)));
}
