-- The tokens of a buffer where its texts and its places change.
use Rattle.std.proofs.Common.{◌≡◌, ℕ, ◌-◌, ◌<◌, ◌≤◌, Bool, true, false, List, [], ◌∷◌, ◌++◌, length, filter, map, nat_lt, take, drop, get_or, refl, sym, ap, ap₂, ◌∙◌, inl, inr, subst, arith, length-append, length-drop}
use Rattle.std.specs.Prelude.{IsAscii, IsCharBoundary, IsUtf8}
use Rattle.std.specs.Char.{to_ascii_lowercase}
use Rattle.std.specs.List.{All, slice_range}
use Rattle.std.proofs.Math.ListN.{get_or-append}
use Rattle.std.proofs.lemmas.Bool.{cases_lt}
use Rattle.std.proofs.lemmas.Bool.Decides.{nat_tests}
use Rattle.std.proofs.lemmas.List.{drop-append-le, drop-map, get_or-map, length-map, length-take-le, map-append, take-append-le, take-map}
use Rattle.std.proofs.lemmas.List.Elements.{All-head, All-map, All-push, All-rest}
use Rattle.std.proofs.lemmas.Str.{IsAscii-drop, IsAscii-take, IsCharBoundary-at_seam, IsCharBoundary-end}
use Rattle.ii_base.specs.Words.{Word, lowercase_word, remove_long}
use Rattle.ii_base.specs.TokenPlaces.{IsPlaced, placed_word}
use Rattle.ii_base.specs.declared.tokenizer.token_buffer.TokenPlace.{TokenPlace}

-- ---- more texts

boundary_more : (xs ys : List ℕ) (i : ℕ) → IsUtf8 ys → IsCharBoundary xs i → IsCharBoundary (xs ++ ys) i
boundary_more xs ys i utf8 is = elim (cases_lt i (length xs)) [
  | inl less ↦ (omega (arith, length-append xs ys, less), λ low high. subst (λ (c : ℕ). 192 ≤ c) (sym (get_or-append xs ys 0 i less)) (is.1 less (subst (λ (c : ℕ). 128 ≤ c) (get_or-append xs ys 0 i less) high)))
  | inr more ↦
      let last : length xs ≡ i = omega (arith, more, is.0) in
      subst (IsCharBoundary (xs ++ ys)) last (IsCharBoundary-at_seam (xs ++ ys) xs ys refl utf8)
]

placed_more : (xs ys : List ℕ) (p : TokenPlace) → IsUtf8 ys → IsPlaced xs p → IsPlaced (xs ++ ys) p
placed_more xs ys p utf8 is = (is.0, boundary_more xs ys p.start utf8 is.1, boundary_more xs ys p.end utf8 is.2)

range_more : (xs ys : List ℕ) (start end : ℕ) → start ≤ end → end ≤ length xs → slice_range (xs ++ ys) start end ≡ slice_range xs start end
range_more xs ys start end order most =
    ap (take (end - start)) (drop-append-le start xs ys (omega (arith, order, most)))
    ∙ take-append-le (end - start) (drop start xs) ys (omega (arith, length-drop start xs, order, most))

-- the tokens stay if texts are added
pub words_more : (xs ys : List ℕ) (ps : List TokenPlace) → All (IsPlaced xs) ps → map (placed_word (xs ++ ys)) ps ≡ map (placed_word xs) ps
words_more xs ys [] placed = refl
words_more xs ys (p ∷ ps) placed =
    let first = All-head (IsPlaced xs) p ps placed in
    ap₂ (λ (text : List ℕ) (ws : List Word). record (placed_word xs p) { text = text } ∷ ws) (range_more xs ys p.start p.end first.0 first.2.0) (words_more xs ys ps (All-rest (IsPlaced xs) p ps _ refl placed))

pub all_more : (xs ys : List ℕ) (ps : List TokenPlace) → IsUtf8 ys → All (IsPlaced xs) ps → All (IsPlaced (xs ++ ys)) ps
all_more xs ys ps utf8 placed = λ k d within. placed_more xs ys (get_or ps k d) utf8 (placed k d within)

-- a text and its place are added
pub all_pushed : (xs text ys : List ℕ) (ps qs : List TokenPlace) (p : TokenPlace) → ys ≡ xs ++ text → qs ≡ ps ++ p ∷ [] → IsUtf8 text → p.start ≡ length xs → p.end ≡ length ys → All (IsPlaced xs) ps → All (IsPlaced ys) qs
all_pushed xs text ys ps qs p texts places utf8 start end placed =
    rw (texts, places)
    (All-push (IsPlaced (xs ++ text)) ps p (all_more xs text ps utf8 placed) (
      omega (arith, start, end, ap length texts, length-append xs text),
      subst (IsCharBoundary (xs ++ text)) (sym start) (IsCharBoundary-at_seam (xs ++ text) xs text refl utf8),
      subst (IsCharBoundary (xs ++ text)) (sym (end ∙ ap length texts)) (IsCharBoundary-end (xs ++ text)),
    ))

last_range : (xs text : List ℕ) (start end : ℕ) → start ≡ length xs → end ≡ length (xs ++ text) → slice_range (xs ++ text) start end ≡ text
last_range xs text start end first last =
    let size : end - start ≡ length text = omega (arith, first, last, length-append xs text) in
    ap₂ (λ (n k : ℕ). take n (drop k (xs ++ text))) size first
    ∙ ap (take (length text)) (drop_front xs text)
    ∙ take_whole text
  where
    drop_front : (xs ys : List ℕ) → drop (length xs) (xs ++ ys) ≡ ys
    drop_front [] ys = refl
    drop_front (x ∷ xs) ys = drop_front xs ys

    take_whole : (ys : List ℕ) → take (length ys) ys ≡ ys
    take_whole [] = refl
    take_whole (y ∷ ys) = ap (λ (zs : List ℕ). y ∷ zs) (take_whole ys)

pub words_pushed : (xs text ys : List ℕ) (ps qs : List TokenPlace) (p : TokenPlace) → ys ≡ xs ++ text → qs ≡ ps ++ p ∷ [] → p.start ≡ length xs → p.end ≡ length ys → All (IsPlaced xs) ps
    → map (placed_word ys) qs ≡ map (placed_word xs) ps ++ record (placed_word xs p) { text = text } ∷ []
words_pushed xs text ys ps qs p texts places start end placed =
    rw (texts, places)
    (map-append (placed_word (xs ++ text)) ps (p ∷ [])
    ∙ ap₂ (λ (ws : List Word) (bytes : List ℕ). ws ++ record (placed_word xs p) { text = bytes } ∷ []) (words_more xs text ps placed) (last_range xs text p.start p.end start (end ∙ ap length texts)))

-- ---- small letters

lower_high : (c : ℕ) → 128 ≤ to_ascii_lowercase c → to_ascii_lowercase c ≡ c
lower_high c high = grind (arith, nat_tests)

boundary_lower : (xs : List ℕ) (i : ℕ) → IsCharBoundary xs i → IsCharBoundary (map to_ascii_lowercase xs) i
boundary_lower xs i is =
    let size = length-map xs to_ascii_lowercase in (
      omega (arith, size, is.0),
      λ within high.
          let less : i < length xs = omega (arith, size, within) in
          let here : get_or (map to_ascii_lowercase xs) i 0 ≡ to_ascii_lowercase (get_or xs i 0) = get_or-map to_ascii_lowercase xs i 0 0 less in
          let same : get_or (map to_ascii_lowercase xs) i 0 ≡ get_or xs i 0 = here ∙ lower_high (get_or xs i 0) (subst (λ (c : ℕ). 128 ≤ c) here high) in
          subst (λ (c : ℕ). 192 ≤ c) (sym same) (is.1 less (subst (λ (c : ℕ). 128 ≤ c) same high)),
    )

pub all_lower : (xs ys : List ℕ) (ps : List TokenPlace) → ys ≡ map to_ascii_lowercase xs → All (IsPlaced xs) ps → All (IsPlaced ys) ps
all_lower xs ys ps texts placed =
    rw texts (λ k d within. let is = placed k d within in (is.0, boundary_lower xs (get_or ps k d).start is.1, boundary_lower xs (get_or ps k d).end is.2))

pub words_lower : (xs ys : List ℕ) (ps : List TokenPlace) → ys ≡ map to_ascii_lowercase xs → map (placed_word ys) ps ≡ map lowercase_word (map (placed_word xs) ps)
words_lower xs ys [] texts = refl
words_lower xs ys (p ∷ ps) texts =
    let range : slice_range ys p.start p.end ≡ map to_ascii_lowercase (slice_range xs p.start p.end) =
    rw texts (ap (take (p.end - p.start)) (drop-map to_ascii_lowercase p.start xs) ∙ take-map to_ascii_lowercase (p.end - p.start) (drop p.start xs)) in
    ap₂ (λ (text : List ℕ) (ws : List Word). record (placed_word xs p) { text = text } ∷ ws) range (words_lower xs ys ps texts)

-- ---- short texts, ASCII texts

range_size : (xs : List ℕ) (start end : ℕ) → end ≤ length xs → length (slice_range xs start end) ≡ end - start
range_size xs start end most = length-take-le (end - start) (drop start xs) (omega (arith, length-drop start xs, most))

pub short_words : (limit : ℕ) (xs : List ℕ) (ps : List TokenPlace) → All (IsPlaced xs) ps
    → map (placed_word xs) (filter (λ (p : TokenPlace). nat_lt (p.end - p.start) limit) ps) ≡ remove_long limit (map (placed_word xs) ps)
short_words limit xs [] placed = refl
short_words limit xs (p ∷ ps) placed =
    by_case (nat_lt (p.end - p.start) limit) refl (short_words limit xs ps (All-rest (IsPlaced xs) p ps _ refl placed))
  where
    size : length (slice_range xs p.start p.end) ≡ p.end - p.start
    size = range_size xs p.start p.end (All-head (IsPlaced xs) p ps placed).2.0

    by_case : (b : Bool) → nat_lt (p.end - p.start) limit ≡ b
        → map (placed_word xs) (filter (λ (q : TokenPlace). nat_lt (q.end - q.start) limit) ps) ≡ remove_long limit (map (placed_word xs) ps)
        → map (placed_word xs) (filter (λ (q : TokenPlace). nat_lt (q.end - q.start) limit) (p ∷ ps)) ≡ remove_long limit (map (placed_word xs) (p ∷ ps))
    by_case true is rest = rw (size, is) (ap (λ (ws : List Word). placed_word xs p ∷ ws) rest)
    by_case false is rest = rw (size, is) rest

pub ascii_words : (xs : List ℕ) (ps : List TokenPlace) → IsAscii xs → All (λ (w : Word). IsAscii w.text) (map (placed_word xs) ps)
ascii_words xs ps ascii =
    All-map (λ (w : Word). IsAscii w.text) (placed_word xs) ps (λ k d within. IsAscii-take (drop (get_or ps k d).start xs) ((get_or ps k d).end - (get_or ps k d).start) (IsAscii-drop xs (get_or ps k d).start ascii))
