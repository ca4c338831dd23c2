-- Laws of the parts of texts.
use Rattle.std.proofs.Common.{◌≡◌, ℕ, suc, ◌+◌, ◌-◌, ◌<◌, Bool, true, false, ◌&&◌, List, [], ◌∷◌, ◌++◌, ap₂, chars, drop, drop-drop, length, nat_lt, refl, sym, take, ap, ◌∙◌, subst, arith, append_assoc, length-append}
use Rattle.std.specs.Prelude.{encode_utf8_all, Err, IsCharBoundary, Ok, OnOk, Result}
use Rattle.std.specs.Char.{encode_utf8, len_utf8}
use Rattle.std.specs.List.{slice_range}
use Rattle.std.specs.Str.{IsUtf8}
use Rattle.std.proofs.Math.Seq.{drop-append_seam, take-append_seam}
use Rattle.std.proofs.lemmas.Bool.{and_parts, lt-ltb}
use Rattle.std.proofs.lemmas.List.{append-nil}
use Rattle.std.proofs.lemmas.Str.{IsCharBoundary-past_char, IsUtf8-drop, IsUtf8-past_char, chars-append, chars-nil, chars_from_encodes, cons_from_encodes, encodes-chars, length-encode}
use Rattle.unicode_segmentation.proofs.TextLemmas.{chars-encode_utf8}
use lib.Utf8.{scalar, scalars}
use Rattle.ii_base.specs.Words.{Word}
use Rattle.ii_base.specs.Parts.{Part, in_front, part_word, part_words, parts_between}
use Rattle.ii_tokenizers.specs.Analyzers.{nonempty_parts}

no_text : (bs : List ℕ) → length bs ≡ 0 → bs ≡ []
no_text [] none = refl
no_text (b ∷ bs) none = absurd (omega (arith, none))

-- an empty part is no token
pub empty_part : (n start : ℕ) (part : List ℕ) → length part ≡ 0 → part_words n (nonempty_parts (record { offset = start; characters = chars part } ∷ [])) ≡ []
empty_part n start part none =
    let empty : chars part ≡ [] = ap chars (no_text part none) ∙ chars-nil in
    ap (λ (cs : List ℕ). part_words n (nonempty_parts (record { offset = start; characters = cs } ∷ []))) empty

some_chars : (part : List ℕ) → IsUtf8 part → 0 < length part → (cs : List ℕ) → chars part ≡ cs → 0 < length cs
some_chars part utf8 some [] is =
    let empty : [] ≡ part = sym (ap encode_utf8_all is) ∙ encodes-chars part utf8 in
    absurd (omega (arith, some, ap length empty))
some_chars part utf8 some (c ∷ cs) is = omega (arith)

-- the token of a part that has characters
abbrev text_word : ℕ → ℕ → List ℕ → Word
text_word n start part = record { offset_from = start; offset_to = start + length part; position = n; text = part; position_length = 1 }

pub one_part : (n start : ℕ) (part : List ℕ) → IsUtf8 part → 0 < length part → part_words n (nonempty_parts (record { offset = start; characters = chars part } ∷ [])) ≡ text_word n start part ∷ []
one_part n start part utf8 some =
    let there : nat_lt 0 (length (chars part)) ≡ true = lt-ltb 0 (length (chars part)) (some_chars part utf8 some (chars part) refl) in
    rw (there, encodes-chars part utf8) refl

-- parts, with characters put in front of the first, which then starts at an offset
abbrev pub with_front : ℕ → List ℕ → List Part → List Part
with_front offset front [] = record { offset = offset; characters = front } ∷ []
with_front offset front (p ∷ ps) = record { offset = offset; characters = front ++ p.characters } ∷ ps

-- a text that begins with a character
pub record Begins (bs rest : List ℕ) (c : ℕ) : Type 0 where
  pub chars_are : chars bs ≡ c ∷ chars rest
  pub rest_utf8 : IsUtf8 rest
  pub one : IsUtf8 (encode_utf8 c)

pub begins : (bs rest : List ℕ) (c : ℕ) → IsUtf8 bs → bs ≡ encode_utf8 c ++ rest → Begins bs rest c
begins bs rest c utf8 is =
    let parts = cons_from_encodes utf8.0 rest c (utf8.1.1 ∙ is) in
    let past = IsUtf8-past_char bs rest c utf8 is in
    let first : scalar c ≡ true = (and_parts (scalar c) (scalars parts.0) (subst (λ (cs : List ℕ). scalars cs ≡ true) parts.1 utf8.1.0)).0 in
    record {
      chars_are = sym (chars_from_encodes utf8.0 bs utf8 utf8.1.1) ∙ parts.1 ∙ ap (λ (cs : List ℕ). c ∷ cs) (chars_from_encodes parts.0 rest past parts.2);
      rest_utf8 = past;
      one = (c ∷ [], (ap (λ (b : Bool). b && true) first, append-nil (encode_utf8 c)));
    }

-- parts that begin at an offset, with no characters in front
pub nothing_in_front : (test : ℕ → Bool) (start : ℕ) (cs : List ℕ) → with_front start [] (parts_between test start cs) ≡ parts_between test start cs
unfolding parts_between
nothing_in_front test start [] = refl
nothing_in_front test start (c ∷ cs) = by_case (test c) refl
  where
    front : (ps : List Part) → with_front start [] (in_front start c ps) ≡ in_front start c ps
    front [] = refl
    front (p ∷ ps) = refl

    by_case : (b : Bool) → test c ≡ b → with_front start [] (parts_between test start (c ∷ cs)) ≡ parts_between test start (c ∷ cs)
    by_case true is = rw is refl
    by_case false is = rw is (front (parts_between test (start + len_utf8 c) cs))

-- one more character in front
pub one_in_front : (test : ℕ → Bool) (start at : ℕ) (front cs : List ℕ) (c : ℕ) → test c ≡ false → with_front start front (parts_between test at (c ∷ cs)) ≡ with_front start (front ++ c ∷ []) (parts_between test (at + len_utf8 c) cs)
unfolding parts_between
one_in_front test start at front cs c plain = rw plain (joined (parts_between test (at + len_utf8 c) cs))
  where
    joined : (ps : List Part) → with_front start front (in_front at c ps) ≡ with_front start (front ++ c ∷ []) ps
    joined [] = refl
    joined (p ∷ ps) = ap (λ (cs : List ℕ). record { offset = start; characters = cs } ∷ ps) (sym (append_assoc front (c ∷ []) p.characters))

-- a part ends at a character that cuts, or at the end
pub ends_at_cut : (test : ℕ → Bool) (start at : ℕ) (front cs : List ℕ) (c : ℕ) → test c ≡ true
    → with_front start front (parts_between test at (c ∷ cs)) ≡ record { offset = start; characters = front } ∷ parts_between test (at + len_utf8 c) cs
unfolding parts_between
ends_at_cut test start at front cs c cuts = rw (cuts, append-nil front) refl

pub ends_at_end : (test : ℕ → Bool) (start at : ℕ) (front : List ℕ) → with_front start front (parts_between test at []) ≡ record { offset = start; characters = front } ∷ []
unfolding parts_between
ends_at_end test start at front = rw (append-nil front) refl

-- the parts that are still to come after the bytes of a part that has started at an offset
abbrev pub parts_of : (ℕ → Bool) → ℕ → List ℕ → List ℕ → List Part
parts_of test start front rest = with_front start (chars front) (parts_between test (start + length front) (chars rest))

pub start_step : (test : ℕ → Bool) (start : ℕ) (front rest : List ℕ) → front ≡ [] → parts_of test start front rest ≡ parts_between test start (chars rest)
start_step test start front rest empty =
    let same : start + length front ≡ start = omega (arith, ap length empty) in
    rw (same, empty, chars-nil) (nothing_in_front test start (chars rest))

pub plain_step : (test : ℕ → Bool) (start : ℕ) (front longer rest after : List ℕ) (c : ℕ) → IsUtf8 front → IsUtf8 rest → rest ≡ encode_utf8 c ++ after → longer ≡ front ++ encode_utf8 c → test c ≡ false
    → parts_of test start front rest ≡ parts_of test start longer after
plain_step test start front longer rest after c front_utf8 utf8 is pushed plain =
    let b = begins rest after c utf8 is in
    let chars_are : chars front ++ c ∷ [] ≡ chars longer = sym (ap chars pushed ∙ chars-append front (encode_utf8 c) front_utf8 ∙ ap (λ (cs : List ℕ). chars front ++ cs) (chars-encode_utf8 c b.one)) in
    let size : start + length front + len_utf8 c ≡ start + length longer = omega (arith, ap length pushed, length-append front (encode_utf8 c), length-encode c) in
    ap (λ (cs : List ℕ). with_front start (chars front) (parts_between test (start + length front) cs)) b.chars_are
    ∙ one_in_front test start (start + length front) (chars front) (chars after) c plain
    ∙ ap (λ (cs : List ℕ). with_front start cs (parts_between test (start + length front + len_utf8 c) (chars after))) chars_are
    ∙ ap (λ (n : ℕ). with_front start (chars longer) (parts_between test n (chars after))) size

pub cut_step : (test : ℕ → Bool) (start next : ℕ) (front empty rest after : List ℕ) (c : ℕ) → IsUtf8 rest → rest ≡ encode_utf8 c ++ after → empty ≡ [] → next ≡ start + length front + len_utf8 c → test c ≡ true
    → parts_of test start front rest ≡ record { offset = start; characters = chars front } ∷ parts_of test next empty after
cut_step test start next front empty rest after c utf8 is none next_is cuts =
    let b = begins rest after c utf8 is in
    ap (λ (cs : List ℕ). with_front start (chars front) (parts_between test (start + length front) cs)) b.chars_are
    ∙ ends_at_cut test start (start + length front) (chars front) (chars after) c cuts
    ∙ ap (λ (n : ℕ). record { offset = start; characters = chars front } ∷ parts_between test n (chars after)) (sym next_is)
    ∙ ap (λ (ps : List Part). record { offset = start; characters = chars front } ∷ ps) (sym (start_step test next empty after none))

pub end_step : (test : ℕ → Bool) (start : ℕ) (front rest : List ℕ) → length rest ≡ 0 → parts_of test start front rest ≡ record { offset = start; characters = chars front } ∷ []
end_step test start front rest none = rw (no_text rest none, chars-nil) (ends_at_end test start (start + length front) (chars front))

-- a character of a text is passed
pub record Passes (text after : List ℕ) (end next c : ℕ) : Type 0 where
  pub rest_is : drop next text ≡ after
  pub character : slice_range text end next ≡ encode_utf8 c
  pub boundary : IsCharBoundary text next

pub passes : (text rest after : List ℕ) (end next c : ℕ) → IsUtf8 text → IsCharBoundary text end → rest ≡ drop end text → rest ≡ encode_utf8 c ++ after → next ≡ end + len_utf8 c → Passes text after end next c
passes text rest after end next c utf8 boundary rest_is step next_is =
    let here : drop end text ≡ encode_utf8 c ++ after = sym rest_is ∙ step in
    let size = length-encode c in
    let past : drop (length (encode_utf8 c)) (drop end text) ≡ drop next text = drop-drop (length (encode_utf8 c)) end text ∙ ap (λ (i : ℕ). drop i text) (omega (arith, size, next_is)) in
    let one : next - end ≡ length (encode_utf8 c) = omega (arith, size, next_is) in
    record {
      rest_is = sym past ∙ ap (drop (length (encode_utf8 c))) here ∙ drop-append_seam (encode_utf8 c) after;
      character = ap₂ (λ (n : ℕ) (bs : List ℕ). take n bs) one here ∙ take-append_seam (encode_utf8 c) after;
      boundary = subst (IsCharBoundary text) (sym next_is) (IsCharBoundary-past_char text after end c boundary.0 (IsUtf8-drop text end utf8 boundary) here);
    }

pub ok_then : {A E : Type 0} {P Q : Type 0} (result : Result A E) → (P → Q) → OnOk result P → OnOk result Q
ok_then (Ok a) from here = from here
ok_then (Err e) from here = tt

pub part_words-append : (n : ℕ) (ps qs : List Part) → part_words n (ps ++ qs) ≡ part_words n ps ++ part_words (n + length (part_words n ps)) qs
part_words-append n [] qs =
    let same : n ≡ n + 0 = omega arith in
    ap (λ (k : ℕ). part_words k qs) same
part_words-append n (p ∷ ps) qs =
    let same : n + 1 + length (part_words (n + 1) ps) ≡ n + suc (length (part_words (n + 1) ps)) = omega arith in
    ap (λ (ws : List Word). part_word n p ∷ ws) (part_words-append (n + 1) ps qs ∙ ap (λ (k : ℕ). part_words (n + 1) ps ++ part_words k qs) same)

-- the tokens of some parts were added, and those after them are still to come
pub added_parts : (old new : List Word) (n m : ℕ) (ps qs : List Part) → new ≡ old ++ part_words n ps → n ≡ length old → m ≡ length new → new ++ part_words m qs ≡ old ++ part_words n (ps ++ qs)
added_parts old new n m ps qs added before after =
    let some = part_words n ps in
    let size : m ≡ n + length some = after ∙ ap length added ∙ length-append old some ∙ ap (λ (k : ℕ). k + length some) (sym before) in
    ap (λ (k : ℕ). new ++ part_words k qs) size
    ∙ ap (λ (ws : List Word). ws ++ part_words (n + length some) qs) added
    ∙ append_assoc old some (part_words (n + length some) qs)
    ∙ ap (λ (ws : List Word). old ++ ws) (sym (part_words-append n ps qs))

nonempty_first : (p : Part) (ps : List Part) → nonempty_parts (p ∷ ps) ≡ nonempty_parts (p ∷ []) ++ nonempty_parts ps
nonempty_first p ps = by_case (nat_lt 0 (length p.characters)) refl
  where
    by_case : (b : Bool) → nat_lt 0 (length p.characters) ≡ b → nonempty_parts (p ∷ ps) ≡ nonempty_parts (p ∷ []) ++ nonempty_parts ps
    by_case true is = rw is refl
    by_case false is = rw is refl

-- the tokens of a part were added
pub added_part : (old new : List Word) (n m : ℕ) (p : Part) (ps : List Part) → new ≡ old ++ part_words n (nonempty_parts (p ∷ [])) → n ≡ length old → m ≡ length new → new ++ part_words m (nonempty_parts ps) ≡ old ++ part_words n (nonempty_parts (p ∷ ps))
added_part old new n m p ps added before after =
    added_parts old new n m (nonempty_parts (p ∷ [])) (nonempty_parts ps) added before after ∙ ap (λ (qs : List Part). old ++ part_words n qs) (sym (nonempty_first p ps))
