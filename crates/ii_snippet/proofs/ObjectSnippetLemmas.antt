-- Laws of the snippets of an object, text by text.
use Rattle.std.proofs.Common.{◌≡◌, ◌∙◌, ℕ, ◌+◌, ◌<◌, ◌≤◌, Bool, true, false, List, [], ◌∷◌, ◌++◌, Global, String, ap, append_assoc, arith, drop, flat_map, get_or, length, map, refl, string_bytes, subst, sym}
use Rattle.std.proofs.lemmas.List.{append-nil, drop_all, drop_more}
use Rattle.std.specs.List.{AllZip, join_by}
use Rattle.ii_snippet.specs.declared.field_texts.FieldText.{FieldText}
use Rattle.ii_snippet.specs.declared.windows.SnippetToken.{SnippetToken}
use Rattle.ii_snippet.specs.FieldTexts.{FieldTextState, field_text}
use Rattle.ii_snippet.specs.ObjectSnippets.{AddsSnippets, AreSnippets, IsTextSnippet, SnippetRulesState, has_wanted, shown_texts, tokens_of}

-- tokens with a wanted word are some
pub some_tokens : (ts : List SnippetToken) → has_wanted ts ≡ true → 0 < length ts
some_tokens [] wanted = absurd (cc)
some_tokens (t ∷ ts) wanted = omega arith

-- a text with a wanted word has its snippet
pub one_shown : (r : SnippetRulesState) (t : FieldTextState) (old new : List (List ℕ)) (out : List ℕ) → has_wanted (tokens_of r t) ≡ true → IsTextSnippet r t out → new ≡ old ++ out ∷ [] → AddsSnippets r (t ∷ []) old new
one_shown r t old new out wanted is added = record { more = out ∷ []; are_snippets = rw wanted (is, tt); added = added }

-- the snippets of a text come before those of the later texts
zip_before : (r : SnippetRulesState) (t : FieldTextState) (ts : List FieldTextState) (more later : List (List ℕ)) → AreSnippets r (t ∷ []) more → AreSnippets r ts later → AreSnippets r (t ∷ ts) (more ++ later)
zip_before r t ts more later one others = by_case (has_wanted (tokens_of r t)) refl
  where
    with_one : (outs : List (List ℕ)) → AllZip (IsTextSnippet r) (t ∷ []) outs → AllZip (IsTextSnippet r) (t ∷ shown_texts r ts) (outs ++ later)
    with_one [] zip = absurd zip
    with_one (out ∷ []) zip = (zip.0, others)
    with_one (out ∷ next ∷ outs) zip = absurd zip.1

    with_none : (outs : List (List ℕ)) → AllZip (IsTextSnippet r) [] outs → AllZip (IsTextSnippet r) (shown_texts r ts) (outs ++ later)
    with_none [] zip = others
    with_none (out ∷ outs) zip = absurd zip

    by_case : (b : Bool) → has_wanted (tokens_of r t) ≡ b → AreSnippets r (t ∷ ts) (more ++ later)
    by_case true wanted = rw wanted (with_one more (rw wanted at one))
    by_case false unwanted = rw unwanted (with_none more (rw unwanted at one))

-- the snippets of the next text were added
pub text_shown : (r : SnippetRulesState) (texts : List FieldText) (i : ℕ) (t : FieldText) (old new : List (List ℕ)) → i < length texts
    → AddsSnippets r (field_text (get_or texts i t) ∷ []) old new
    → ((later : List (List ℕ)) → AreSnippets r (map field_text (drop i texts)) later → AreSnippets r (map field_text texts) (old ++ later))
    → (later : List (List ℕ)) → AreSnippets r (map field_text (drop (i + 1) texts)) later → AreSnippets r (map field_text texts) (new ++ later)
text_shown r texts i t old new within adds so_far later others =
    let here : AreSnippets r (map field_text (drop i texts)) (adds.more ++ later) =
    subst (λ (ts : List FieldText). AreSnippets r (map field_text ts) (adds.more ++ later)) (sym (drop_more texts i t within))
    (zip_before r (field_text (get_or texts i t)) (map field_text (drop (i + 1) texts)) adds.more later adds.are_snippets others) in
    subst (AreSnippets r (map field_text texts)) (sym (ap (λ (xs : List (List ℕ)). xs ++ later) adds.added ∙ append_assoc old adds.more later)) (so_far (adds.more ++ later) here)

-- all texts were shown
pub all_shown : (r : SnippetRulesState) (texts : List FieldText) (i : ℕ) (now : List (List ℕ)) → length texts ≤ i
    → ((later : List (List ℕ)) → AreSnippets r (map field_text (drop i texts)) later → AreSnippets r (map field_text texts) (now ++ later))
    → AreSnippets r (map field_text texts) now
all_shown r texts i now end so_far =
    subst (AreSnippets r (map field_text texts)) (append-nil now) (so_far [] (subst (λ (ts : List FieldText). AreSnippets r (map field_text ts) []) (sym (drop_all i texts end)) tt))

after_gaps : (gap : List ℕ) (texts : List (String Global)) → flat_map (λ (t : String Global). gap ++ string_bytes t) texts ≡ flat_map (λ (s : List ℕ). gap ++ s) (map string_bytes texts)
after_gaps gap [] = refl
after_gaps gap (t ∷ ts) = ap (λ (bs : List ℕ). (gap ++ string_bytes t) ++ bs) (after_gaps gap ts)

-- the bytes of texts that are joined
pub bytes_joined : (gap : List ℕ) (texts : List (String Global)) → join_by string_bytes gap texts ≡ join_by (λ (s : List ℕ). s) gap (map string_bytes texts)
bytes_joined gap [] = refl
bytes_joined gap (t ∷ ts) = ap (λ (bs : List ℕ). string_bytes t ++ bs) (after_gaps gap ts)
