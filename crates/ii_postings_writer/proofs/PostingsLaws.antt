-- What one more token and one more call add.
use Rattle.std.proofs.Common.{map, ◌≡◌, ℕ, ◌+◌, Bool, true, false, cond, List, [], ◌∷◌, ◌++◌, nat_eq, refl, sym, ap, ◌∙◌}
use Rattle.std.proofs.lemmas.Bool.{eqb-true, eq-eqb, ne_eqb, eqb-false}
use Rattle.std.proofs.lemmas.List.Elements.{filter-append}
use Rattle.ii_base.specs.declared.schema.index_record_option.IndexRecordOption.{IndexRecordOption}
use Rattle.ii_base.specs.declared.schema.index_record_option.IndexRecordOption.TheVariants.{Basic, WithFreqs, WithFreqsAndPositions}
use Rattle.ii_base.specs.Entries.{Entry}
use Rattle.ii_definitions.specs.Cut.{cut_entry}
use Rattle.ii_recorder.specs.Recorded.{begun, with_position}
use Rattle.ii_definitions.specs.Tokens.{IndexToken}
use Rattle.ii_definitions.specs.Postings.{entry_of, grouped, is_at, tokens_at, with_token}

-- the entries with one more token after them: in the last one if it is of that document, or else in an entry of its own
abbrev pub token_added : List Entry → IndexToken → List Entry
token_added [] t = entry_of t ∷ []
token_added (e ∷ []) t = cond (nat_eq e.doc t.doc) (record { doc = e.doc; term_freq = e.term_freq + 1; positions = e.positions ++ t.position ∷ [] } ∷ []) (e ∷ entry_of t ∷ [])
token_added (e ∷ f ∷ es) t = e ∷ token_added (f ∷ es) t

first_alone : (u t : IndexToken) (b : Bool) → nat_eq t.doc u.doc ≡ b → with_token u (entry_of t ∷ []) ≡ token_added (entry_of u ∷ []) t
first_alone u t true e =
    let same = eqb-true t.doc u.doc e in
    let back = eq-eqb u.doc t.doc (sym same) in
    rw (e, back, same) refl
first_alone u t false e =
    let back = ne_eqb u.doc t.doc (λ same. eqb-false t.doc u.doc e (sym same)) in
    rw (e, back) refl

one_before : (u t : IndexToken) (x : Entry) (b c : Bool) → nat_eq x.doc t.doc ≡ b → nat_eq x.doc u.doc ≡ c → with_token u (token_added (x ∷ []) t) ≡ token_added (with_token u (x ∷ [])) t
one_before u t x true true e f = simp (e, f) refl
one_before u t x true false e f = simp (e, f) refl
one_before u t x false true e f = simp (e, f) refl
one_before u t x false false e f = simp (e, f) refl

with_token-token_added : (u t : IndexToken) (es : List Entry) → with_token u (token_added es t) ≡ token_added (with_token u es) t
with_token-token_added u t [] = first_alone u t (nat_eq t.doc u.doc) refl
with_token-token_added u t (x ∷ []) = one_before u t x (nat_eq x.doc t.doc) (nat_eq x.doc u.doc) refl refl
with_token-token_added u t (x ∷ y ∷ es) =
    elim (nat_eq x.doc u.doc) as (λ c. cond c (record { doc = x.doc; term_freq = x.term_freq + 1; positions = u.position ∷ x.positions } ∷ token_added (y ∷ es) t) (entry_of u ∷ x ∷ token_added (y ∷ es) t)
    ≡ token_added (cond c (record { doc = x.doc; term_freq = x.term_freq + 1; positions = u.position ∷ x.positions } ∷ y ∷ es) (entry_of u ∷ x ∷ y ∷ es)) t) [ true ↦ refl | false ↦ refl ]

-- one more token of a key is one more in its last entry, or an entry of its own
pub grouped_more : (ts : List IndexToken) (t : IndexToken) → grouped (ts ++ t ∷ []) ≡ token_added (grouped ts) t
grouped_more [] t = refl
grouped_more (u ∷ ts) t = ap (with_token u) (grouped_more ts t) ∙ with_token-token_added u t (grouped ts)

-- the tokens of a key in two parts
pub tokens_at-append : (field : ℕ) (key : List ℕ) (first second : List IndexToken) → tokens_at field key (first ++ second) ≡ tokens_at field key first ++ tokens_at field key second
tokens_at-append field key first second = filter-append (is_at field key) first second

-- an entry cut to a kind, with one more position
cut_with_position : (kind : IndexRecordOption) (p : ℕ) (e : Entry) → cut_entry kind (record { doc = e.doc; term_freq = e.term_freq + 1; positions = e.positions ++ p ∷ [] }) ≡ with_position kind p (cut_entry kind e)
cut_with_position Basic p e = refl
cut_with_position WithFreqs p e = refl
cut_with_position WithFreqsAndPositions p e = refl

-- an entry of one token is what is recorded in a document that was started
pub cut_entry_of : (kind : IndexRecordOption) (t : IndexToken) → cut_entry kind (entry_of t) ≡ with_position kind t.position (begun kind t.doc)
cut_entry_of Basic t = refl
cut_entry_of WithFreqs t = refl
cut_entry_of WithFreqsAndPositions t = refl

-- the last entry with one more token, or that entry and a new one
abbrev pub recorded_after : IndexRecordOption → Entry → IndexToken → List Entry
recorded_after kind e t = cond (nat_eq e.doc t.doc) (with_position kind t.position e ∷ []) (e ∷ with_position kind t.position (begun kind t.doc) ∷ [])

after_one : (kind : IndexRecordOption) (g : Entry) (t : IndexToken) (b : Bool) → nat_eq g.doc t.doc ≡ b → map (cut_entry kind) (token_added (g ∷ []) t) ≡ recorded_after kind (cut_entry kind g) t
after_one kind g t true same = rw (same, cut_with_position kind t.position g) refl
after_one kind g t false other = rw (other, cut_entry_of kind t) refl

-- What recorders have of a key's tokens, all but the last entry and that one, they have after one more token.
pub recorded_more : (kind : IndexRecordOption) (es closed : List Entry) (last : Entry) (t : IndexToken) → closed ++ last ∷ [] ≡ map (cut_entry kind) es → map (cut_entry kind) (token_added es t) ≡ closed ++ recorded_after kind last t
recorded_more kind [] [] last t known = absurd (cc)
recorded_more kind [] (c ∷ cs) last t known = absurd (cc)
recorded_more kind (g ∷ []) [] last t known =
    let is : last ≡ cut_entry kind g = cc in
    rw is (after_one kind g t (nat_eq g.doc t.doc) refl)
recorded_more kind (g ∷ []) (c ∷ []) last t known = absurd (cc)
recorded_more kind (g ∷ []) (c ∷ d ∷ cs) last t known = absurd (cc)
recorded_more kind (g ∷ h ∷ gs) [] last t known = absurd (cc)
recorded_more kind (g ∷ h ∷ gs) (c ∷ cs) last t known =
    let first : c ≡ cut_entry kind g = cc in
    let rest : cs ++ last ∷ [] ≡ map (cut_entry kind) (h ∷ gs) = cc in
    rw first (ap (λ (l : List Entry). cut_entry kind g ∷ l) (recorded_more kind (h ∷ gs) cs last t rest))

-- So a recorder with a key's postings has them with one more token of the key, once that is recorded.
pub postings_more : (kind : IndexRecordOption) (ts : List IndexToken) (t : IndexToken) (closed : List Entry) (last : Entry) → closed ++ last ∷ [] ≡ map (cut_entry kind) (grouped ts) → map (cut_entry kind) (grouped (ts ++ t ∷ [])) ≡ closed ++ recorded_after kind last t
postings_more kind ts t closed last known = ap (map (cut_entry kind)) (grouped_more ts t) ∙ recorded_more kind (grouped ts) closed last t known
