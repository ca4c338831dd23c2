-- What is known of the open documents of fields.
use Rattle.std.proofs.Common.{◌≡◌, ℕ, zero, suc, ◌-◌, ◌<◌, ◌≤◌, ◌==◌, min, Bool, true, false, List, [], ◌∷◌, ◌++◌, length, replicate, get_or, Some, None, Option, refl, sym, ap, ◌∙◌, subst, arith, length-append}
use Rattle.std.specs.Prelude.{slice_get, slice_set, IfSome, nat_le, nat_lt}
use Rattle.std.specs.Option.{option_flatten, option_map}
use Rattle.std.proofs.lemmas.Bool.{eqb-true, eq-eqb, leb-true}
use Rattle.std.proofs.lemmas.List.{get_or-replicate, get_or_append_left, length-replicate}
use Rattle.std.proofs.Math.Seq.{get_or-append_seam}
use Rattle.ii_fieldnorm.specs.Buffers.{Buffers, buffer_of, recorded, recorded_buffers}
use Rattle.ii_fieldnorm.specs.Norms.{id_of_norm, norm_of_id}
use Rattle.ii_fieldnorm.proofs.NormLemmas.{id_of_norm-found}
use Rattle.ii_definitions.specs.Tokens.{IndexToken, Piece}
use Rattle.ii_definitions.specs.Postings.{doc_count}
use Rattle.ii_recorder.specs.Recorded.{u32_max}
use Rattle.ii_indexing.specs.OpenDocuments.{AreBehind, HasNorms, OpenDocumentsState, ReachTo, Tells, TellsAll, document_at, empty_document}
use Rattle.ii_indexing.specs.declared.open_documents.OpenDocument.{OpenDocument}
use Rattle.ii_indexing.proofs.StoreLaws.{set_other}

top : (m : ℕ) → u32_max ≤ m → id_of_norm m ≡ 255
unfolding norm_of_id
top m h = id_of_norm-found m 255 (omega arith) (omega (arith, h)) (λ more. absurd (omega (arith, more)))

-- the norm of a document with more tokens than 32 bits have is that of the greatest number
pub norm_capped : (n : ℕ) → id_of_norm (min n u32_max) ≡ id_of_norm n
norm_capped n = by (nat_le n u32_max) refl
  where
    by : (b : Bool) → nat_le n u32_max ≡ b → id_of_norm (min n u32_max) ≡ id_of_norm n
    by true is = ap id_of_norm (omega (arith, leb-true n u32_max is))
    by false is =
        let over : u32_max ≤ n = grind (arith, is) in
        let cut : min n u32_max ≡ u32_max = omega (arith, over) in
        ap id_of_norm cut ∙ top u32_max (omega arith) ∙ sym (top n over)

past_end : (xs : List ℕ) (i d : ℕ) → length xs ≤ i → get_or xs i d ≡ d
past_end [] i d h = refl
past_end (x ∷ xs) zero d h = absurd (omega (arith, h))
past_end (x ∷ xs) (suc i) d h = past_end xs i d (omega (arith, h))

zeros : (k i : ℕ) → get_or {A = ℕ} (replicate k 0) i 0 ≡ 0
zeros k i = by (nat_lt i k) refl
  where
    by : (b : Bool) → nat_lt i k ≡ b → get_or {A = ℕ} (replicate k 0) i 0 ≡ 0
    by true is = get_or-replicate {A = ℕ} k i 0 0 (grind (arith, is))
    by false is =
        let over : k ≤ i = grind (arith, is) in
        past_end (replicate k 0) i 0 (omega (arith, length-replicate {A = ℕ} k 0, over))

padded : (xs : List ℕ) (k i : ℕ) → get_or (xs ++ replicate k 0) i 0 ≡ get_or xs i 0
padded [] k i = zeros k i
padded (x ∷ xs) k zero = refl
padded (x ∷ xs) k (suc i) = padded xs k i

pub at_same : (d : OpenDocument) (doc : ℕ) → d.doc ≡ doc → document_at doc d ≡ d
at_same d doc is = rw (eq-eqb d.doc doc is) refl

pub at_other : (d : OpenDocument) (doc : ℕ) → (d.doc == doc) ≡ false → document_at doc d ≡ empty_document doc
at_other d doc other = rw other refl

zero_norm : id_of_norm 0 ≡ 0
unfolding id_of_norm norm_of_id
zero_norm = refl

-- the norm of one more document
pub norms_recorded : (field : ℕ) (ts : List IndexToken) (d : OpenDocument) (doc : ℕ) (ids : List ℕ) → d.doc < doc → length ids ≤ d.doc
    → ((x : ℕ) → d.doc ≤ x → min (doc_count x field ts) u32_max ≡ (document_at x d).norm) → HasNorms field ts d.doc ids → HasNorms field ts doc (recorded d.doc d.norm ids)
norms_recorded field ts d doc ids above behind counts h x low = by (nat_lt x d.doc) (x == d.doc) refl refl
  where
    ys : List ℕ
    ys = ids ++ replicate (d.doc - length ids) 0

    len : length ys ≡ d.doc
    len = omega (arith, length-append ids (replicate (d.doc - length ids) 0), length-replicate {A = ℕ} (d.doc - length ids) 0, behind)

    by : (b c : Bool) → nat_lt x d.doc ≡ b → (x == d.doc) ≡ c → get_or (ys ++ id_of_norm d.norm ∷ []) x 0 ≡ id_of_norm (doc_count x field ts)
    by true c before at =
        let inside : x < d.doc = grind (arith, before) in
        get_or_append_left ys (id_of_norm d.norm ∷ []) 0 x (omega (arith, len, inside)) ∙ padded ids (d.doc - length ids) x ∙ h x inside
    by false true before at =
        let is : x ≡ length ys = eqb-true x d.doc at ∙ sym len in
        let count : d.norm ≡ min (doc_count x field ts) u32_max = sym (counts x (omega (arith, eqb-true x d.doc at)) ∙ ap (λ (e : OpenDocument). e.norm) (at_same d x (sym (eqb-true x d.doc at)))) in
        ap (λ (i : ℕ). get_or (ys ++ id_of_norm d.norm ∷ []) i 0) is ∙ get_or-append_seam ys (id_of_norm d.norm) [] 0 ∙ ap id_of_norm count ∙ norm_capped (doc_count x field ts)
    by false false before at =
        let after : d.doc < x = grind (arith, before, at) in
        let past = past_end (ys ++ id_of_norm d.norm ∷ []) x 0 (omega (arith, length-append ys (id_of_norm d.norm ∷ []), len, after)) in
        let none : min (doc_count x field ts) u32_max ≡ 0 = counts x (omega (arith, after)) ∙ ap (λ (e : OpenDocument). e.norm) (at_other d x (grind (arith, after))) in
        let count : doc_count x field ts ≡ 0 = omega (arith, none) in
        past ∙ sym (ap id_of_norm count ∙ zero_norm)

pub at_empty : (doc other : ℕ) → document_at other (empty_document doc) ≡ empty_document other
at_empty doc other = by (doc == other) refl
  where
    by : (b : Bool) → (doc == other) ≡ b → document_at other (empty_document doc) ≡ empty_document other
    by true same = rw same (ap empty_document (eqb-true doc other same))
    by false is = rw is refl

-- a document that wasn't opened in the field before
pub tells_opened : (field : ℕ) (ps : List Piece) (ts : List IndexToken) (d : OpenDocument) (doc : ℕ) (ids : Option (List ℕ)) → d.doc < doc → IfSome ids (λ i. length i ≤ d.doc)
    → Tells field ps ts d ids → Tells field ps ts (empty_document doc) (option_map (recorded d.doc d.norm) ids)
tells_opened field ps ts d doc ids above behind h = record {
  begin = λ x from. h.begin x (omega (arith, above, from)) ∙ ap (λ (e : OpenDocument). e.end_position) (same x from);
  group = λ x from. h.group x (omega (arith, above, from)) ∙ ap (λ (e : OpenDocument). e.num_tokens) (same x from);
  count = λ x from. h.count x (omega (arith, above, from)) ∙ ap (λ (e : OpenDocument). e.norm) (same x from);
  norms = by ids behind h.norms;
}
  where
    same : (x : ℕ) → doc ≤ x → document_at x d ≡ document_at x (empty_document doc)
    same x from = at_other d x (grind (arith, above, from)) ∙ sym (at_empty doc x)

    by : (o : Option (List ℕ)) → IfSome o (λ i. length i ≤ d.doc) → IfSome o (HasNorms field ts d.doc) → IfSome (option_map (recorded d.doc d.norm) o) (HasNorms field ts doc)
    by None b n = n
    by (Some i) b n = norms_recorded field ts d doc i above b h.count n

pub set_value : {A : Type 0} (xs : List A) (i : ℕ) (w d : A) → slice_get (slice_set xs i w) i ≡ Some d → d ≡ w
set_value [] i w d is = absurd (cc)
set_value (y ∷ xs) zero w d is = cc
set_value (y ∷ xs) (suc i) w d is = set_value xs i w d is

pub buffer_set : (bs : Buffers) (field : ℕ) (g : List ℕ → List ℕ) → buffer_of field (slice_set bs field (option_map g (buffer_of field bs))) ≡ option_map g (buffer_of field bs)
buffer_set [] field g = refl
buffer_set (b ∷ bs) zero g = refl
buffer_set (b ∷ bs) (suc field) g = buffer_set bs field g

pub buffer_other : (bs : Buffers) (field other : ℕ) (b : Option (List ℕ)) → (field == other) ≡ false → buffer_of other (slice_set bs field b) ≡ buffer_of other bs
buffer_other bs field other b is = ap option_flatten (set_other bs field other b is)

-- What holds of each field holds once one was changed.
pub each_field : (P : ℕ → OpenDocument → Option (List ℕ) → Type 0) (s : OpenDocumentsState) (field : ℕ) (last now : OpenDocument) → P field now (option_map (recorded last.doc last.norm) (buffer_of field s.norms))
    → ((f : ℕ) (d : OpenDocument) → slice_get s.documents f ≡ Some d → P f d (buffer_of f s.norms))
    → (f : ℕ) (d : OpenDocument) → slice_get (slice_set s.documents field now) f ≡ Some d → P f d (buffer_of f (recorded_buffers field last.doc last.norm s.norms))
each_field P s field last now here others f d is = by (field == f) refl
  where
    by : (b : Bool) → (field == f) ≡ b → P f d (buffer_of f (recorded_buffers field last.doc last.norm s.norms))
    by true same =
        let at = eqb-true field f same in
        let value : d ≡ now = set_value s.documents field now d (subst (λ (g : ℕ). slice_get (slice_set s.documents field now) g ≡ Some d) (sym at) is) in
        let buffer = buffer_set s.norms field (recorded last.doc last.norm) in
        subst (λ (g : ℕ). P g d (buffer_of g (recorded_buffers field last.doc last.norm s.norms))) at
        (subst (λ (e : OpenDocument). P field e (buffer_of field (recorded_buffers field last.doc last.norm s.norms))) (sym value) (subst (λ (o : Option (List ℕ)). P field now o) (sym buffer) here))
    by false other =
        let found : slice_get s.documents f ≡ Some d = sym (set_other s.documents field f now other) ∙ is in
        subst (λ (o : Option (List ℕ)). P f d o) (sym (buffer_other s.norms field f (option_map (recorded last.doc last.norm) (buffer_of field s.norms)) other)) (others f d found)

behind_recorded : (last : OpenDocument) (doc : ℕ) (ids : Option (List ℕ)) → last.doc < doc → IfSome ids (λ i. length i ≤ last.doc) → IfSome (option_map (recorded last.doc last.norm) ids) (λ i. length i ≤ doc)
behind_recorded last doc None above h = h
behind_recorded last doc (Some i) above h =
    omega (arith, length-append (i ++ replicate (last.doc - length i) 0) (id_of_norm last.norm ∷ []), length-append i (replicate (last.doc - length i) 0), length-replicate {A = ℕ} (last.doc - length i) 0, above, h)

-- the new document of a field, in all three respects
pub opened_behind : (s : OpenDocumentsState) (field doc : ℕ) (last : OpenDocument) → slice_get s.documents field ≡ Some last → last.doc < doc → AreBehind s
    → AreBehind (record { documents = slice_set s.documents field (empty_document doc); norms = recorded_buffers field last.doc last.norm s.norms })
opened_behind s field doc last found above h =
    each_field (λ (f : ℕ) (d : OpenDocument) (ids : Option (List ℕ)). IfSome ids (λ i. length i ≤ d.doc)) s field last (empty_document doc)
    (behind_recorded last doc (buffer_of field s.norms) above (h field last found)) h

pub opened_reach : (s : OpenDocumentsState) (field doc : ℕ) (last : OpenDocument) → ReachTo doc s
    → ReachTo doc (record { documents = slice_set s.documents field (empty_document doc); norms = recorded_buffers field last.doc last.norm s.norms })
opened_reach s field doc last h = each_field (λ (f : ℕ) (d : OpenDocument) (ids : Option (List ℕ)). d.doc ≤ doc) s field last (empty_document doc) (omega arith) h

pub opened_tells : (ps : List Piece) (ts : List IndexToken) (s : OpenDocumentsState) (field doc : ℕ) (last : OpenDocument) → slice_get s.documents field ≡ Some last → last.doc < doc → AreBehind s → TellsAll ps ts s
    → TellsAll ps ts (record { documents = slice_set s.documents field (empty_document doc); norms = recorded_buffers field last.doc last.norm s.norms })
opened_tells ps ts s field doc last found above behind h =
    each_field (λ (f : ℕ) (d : OpenDocument) (ids : Option (List ℕ)). Tells f ps ts d ids) s field last (empty_document doc)
    (tells_opened field ps ts last doc (buffer_of field s.norms) above (behind field last found) (h field last found)) h
