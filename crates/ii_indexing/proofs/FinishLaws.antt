-- What is known of the norms once all calls were indexed.
use Rattle.std.proofs.Common.{◌≡◌, ℕ, zero, suc, ◌<◌, ◌≤◌, ◌^◌, Bool, true, false, List, [], ◌∷◌, map, length, Option, Some, None, refl, sym, ap, ◌∙◌, arith}
use Rattle.std.specs.Prelude.{MatchOption, is_some, ⊤, if◌then◌else◌}
use Rattle.std.proofs.lemmas.List.FromFn.{length-map-range_with_len}
use Rattle.ii_io.specs.Composite.{Body, body_of, composite}
use Rattle.ii_base.specs.Schema.{SchemaEntry, keeps_norms}
use Rattle.ii_base.specs.declared.doc_id.TheConstants.{TERMINATED}
use Rattle.ii_fieldnorm.specs.Buffers.{Buffers, buffer_of}
use Rattle.ii_fieldnorm.specs.Norms.{id_of_norm}
use Rattle.ii_definitions.specs.Postings.{doc_count}
use Rattle.ii_definitions.specs.Tokens.{IndexToken}
use Rattle.ii_postings_writer.specs.FieldParts.{AreShortNorms}
use Rattle.ii_definitions.specs.Norms.{HoldNorms, has_norms, norm_file, norm_ids}
use Rattle.ii_indexing.specs.OpenDocuments.{HaveNormsOf, with_norms}

-- the fields with norms are those of the schema
pub norm_at : (bs : Buffers) (entries : List SchemaEntry) (field : ℕ) → with_norms bs ≡ map keeps_norms entries → is_some (buffer_of field bs) ≡ has_norms entries field
norm_at [] [] field same = refl
norm_at [] (e ∷ es) field same = absurd (cc)
norm_at (b ∷ bs) [] field same = absurd (cc)
norm_at (b ∷ bs) (e ∷ es) zero same = cc
norm_at (b ∷ bs) (e ∷ es) (suc field) same = norm_at bs es field (rest same)
  where
    rest : with_norms (b ∷ bs) ≡ map keeps_norms (e ∷ es) → with_norms bs ≡ map keeps_norms es
    rest is = cc

-- they are norms of all documents
pub counted_bodies : (entries : List SchemaEntry) (n : ℕ) (bytes : List ℕ) (ts : List IndexToken) (readers : List Body) → HoldNorms entries n bytes ts → composite bytes ≡ Some readers → HaveNormsOf n readers
counted_bodies entries n bytes ts readers h opened field = by (has_norms entries field) (ap (body_of field) same ∙ h.exact field)
  where
    inside : Some readers ≡ Some (norm_file entries n ts) → readers ≡ norm_file entries n ts
    inside is = cc

    same : readers ≡ norm_file entries n ts
    same = inside (sym opened ∙ h.opened)

    by : (b : Bool) → body_of field readers ≡ (if b then Some (norm_ids n field ts) else None) → MatchOption (body_of field readers) ⊤ (λ (ids : List ℕ). length ids ≡ n)
    by true is = rw is (length-map-range_with_len (λ (doc : ℕ). id_of_norm (doc_count doc field ts)) 0 n)
    by false is = rw is tt

-- so their numbers fit
pub short_bodies : (entries : List SchemaEntry) (n : ℕ) (bytes : List ℕ) (ts : List IndexToken) (readers : List Body) → n ≤ TERMINATED → HoldNorms entries n bytes ts → composite bytes ≡ Some readers → AreShortNorms readers
short_bodies entries n bytes ts readers low h opened field = by (body_of field readers) (counted_bodies entries n bytes ts readers h opened field)
  where
    by : (o : Option (List ℕ)) → MatchOption o ⊤ (λ (ids : List ℕ). length ids ≡ n) → MatchOption o ⊤ (λ (ids : List ℕ). length ids < 2 ^ 32)
    by None many = tt
    by (Some ids) many = omega (arith, low, many)

pub with_length : (bs : Buffers) (entries : List SchemaEntry) → with_norms bs ≡ map keeps_norms entries → length bs ≡ length entries
with_length [] [] same = refl
with_length [] (e ∷ es) same = absurd (cc)
with_length (b ∷ bs) [] same = absurd (cc)
with_length (b ∷ bs) (e ∷ es) same = ap (λ (n : ℕ). suc n) (with_length bs es (rest same))
  where
    rest : with_norms (b ∷ bs) ≡ map keeps_norms (e ∷ es) → with_norms bs ≡ map keeps_norms es
    rest is = cc

pub none_of : (bytes : List ℕ) (bodies : List Body) → composite bytes ≡ Some bodies → composite bytes ≡ None → ⊥
none_of bytes bodies some none =
    let same : Some bodies ≡ None = sym some ∙ none in
    absurd (cc)
