-- What a map has of the texts at each path.
use Rattle.std.proofs.Common.{◌≡◌, ℕ, ◌==◌, Bool, true, false, refl, sym, ap, ◌∙◌, subst, Some, Option, List}
use Rattle.std.specs.Prelude.{if◌then◌else◌, nat_eq, unwrap_or}
use Rattle.std.specs.Map.{IsKeyTest, AreApart, KeepsOthers, lookup}
use Rattle.std.proofs.lemmas.Bool.{eqb-true}
use Rattle.std.proofs.lemmas.Cmp.{nat_eq_equiv}
use Rattle.indexmap.specs.IndexMap.{IndexMap, Updates, get_by}
use Rattle.ii_indexing.specs.OpenPaths.{PathPositions, no_texts, position_by}
use Rattle.ii_postings_writer.specs.declared.indexing_position.IndexingPosition.{IndexingPosition}

others : (test : ℕ → Bool) (old new : List (ℕ × IndexingPosition)) → KeepsOthers nat_eq test old new → (other : ℕ → Bool) → IsKeyTest nat_eq other → AreApart test other → lookup other new ≡ lookup other old
unfolding KeepsOthers
others test old new h = h

module _ {S : Type 0} where
  pub position_found : (m : IndexMap ℕ IndexingPosition S) (positions : PathPositions) (id : ℕ) (found : Option IndexingPosition) → m.entries ≡ positions → found ≡ get_by (nat_eq id) m → position_by id positions ≡ unwrap_or found no_texts
  position_found m positions id found is at = ap (position_by id) (sym is) ∙ ap (λ (o : Option IndexingPosition). unwrap_or o no_texts) (sym at)

  pub position_put : (m n : IndexMap ℕ IndexingPosition S) (id : ℕ) (position : IndexingPosition) (positions : PathPositions) → Updates nat_eq m n id (Some position) → m.entries ≡ positions
      → (other : ℕ) → position_by other n.entries ≡ (if id == other then position else position_by other positions)
  position_put m n id position positions h is other = by (id == other) refl
    where
      apart : (id == other) ≡ false → AreApart (nat_eq id) (nat_eq other)
      apart differs k same = nat_eq_equiv.symm other k ∙ ap (λ (i : ℕ). nat_eq i other) (sym (eqb-true id k same)) ∙ differs

      by : (b : Bool) → (id == other) ≡ b → position_by other n.entries ≡ (if b then position else position_by other positions)
      by true same = subst (λ (i : ℕ). position_by i n.entries ≡ position) (eqb-true id other same) (ap (λ (o : Option IndexingPosition). unwrap_or o no_texts) h.1)
      by false differs =
          ap (λ (o : Option IndexingPosition). unwrap_or o no_texts) (others (nat_eq id) m.entries n.entries h.3 (nat_eq other) (λ x y. nat_eq_equiv.congr other x y) (apart differs))
          ∙ ap (position_by other) is
