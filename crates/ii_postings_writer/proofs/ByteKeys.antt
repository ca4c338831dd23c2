-- Maps whose keys are bytes.
use Rattle.std.proofs.Common.{◌≡◌, ℕ, Bool, true, false, List, [], ◌∷◌, map, cond, refl, sym, ◌∙◌, Some, Option, subst}
use Rattle.std.specs.Prelude.{bytes_eq}
use Rattle.std.specs.Map.{lookup, IsKeyTest, AreApart, KeepsOthers}
use Rattle.std.specs.Option.{option_map}
use Rattle.std.proofs.lemmas.Cmp.{nat_list_eq_equiv}
use Rattle.std.proofs.lemmas.Slice.Eq.{bytes_eq-Decides}
use Rattle.indexmap.specs.IndexMap.{IndexMap, UpdatesBy, get_by}

abbrev pub Key : Type 0
Key = List ℕ

abbrev pub is_key : List ℕ → Key → Bool
is_key bytes k = bytes_eq bytes k

-- what a key has, by its bytes and as it is seen
pub lookup_seen : {V W : Type 0} (f : V → W) (es : List (Key × V)) (bytes : List ℕ) → lookup (bytes_eq bytes) (map (λ (e : Key × V). (e.0, f e.1)) es) ≡ option_map f (lookup (is_key bytes) es)
lookup_seen f [] bytes = refl
lookup_seen {V} {W} f (e ∷ es) bytes = by (bytes_eq bytes e.0) (lookup_seen f es bytes)
  where
    by : (b : Bool) → lookup (bytes_eq bytes) (map (λ (d : Key × V). (d.0, f d.1)) es) ≡ option_map f (lookup (is_key bytes) es)
        → cond b (Some (f e.1)) (lookup (bytes_eq bytes) (map (λ (d : Key × V). (d.0, f d.1)) es)) ≡ option_map f (cond b (Some e.1) (lookup (is_key bytes) es))
    by true rest = refl
    by false rest = rest

others : {K X : Type 0} (eq : K → K → Bool) (test : K → Bool) (old new : List (K × X)) → KeepsOthers eq test old new
    → (other : K → Bool) → IsKeyTest eq other → AreApart test other → lookup other new ≡ lookup other old
unfolding KeepsOthers
others eq test old new h = h

apart : (bs cs ks : List ℕ) → bytes_eq bs cs ≡ false → bytes_eq bs ks ≡ true → bytes_eq cs ks ≡ false
apart bs cs ks n y = nat_list_eq_equiv.symm cs ks ∙ sym (nat_list_eq_equiv.congr bs ks cs y) ∙ n

module _ {S V : Type 0} where
  -- the keys after an update of a key
  pub updated : (bs : List ℕ) (m n : IndexMap Key V S) (w : Option V) → UpdatesBy bytes_eq (is_key bs) m n w
      → (cs : List ℕ) → get_by (is_key cs) n ≡ cond (bytes_eq bs cs) w (get_by (is_key cs) m)
  updated bs m n w h cs = by (bytes_eq bs cs) refl
    where
      by : (b : Bool) → bytes_eq bs cs ≡ b → get_by (is_key cs) n ≡ cond b w (get_by (is_key cs) m)
      by true is = subst (λ (l : List ℕ). get_by (is_key l) n ≡ w) ((bytes_eq-Decides bs cs).0 is) h.1
      by false is = others bytes_eq (is_key bs) m.entries n.entries h.3 (is_key cs) (λ x y. nat_list_eq_equiv.congr cs x y) (λ k. apart bs cs k is)

  pub updates_at : (k : Key) (bs : List ℕ) → k ≡ bs → (m n : IndexMap Key V S) (w : Option V)
      → UpdatesBy bytes_eq (is_key k) m n w → UpdatesBy bytes_eq (is_key bs) m n w
  updates_at k bs e m n w h = subst (λ (l : List ℕ). UpdatesBy bytes_eq (is_key l) m n w) e h
