-- The tokens of a text, taken one after the other.
use Rattle.std.proofs.Common.{◌≡◌, ◌∙◌, ℕ, ◌-◌, ◌&&◌, List, [], ◌∷◌, ◌++◌, append_assoc, cond, drop, nat_le, nat_lt, Some, None, refl}
use Rattle.std.specs.Prelude.{slice_get}
use Rattle.ii_base.specs.Terms.{TermState}
use Rattle.ii_base.specs.Words.{Word}
use Rattle.ii_json.proofs.KnownPaths.{some_if}
use Rattle.ii_query_parser.specs.declared.query.PhraseTerm.{PhraseTerm}
use Rattle.ii_query_parser.specs.QueryTexts.{stand_after, terms_after, word_term}

-- The words so far stand after a place, and their terms come before those of the words that are left.
pub record IsTaking (prefix : TermState) (first : ℕ) (all left : List Word) (others : List PhraseTerm) : Type 0 where
  pub passed : stand_after first all ≡ stand_after first left
  pub terms : others ++ terms_after prefix first left ≡ terms_after prefix first all

-- one word more
pub takes_more : (prefix : TermState) (first distance : ℕ) (all left later : List Word) (others more : List PhraseTerm) (w : Word) (t : TermState) → IsTaking prefix first all left others → slice_get left 0 ≡ Some w → later ≡ drop 1 left
    → Some distance ≡ cond (nat_le first w.position && nat_lt (w.position - first) 4294967296) (Some (w.position - first)) None → t ≡ word_term prefix w.text → more ≡ others ++ record { distance = distance; term = t } ∷ [] → IsTaking prefix first all later more
takes_more prefix first distance all [] later others more w t i here on far is more_is = absurd (cc)
takes_more prefix first distance all (x ∷ left) later others more w t i here on far is more_is =
    let same : x ≡ w = cc in
    let after = some_if (nat_le first w.position && nat_lt (w.position - first) 4294967296) (w.position - first) distance far in
    record {
      passed = i.passed ∙ rw (same, after.0, on) refl;
      terms = rw (on, more_is, after.1, is) (append_assoc others (record { distance = w.position - first; term = word_term prefix w.text } ∷ []) (terms_after prefix first left) ∙ (rw same at i.terms));
    }
