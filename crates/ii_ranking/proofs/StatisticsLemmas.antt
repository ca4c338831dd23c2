-- Laws of numbers that were gathered.
use Rattle.std.proofs.Common.{◌≡◌, ◌∙◌, ◌==◌, ◌&&◌, ℕ, ◌+◌, ◌<◌, ◌≤◌, Bool, true, false, List, [], ◌∷◌, ◌++◌, add-one, drop, get_or, if◌then◌else◌, length, refl, ap}
use Rattle.std.proofs.Math.Seq.{drop-cons}
use Rattle.std.proofs.lemmas.List.{drop_all}
use Rattle.std.specs.Prelude.{bytes_eq}
use Rattle.ii_base.specs.Terms.{TermState}
use Rattle.ii_ranking.specs.declared.statistics.TermCount.{TermCount}
use Rattle.ii_ranking.specs.Statistics.{doc_freq_after, doc_freq_in, is_of}

-- a place among the numbers
count_at : (counts : List TermCount) (i : ℕ) (c : TermCount) → i < length counts → c ≡ get_or counts i c → drop i counts ≡ c ∷ drop (i + 1) counts
count_at counts i c inside is = drop-cons counts i c inside ∙ rw (← is, add-one i) refl

-- a number that is of the key
pub count_here : (counts : List TermCount) (i : ℕ) (c : TermCount) (field : ℕ) (key : List ℕ) → i < length counts → c ≡ get_or counts i c → is_of field key c ≡ true → doc_freq_in (drop i counts) field key ≡ c.doc_freq
count_here counts i c field key inside is test = ap (λ (cs : List TermCount). doc_freq_in cs field key) (count_at counts i c inside is) ∙ (rw test refl)

-- no number is left
pub count_none : (counts : List TermCount) (i field : ℕ) (key : List ℕ) → length counts ≤ i → doc_freq_in (drop i counts) field key ≡ 0
count_none counts i field key over = ap (λ (cs : List TermCount). doc_freq_in cs field key) (drop_all i counts over)

-- a number that was set after others
pub count_pushed : (counts : List TermCount) (c : TermCount) (term : TermState) (doc_freq field : ℕ) (key : List ℕ) → c.field ≡ term.field → c.key.items ≡ term.value → c.doc_freq ≡ doc_freq
    → doc_freq_in (counts ++ c ∷ []) field key ≡ doc_freq_after counts term doc_freq field key
count_pushed [] c term doc_freq field key field_is key_is freq_is = (λ j. if (field_is j == field) && bytes_eq (key_is j) key then freq_is j else 0)
count_pushed (d ∷ counts) c term doc_freq field key field_is key_is freq_is = by (is_of field key d) refl (count_pushed counts c term doc_freq field key field_is key_is freq_is)
  where
    by : (b : Bool) → is_of field key d ≡ b → doc_freq_in (counts ++ c ∷ []) field key ≡ doc_freq_after counts term doc_freq field key → doc_freq_in ((d ∷ counts) ++ c ∷ []) field key ≡ doc_freq_after (d ∷ counts) term doc_freq field key
    by true is later = rw is refl
    by false is later = rw is later
