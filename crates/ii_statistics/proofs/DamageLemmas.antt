-- Why something isn't counted: an allocation failure, or the first damage.
use Rattle.std.proofs.Common.{◌≡◌, ◌∙◌, inl, inr, ℕ, List, Option, None, Some, Result, Ok, Err, ap, length, sym}
use Rattle.std.specs.Prelude.{IfErr, IfOk}
use Rattle.ii_base.specs.Entries.{Entry}
use Rattle.ii_io.specs.declared.faults.Fault.{Fault}
use Rattle.ii_io.specs.declared.faults.Part.{Part}
use Rattle.ii_ranking.specs.Scores.{IsScoreFault, damage_of, first_of}
use Rattle.ii_reader.specs.InvertedIndexReader.{IsRefusal}
use Rattle.ii_statistics.specs.Statistics.{num_found}

-- the second of two, if there is no first
pub damaged_later : (d other : Option Part) (fault : Fault) → d ≡ None → IsScoreFault other fault → IsScoreFault (first_of d other) fault
damaged_later d other fault none (inl memory) = inl memory
damaged_later d other fault none (inr (part, is, damage)) = inr (part, is, ap (λ (e : Option Part). first_of e other) none ∙ damage)

-- a fault of what comes first is one of both
pub damaged_before : (d other : Option Part) (fault : Fault) → IsScoreFault d fault → IsScoreFault (first_of d other) fault
damaged_before d other fault (inl memory) = inl memory
damaged_before d other fault (inr (part, is, damage)) = inr (part, is, ap (λ (e : Option Part). first_of e other) damage)

-- no damage in either
pub sound_both : (d other : Option Part) → d ≡ None → other ≡ None → first_of d other ≡ None
sound_both d other none also = ap (λ (e : Option Part). first_of e other) none ∙ also

pub number_found : (found : Result (List Entry) Part) (n : ℕ) → (es : List Entry) × (found ≡ Ok es) × (n ≡ length es) → n ≡ num_found found
number_found found n (es, is, many) = many ∙ sym (ap num_found is)

pub refusal_damage : (found : Result (List Entry) Part) (fault : Fault) → IsRefusal found fault → IsScoreFault (damage_of found) fault
refusal_damage found fault (inl memory) = inl memory
refusal_damage found fault (inr (part, is, err)) = inr (part, is, ap damage_of err)

-- a number of what was found, and why it isn't counted
pub counted_found : (found : Result (List Entry) Part) (r : Result ℕ Fault) → IfOk r (λ n. (es : List Entry) × (found ≡ Ok es) × (n ≡ length es)) → IfOk r (λ n. n ≡ num_found found)
counted_found found (Ok n) listed = number_found found n listed
counted_found found (Err fault) listed = tt

pub refused_found : (found : Result (List Entry) Part) (r : Result ℕ Fault) → IfErr r (IsRefusal found) → IfErr r (IsScoreFault (damage_of found))
refused_found found (Ok n) refused = tt
refused_found found (Err fault) refused = refusal_damage found fault refused

-- a part isn't damaged where nothing is
pub some_damage : {P : Type 0} (part : Part) → ◌≡◌ {A = Option Part} (Some part) None → P
some_damage part is = absurd (cc)
