-- Totals of the walked lists.
use Rattle.std.proofs.Common.{◌≡◌, ◌∙◌, ◌+◌, ◌≤◌, ℕ, suc, List, [], ◌∷◌, ◌++◌, append-nil, append_assoc, drop, length, min, Option, None, Some, Ok, Err, refl, sym, ap, subst, arith, add-one}
use Rattle.std.specs.Prelude.{Result, slice_get}
use Rattle.std.specs.List.{cons_option, enumerate_from, filter_map, sum_by}
use Rattle.std.specs.Option.{option_to_list}
use Rattle.std.specs.Result.{OnOk, result_ok}
use Rattle.std.proofs.lemmas.List.Sums.{sum_by_push}
use Rattle.ii_io.specs.declared.faults.Part.{Part}
use Rattle.ii_base.specs.Schema.{SchemaEntry}
use Rattle.ii_reader.specs.InvertedIndexReader.{InvertedIndexReaderState}
use Rattle.ii_directory.specs.declared.name.Kind.{Kind}
use Rattle.ii_damage.specs.declared.checking.Totals.{Totals}
use Rattle.ii_damage.specs.declared.walking.TermWalk.{TermWalk}
use Rattle.ii_damage.specs.Damages.{FoundDamageState, IndexFiles, field_damages, field_entries, field_reader, max_u64}
use Rattle.ii_damage.specs.Totals.{AddsTotals, HasTotals, opened_reader, opened_readers}
use Rattle.ii_damage.specs.Walked.{HasWalked, total_positions}
use Rattle.ii_damage.proofs.ListedLemmas.{IsFinding, field_at, finding_next, none_left}

-- one more reader, whose lists were walked
pub one_total : (n terms : ℕ) (rs : List InvertedIndexReaderState) (r : InvertedIndexReaderState) (walk : TermWalk) (old new : Totals) → new.terms ≡ min (old.terms + terms) max_u64 → new.postings ≡ min (old.postings + walk.postings) max_u64
    → new.positions ≡ min (old.positions + walk.positions) max_u64 → terms ≡ length r.terms → HasWalked n (field_entries r) walk → HasTotals rs old → HasTotals (rs ++ r ∷ []) new
one_total n terms rs r walk old new t p q is walked h = record {
  terms =
      let all : sum_by (λ (x : InvertedIndexReaderState). length x.terms) (rs ++ r ∷ []) ≡ sum_by (λ (x : InvertedIndexReaderState). length x.terms) rs + length r.terms = sum_by_push (λ (x : InvertedIndexReaderState). length x.terms) rs r in
      let before = h.terms in
      omega (arith, t, is, all, before);
  postings =
      let all : sum_by (λ (x : InvertedIndexReaderState). length (field_entries x)) (rs ++ r ∷ []) ≡ sum_by (λ (x : InvertedIndexReaderState). length (field_entries x)) rs + length (field_entries r) = sum_by_push (λ (x : InvertedIndexReaderState). length (field_entries x)) rs r in
      let before = h.postings in
      let here = walked.postings in
      omega (arith, p, all, before, here);
  positions =
      let all : sum_by (λ (x : InvertedIndexReaderState). total_positions (field_entries x)) (rs ++ r ∷ []) ≡ sum_by (λ (x : InvertedIndexReaderState). total_positions (field_entries x)) rs + total_positions (field_entries r) = sum_by_push (λ (x : InvertedIndexReaderState). total_positions (field_entries x)) rs r in
      let before = h.positions in
      let here = walked.positions in
      omega (arith, q, all, before, here);
}

-- What a loop over the fields knows of the totals: the readers so far, in front of those of the fields that are left, are all.
pub record IsCounting (entries : List SchemaEntry) (files : IndexFiles) (id : ℕ) (found : List FoundDamageState) (old now : Totals) : Type 0 where
  pub finding : IsFinding entries files id found
  pub done : List InvertedIndexReaderState
  pub whole : opened_readers entries files ≡ done ++ filter_map (opened_reader files) (drop id (enumerate_from 0 entries))
  pub adds : AddsTotals done old now

front : (o : Option InvertedIndexReaderState) (rs : List InvertedIndexReaderState) → cons_option o rs ≡ option_to_list o ++ rs
front None rs = refl
front (Some r) rs = refl

pub counting_next : (entries : List SchemaEntry) (files : IndexFiles) (id : ℕ) (entry : SchemaEntry) (found more : List FoundDamageState) (old now then_now : Totals) → slice_get entries id ≡ Some entry → more ≡ found ++ field_damages files (id, entry)
    → AddsTotals (option_to_list (opened_reader files (id, entry))) now then_now → IsCounting entries files id found old now → IsCounting entries files (id + 1) more old then_now
counting_next entries files id entry found more old now then_now at is adds h =
    let same : 0 + id ≡ id = omega arith in
    let left : drop id (enumerate_from 0 entries) ≡ (id, entry) ∷ drop (suc id) (enumerate_from 0 entries) = subst (λ (k : ℕ). drop id (enumerate_from 0 entries) ≡ (k, entry) ∷ drop (suc id) (enumerate_from 0 entries)) same (field_at entries 0 id entry at) in
    let one = option_to_list (opened_reader files (id, entry)) in
    record {
      finding = finding_next entries files id entry found more at is h.finding;
      done = h.done ++ one;
      whole = rw add-one (h.whole ∙ ap (λ (l : List (ℕ × SchemaEntry)). h.done ++ filter_map (opened_reader files) l) left
          ∙ ap (λ (l : List InvertedIndexReaderState). h.done ++ l) (front (opened_reader files (id, entry)) (filter_map (opened_reader files) (drop (suc id) (enumerate_from 0 entries))))
          ∙ sym (append_assoc h.done one (filter_map (opened_reader files) (drop (suc id) (enumerate_from 0 entries)))));
      adds = λ rs has. subst (λ (l : List InvertedIndexReaderState). HasTotals l then_now) (append_assoc rs h.done one) (adds (rs ++ h.done) (h.adds rs has));
    }

pub counting_ends : (entries : List SchemaEntry) (files : IndexFiles) (id : ℕ) (found : List FoundDamageState) (old now : Totals) → length entries ≤ id → IsCounting entries files id found old now → AddsTotals (opened_readers entries files) old now
counting_ends entries files id found old now end h =
    let whole : opened_readers entries files ≡ h.done = h.whole ∙ ap (λ (l : List (ℕ × SchemaEntry)). h.done ++ filter_map (opened_reader files) l) (none_left entries 0 id end) ∙ append-nil h.done in
    subst (λ (l : List InvertedIndexReaderState). AddsTotals l old now) (sym whole) h.adds

-- what holds at any rate holds on Ok
pub always : {T E P : Type 0} (r : Result T E) → P → OnOk r P
always (Ok x) holds = holds
always (Err e) holds = tt
