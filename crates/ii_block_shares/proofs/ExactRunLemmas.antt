-- Laws of the runs of a list, each with the byte of its greatest share.
use Rattle.std.proofs.Common.{◌≡◌, ◌⊎◌, ◌∙◌, ℕ, zero, suc, ◌+◌, ◌-◌, ◌*◌, ◌/◌, ◌<◌, ◌≤◌, inl, inr, List, [], ◌∷◌, ◌++◌, drop, length, length-append, max, refl, sym, ap, subst, take, arith}
use Rattle.std.proofs.lemmas.List.{drop-drop, drop_all, length-drop, take_all}
use Rattle.std.proofs.lemmas.List.FromFn.{map-range_with_len_more}
use Rattle.ii_base.specs.Entries.{Entry}
use Rattle.ii_base.specs.declared.doc_id.TheConstants.{TERMINATED}
use Rattle.ii_docset.specs.Cursor.{IsAscending, doc_at}
use Rattle.ii_docset.proofs.CursorLemmas.{length_step, nothing_left}
use Rattle.ii_block_shares.specs.BlockShares.{end_of_run, first_runs, greatest_share, run_of, runs_of, share_byte}
use Rattle.ii_block_shares.specs.declared.block_shares.BlockShare.{BlockShare}

-- ---- the entries of a run
-- So many entries of a list were taken: their greatest share, and the document after the last.
pub record TakesFirst (share : Entry → ℕ) (n greatest end : ℕ) (all rest : List Entry) : Type 0 where
  pub greatest_is : greatest ≡ greatest_share share (take n all)
  pub end_is : end ≡ end_of_run (take n all)
  pub rest_is : rest ≡ drop n all

-- one entry more
share_more : (share : Entry → ℕ) (given n : ℕ) (all : List Entry) → doc_at (drop n all) < TERMINATED → ((e : Entry) (es : List Entry) → drop n all ≡ e ∷ es → given ≡ share e)
    → greatest_share share (take (suc n) all) ≡ max (greatest_share share (take n all)) given
share_more share given zero [] low value = absurd (omega (arith, low))
share_more share given (suc n) [] low value = absurd (omega (arith, low))
share_more share given zero (e ∷ es) low value = let is = value e es refl in omega (arith, is)
share_more share given (suc n) (e ∷ es) low value = let later = share_more share given n es low value in omega (arith, later)

end_more : (n : ℕ) (all : List Entry) → doc_at (drop n all) < TERMINATED → end_of_run (take (suc n) all) ≡ max (end_of_run (take n all)) (doc_at (drop n all) + 1)
end_more zero [] low = absurd (omega (arith, low))
end_more (suc n) [] low = absurd (omega (arith, low))
end_more zero (e ∷ es) low = omega arith
end_more (suc n) (e ∷ es) low = let later = end_more n es low in omega (arith, later)

rest_more : (n : ℕ) (all : List Entry) → drop 1 (drop n all) ≡ drop (suc n) all
rest_more zero all = refl
rest_more (suc n) [] = refl
rest_more (suc n) (e ∷ es) = rest_more n es

module _ (share : Entry → ℕ) (n greatest end : ℕ) (all rest : List Entry) (t : TakesFirst share n greatest end all rest) (low : doc_at rest < TERMINATED) (up : end ≤ doc_at rest) where
  here : doc_at (drop n all) < TERMINATED
  here = subst (λ (es : List Entry). doc_at es < TERMINATED) t.rest_is low

  pub takes_more : (m more last given : ℕ) (new : List Entry) → m ≡ suc n → new ≡ drop 1 rest → ((e : Entry) (es : List Entry) → rest ≡ e ∷ es → given ≡ share e) → more ≡ max greatest given → last ≡ doc_at rest + 1 → TakesFirst share m more last all new
  takes_more m more last given new next new_is value more_is last_is =
      let shares = share_more share given n all here (λ e es is. value e es (t.rest_is ∙ is)) in
      let ends = end_more n all here in
      let at = ap doc_at t.rest_is in
      let greatest_is = t.greatest_is in
      let end_is = t.end_is in
      subst (λ (k : ℕ). TakesFirst share k more last all new) (sym next)
      (record {
        greatest_is = more_is ∙ ap (λ (k : ℕ). max k given) greatest_is ∙ sym shares;
        end_is = let one : last ≡ max (end_of_run (take n all)) (doc_at (drop n all) + 1) = omega (arith, last_is, at, up, end_is) in one ∙ sym ends;
        rest_is = new_is ∙ ap (drop 1) t.rest_is ∙ rest_more n all;
      })

-- all entries of a run were taken, or all of the list
pub takes_all : (n : ℕ) (all rest : List Entry) → n ≤ 128 → rest ≡ drop n all → IsAscending rest → (128 ≤ n) ⊎ (TERMINATED ≤ doc_at rest) → (take n all ≡ take 128 all) × (rest ≡ drop 128 all)
takes_all n all rest low is up (inl full) = let same : n ≡ 128 = omega (arith, low, full) in (ap (λ (k : ℕ). take k all) same, is ∙ ap (λ (k : ℕ). drop k all) same)
takes_all n all rest low is up (inr end) = (take_all n all short ∙ sym (take_all 128 all (omega (arith, short, low))), sym (nothing_left rest up end) ∙ sym (drop_all 128 all (omega (arith, short, low))))
  where
    short : length all ≤ n
    short =
        let none : length rest ≡ 0 = sym (ap length (nothing_left rest up end)) in
        let left = ap length is ∙ length-drop n all in
        omega (arith, none, left)

pub run_is : (share : Entry → ℕ) (n greatest end byte : ℕ) (all rest : List Entry) → TakesFirst share n greatest end all rest → byte ≡ share_byte greatest → take n all ≡ take 128 all → record { end = end; share = byte } ≡ run_of share (take 128 all)
run_is share n greatest end byte all rest t byte_is same =
    let ends = t.end_is ∙ ap end_of_run same in
    let bytes = byte_is ∙ ap share_byte (t.greatest_is ∙ ap (greatest_share share) same) in
    λ j. record { end = ends j; share = bytes j }

-- ---- the runs of a list
-- These are the first runs of a list, after which this is left.
pub record HasRuns (share : Entry → ℕ) (blocks : List BlockShare) (all rest : List Entry) : Type 0 where
  pub runs : blocks ≡ first_runs share (length blocks) all
  pub rest_is : rest ≡ drop (128 * length blocks) all
  pub full : 128 * length blocks < length all + 128

-- one run more
pub next_run : (share : Entry → ℕ) (blocks pushed : List BlockShare) (b : BlockShare) (all old new : List Entry) → pushed ≡ blocks ++ b ∷ [] → b ≡ run_of share (take 128 old) → new ≡ drop 128 old → doc_at old < TERMINATED → HasRuns share blocks all old → HasRuns share pushed all new
next_run share blocks pushed b all old new is run left low h = record {
  runs = is ∙ (λ j. h.runs j ++ here j ∷ []) ∙ sym (map-range_with_len_more (λ (i : ℕ). run_of share (take 128 (drop (128 * i) all))) 0 (length blocks) (length blocks) (omega arith)) ∙ ap (λ (n : ℕ). first_runs share n all) (sym long);
  rest_is = left ∙ ap (drop 128) h.rest_is ∙ drop-drop 128 (128 * length blocks) all ∙ ap (λ (n : ℕ). drop n all) (omega (arith, long));
  full =
      let some = length_step old low in
      let many = ap length h.rest_is ∙ length-drop (128 * length blocks) all in
      omega (arith, some, many, long);
}
  where
    long : length pushed ≡ length blocks + 1
    long = ap length is ∙ length-append blocks (b ∷ [])

    here : b ≡ run_of share (take 128 (drop (128 * length blocks) all))
    here = run ∙ ap (λ (es : List Entry). run_of share (take 128 es)) h.rest_is

-- nothing is left
pub all_runs : (share : Entry → ℕ) (blocks : List BlockShare) (all rest : List Entry) → IsAscending rest → TERMINATED ≤ doc_at rest → HasRuns share blocks all rest → blocks ≡ runs_of share all
unfolding runs_of
all_runs share blocks all rest up end h = h.runs ∙ ap (λ (n : ℕ). first_runs share n all) many
  where
    many : length blocks ≡ (length all + 128 - 1) / 128
    many =
        let none : length rest ≡ 0 = sym (ap length (nothing_left rest up end)) in
        let left = ap length h.rest_is ∙ length-drop (128 * length blocks) all in
        let full = h.full in
        omega (arith, none, left, full)
