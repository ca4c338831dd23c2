-- Laws of the lists of queries, in any order.
use Rattle.std.proofs.Common.{◌≡◌, ◌∙◌, ℕ, zero, suc, ◌+◌, ◌<◌, List, [], ◌∷◌, ◌++◌, append-nil, append_assoc, ap, arith, get_or, length, set, subst, sym, take, Result, Ok, Err}
use Rattle.std.specs.Prelude.{IfOk}
use Rattle.std.specs.List.{swap}
use Rattle.std.specs.List.Sorted.{IsPermutation}
use Rattle.std.proofs.lemmas.Grind.{flat_map-append}
use Rattle.std.proofs.lemmas.List.{get_or_default, take_more}
use Rattle.std.proofs.lemmas.List.Elements.{All-append, All-from_recursion}
use Rattle.std.proofs.lemmas.List.Sorted.{All-permutation, IsPermutation-append, IsPermutation-append_comm, IsPermutation-append_left, IsPermutation-append_right, IsPermutation-keeps, IsPermutation-refl, IsPermutation-trans}
use Rattle.ii_scorer.specs.BlockLists.{BlockList}
use Rattle.ii_scorer.specs.Scorers.{AreListsOf, ScorerState, lists_of}
use Rattle.ii_prepared_term.specs.PreparedQueries.{PreparedQueryState, lists_under}
use Rattle.ii_prepared_term.specs.PreparedScorers.{AreUnread, IsUnread}

-- ---- lists of scorers in another order
-- three rows, of which the first two change places
turned : (a b c : List BlockList) → IsPermutation (a ++ (b ++ c)) (b ++ (a ++ c))
turned a b c =
    subst (λ (row : List BlockList). IsPermutation row (b ++ (a ++ c))) (append_assoc a b c)
    (subst (λ (row : List BlockList). IsPermutation ((a ++ b) ++ c) row) (append_assoc b a c)
    (IsPermutation-append_left c (a ++ b) (b ++ a) (IsPermutation-append_comm a b)))

-- one in place of another
placed : (ss : List ScorerState) (i : ℕ) (s t : ScorerState) → i < length ss → t ≡ get_or ss i t → IsPermutation (s.lists ++ lists_of ss) (t.lists ++ lists_of (set ss i s))
placed [] i s t inside is = absurd (omega (arith, inside))
placed (x ∷ ss) zero s t inside is = subst (λ (y : ScorerState). IsPermutation (s.lists ++ (x.lists ++ lists_of ss)) (y.lists ++ (s.lists ++ lists_of ss))) (sym is) (turned s.lists x.lists (lists_of ss))
placed (x ∷ ss) (suc i) s t inside is =
    IsPermutation-trans _ _ _ (turned s.lists x.lists (lists_of ss))
    (IsPermutation-trans _ _ _ (IsPermutation-append_right x.lists (s.lists ++ lists_of ss) (t.lists ++ lists_of (set ss i s)) (placed ss i s t (omega (arith, inside)) is)) (turned x.lists t.lists (lists_of (set ss i s))))

-- two of them change places
swapped : (ss : List ScorerState) (i j : ℕ) (d : ScorerState) → i < length ss → j < length ss → IsPermutation (lists_of ss) (lists_of (set (set ss i (get_or ss j d)) j (get_or ss i d)))
swapped [] i j d inside also = absurd (omega (arith, inside))
swapped (s ∷ ss) zero zero d inside also = IsPermutation-refl (lists_of (s ∷ ss))
swapped (s ∷ ss) zero (suc j) d inside also = placed ss j s (get_or ss j d) (omega (arith, also)) (get_or_default ss j d (get_or ss j d) (omega (arith, also)))
swapped (s ∷ ss) (suc i) zero d inside also = placed ss i s (get_or ss i d) (omega (arith, inside)) (get_or_default ss i d (get_or ss i d) (omega (arith, inside)))
swapped (s ∷ ss) (suc i) (suc j) d inside also = IsPermutation-append_right s.lists (lists_of ss) (lists_of (set (set ss i (get_or ss j d)) j (get_or ss i d))) (swapped ss i j d (omega (arith, inside)) (omega (arith, also)))

lists_swapped : (ss : List ScorerState) (i j : ℕ) → i < length ss → j < length ss → IsPermutation (lists_of ss) (lists_of (swap ss i j))
lists_swapped [] i j inside also = absurd (omega (arith, inside))
lists_swapped (s ∷ ss) i j inside also = swapped (s ∷ ss) i j s inside also

lists_in_order : (ss order : List ScorerState) → IsPermutation ss order → IsPermutation (lists_of ss) (lists_of order)
lists_in_order ss order same = IsPermutation-keeps ss (λ (ts : List ScorerState). IsPermutation (lists_of ss) (lists_of ts)) (IsPermutation-refl (lists_of ss))
    (λ ts i j inside also kept. IsPermutation-trans _ _ _ kept (lists_swapped ts i j inside also)) order same

-- ---- lists of which no block was decoded but the first
pub unread_none : AreUnread [] []
unread_none = record { same = IsPermutation-refl []; unread = All-from_recursion IsUnread [] tt }

pub unread_both : (all more lists others : List BlockList) → AreUnread all lists → AreUnread more others → AreUnread (all ++ more) (lists ++ others)
unread_both all more lists others first second = record {
  same = IsPermutation-append all lists more others first.same second.same;
  unread = All-append IsUnread lists others first.unread second.unread;
}

pub unread_in_order : (all : List BlockList) (ss : List ScorerState) (lists : List BlockList) → AreListsOf ss lists → AreUnread all (lists_of ss) → AreUnread all lists
unread_in_order all ss lists are u =
    let same : IsPermutation (lists_of ss) lists = subst (IsPermutation (lists_of ss)) (sym are.are) (lists_in_order ss are.order are.same) in
    record { same = IsPermutation-trans all (lists_of ss) lists u.same same; unread = All-permutation IsUnread (lists_of ss) lists same u.unread }

-- those of one query more
pub unread_more : (parts : List PreparedQueryState) (i : ℕ) (part : PreparedQueryState) (scorers more : List ScorerState) (scorer : ScorerState) → i < length parts → part ≡ get_or parts i part → AreUnread part.lists scorer.lists → more ≡ scorers ++ scorer ∷ []
    → AreUnread (lists_under (take i parts)) (lists_of scorers) → AreUnread (lists_under (take (i + 1) parts)) (lists_of more)
unread_more parts i part scorers more scorer inside is one more_is so_far =
    let all : lists_under (take (i + 1) parts) ≡ lists_under (take i parts) ++ part.lists =
    ap lists_under (take_more parts i part inside ∙ ap (λ (p : PreparedQueryState). take i parts ++ p ∷ []) (sym is)) ∙ flat_map-append (λ (p : PreparedQueryState). p.lists) (take i parts) (part ∷ []) ∙ ap (λ (row : List BlockList). lists_under (take i parts) ++ row) (append-nil part.lists) in
    let rows : lists_of more ≡ lists_of scorers ++ scorer.lists =
    ap lists_of more_is ∙ flat_map-append (λ (s : ScorerState). s.lists) scorers (scorer ∷ []) ∙ ap (λ (row : List BlockList). lists_of scorers ++ row) (append-nil scorer.lists) in
    subst (λ (row : List BlockList). AreUnread row (lists_of more)) (sym all) (subst (AreUnread (lists_under (take i parts) ++ part.lists)) (sym rows) (unread_both (lists_under (take i parts)) part.lists (lists_of scorers) scorer.lists so_far one))

-- those of a union, and of a query without another one
pub any_unread : {E : Type 0} (all : List BlockList) (ss : List ScorerState) (r : Result ScorerState E) → IfOk r (λ (s : ScorerState). AreListsOf ss s.lists) → AreUnread all (lists_of ss) → IfOk r (λ (s : ScorerState). AreUnread all s.lists)
any_unread all ss (Ok s) are u = unread_in_order all ss s.lists are u
any_unread all ss (Err e) are u = tt

pub without_unread : {E : Type 0} (more : List BlockList) (first other : ScorerState) (r : Result ScorerState E) → IfOk r (λ (s : ScorerState). s.lists ≡ first.lists ++ other.lists) → AreUnread more other.lists
    → IfOk r (λ (s : ScorerState). (all : List BlockList) → AreUnread all first.lists → AreUnread (all ++ more) s.lists)
without_unread more first other (Ok s) are u = λ all v. subst (AreUnread (all ++ more)) (sym are) (unread_both all more first.lists other.lists v u)
without_unread more first other (Err e) are u = tt
