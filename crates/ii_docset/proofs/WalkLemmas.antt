-- Laws of consecutive calls.
use Rattle.std.proofs.Common.{◌≡◌, ℕ, zero, suc, ◌+◌, ◌<◌, ◌≤◌, Bool, false, List, [], ◌∷◌, ◌++◌, length, take, drop, map, get_or, refl, sym, ap, ◌∙◌, arith}
use Rattle.std.specs.Prelude.{IsTrue}
use Rattle.std.proofs.lemmas.List.{append-nil, append_assoc, drop_all, drop_more, length-append, length-map, map-append, take_at, take_more}
use Rattle.ii_docset.specs.declared.calls.CursorAnswer.{CursorAnswer}
use Rattle.ii_docset.specs.declared.calls.CursorCall.{CursorCall}
use Rattle.ii_docset.specs.Calls.{IsLawful, answer_of, answer_to, answers_to, asked_by, count_asked, counts_asked, num_asked, rest_after, rest_after_call}
use Rattle.ii_base.specs.Entries.{Entry}

-- The state of a cursor after some calls, with their answers.
pub record IsWalking (calls : List CursorCall) (one : Bool) (es : List Entry) (i : ℕ) (answers : List CursorAnswer) (here : List Entry) : Type 0 where
  pub lawful : IsLawful (drop i calls) one here
  pub told : map answer_of answers ++ answers_to (drop i calls) one here ≡ answers_to calls one es
  pub left : rest_after (drop i calls) here ≡ rest_after calls es
  pub rest_is : here ≡ rest_after (take i calls) es
  pub many : length answers ≡ i

-- the rest after one call more
rest_after_push : (calls : List CursorCall) (call : CursorCall) (es : List Entry) → rest_after (calls ++ call ∷ []) es ≡ rest_after_call call (rest_after calls es)
rest_after_push [] call es = refl
rest_after_push (c ∷ cs) call es = rest_after_push cs call (rest_after_call c es)

-- what a list's next call is told by
next_told : (calls : List CursorCall) (one : Bool) (es here : List Entry) (i : ℕ) (d : CursorCall) (answers : List CursorAnswer) (answer : CursorAnswer) → i < length calls
    → map answer_of answers ++ answers_to (drop i calls) one here ≡ answers_to calls one es → answer_of answer ≡ answer_to (get_or calls i d) one here
    → map answer_of (answers ++ answer ∷ []) ++ answers_to (drop (i + 1) calls) one (rest_after_call (get_or calls i d) here) ≡ answers_to calls one es
next_told calls one es here i d answers answer within told is =
    let split = map-append answer_of answers (answer ∷ []) in
    let joined = append_assoc (map answer_of answers) (answer_of answer ∷ []) (answers_to (drop (i + 1) calls) one (rest_after_call (get_or calls i d) here)) in
    let old = rw (drop_more calls i d within) at told in
    rw split (joined ∙ (rw is old))

pub walks_on : (calls : List CursorCall) (one : Bool) (es : List Entry) (i : ℕ) (d : CursorCall) (answers : List CursorAnswer) (answer : CursorAnswer) (here next : List Entry)
    → IsWalking calls one es i answers here → i < length calls → answer_of answer ≡ answer_to (get_or calls i d) one here → next ≡ rest_after_call (get_or calls i d) here
    → IsWalking calls one es (i + 1) (answers ++ answer ∷ []) next
walks_on calls one es i d answers answer here next w within is goes =
    let lawful = rw (drop_more calls i d within) at w.lawful in
    let left = rw (drop_more calls i d within) at w.left in
    record {
      lawful = rw goes lawful.1;
      told = rw goes (next_told calls one es here i d answers answer within w.told is);
      left = rw goes left;
      rest_is = goes ∙ ap (rest_after_call (get_or calls i d)) w.rest_is ∙ sym (rw (take_more calls i d within) (rest_after_push (take i calls) (get_or calls i d) es));
      many = length-append answers (answer ∷ []) ∙ ap (λ (n : ℕ). n + 1) w.many;
    }

-- The next call may be made.
pub may_walk : (calls : List CursorCall) (one : Bool) (es : List Entry) (i : ℕ) (d : CursorCall) (answers : List CursorAnswer) (here : List Entry)
    → IsWalking calls one es i answers here → i < length calls → IsLawful (get_or calls i d ∷ drop (i + 1) calls) one here
may_walk calls one es i d answers here w within = rw (drop_more calls i d within) at w.lawful

-- the answers so far are the first of those of all
pub told_first : (calls : List CursorCall) (one : Bool) (es : List Entry) (i : ℕ) (answers : List CursorAnswer) (here : List Entry)
    → IsWalking calls one es i answers here → map answer_of answers ≡ take (length (map answer_of answers)) (answers_to calls one es)
told_first calls one es i answers here w =
    let said = map answer_of answers in
    sym (rw (← w.told) (take_at said (answers_to (drop i calls) one here) (length said) refl))

-- where no call is left they are all of them
pub told_all : (calls : List CursorCall) (one : Bool) (es : List Entry) (i : ℕ) (answers : List CursorAnswer) (here : List Entry)
    → IsWalking calls one es i answers here → length calls ≤ i → map answer_of answers ≡ answers_to calls one es
told_all calls one es i answers here w ended =
    let none = drop_all i calls ended in
    sym (append-nil (map answer_of answers)) ∙ (rw none at w.told)

-- the remaining documents after the answered calls
pub left_after : (calls : List CursorCall) (one : Bool) (es : List Entry) (i : ℕ) (answers : List CursorAnswer) (here : List Entry)
    → IsWalking calls one es i answers here → here ≡ rest_after (take (length (map answer_of answers)) calls) es
left_after calls one es i answers here w = w.rest_is ∙ ap (λ (n : ℕ). rest_after (take n calls) es) (sym (length-map answers answer_of ∙ w.many))

-- while a call is left not all are answered
pub not_all : (calls : List CursorCall) (i : ℕ) (answers : List CursorAnswer) → length answers ≡ i → i < length calls
    → (IsTrue false → length (map answer_of answers) ≡ length calls) × (length (map answer_of answers) ≡ length calls → IsTrue false)
not_all calls i answers many within = ((λ no. absurd (cc)), (λ all. absurd (omega (arith, all, length-map answers answer_of, many, within))))

-- what one call more asks for
asked_push : (calls : List CursorCall) (call : CursorCall) → num_asked (calls ++ call ∷ []) ≡ num_asked calls + asked_by call
asked_push [] call = omega arith
asked_push (c ∷ cs) call = let later = asked_push cs call in omega arith

counts_push : (calls : List CursorCall) (call : CursorCall) (one : Bool) (es : List Entry) → counts_asked (calls ++ call ∷ []) one es ≡ counts_asked calls one es + count_asked call one (rest_after calls es)
counts_push [] call one es = omega arith
counts_push (c ∷ cs) call one es = let later = counts_push cs call one (rest_after_call c es) in omega arith

next_asked : (calls : List CursorCall) (i : ℕ) (d : CursorCall) → i < length calls → num_asked (take i calls) + asked_by (get_or calls i d) ≡ num_asked (take (i + 1) calls)
next_asked calls i d within = sym (ap num_asked (take_more calls i d within) ∙ asked_push (take i calls) (get_or calls i d))

next_counts : (calls : List CursorCall) (one other : Bool) (i : ℕ) (d : CursorCall) (es here : List Entry) → i < length calls → other ≡ one → here ≡ rest_after (take i calls) es
    → counts_asked (take i calls) one es + count_asked (get_or calls i d) other here ≡ counts_asked (take (i + 1) calls) one es
next_counts calls one other i d es here within same is =
    (λ j. counts_asked (take i calls) one es + count_asked (get_or calls i d) (same j) (is j))
    ∙ sym (ap (λ (cs : List CursorCall). counts_asked cs one es) (take_more calls i d within) ∙ counts_push (take i calls) (get_or calls i d) one es)

pub spent_next : (spent : ℕ → ℕ → Type 0) (calls : List CursorCall) (one other : Bool) (i : ℕ) (d : CursorCall) (es here : List Entry) → i < length calls → other ≡ one → here ≡ rest_after (take i calls) es
    → spent (num_asked (take i calls) + asked_by (get_or calls i d)) (counts_asked (take i calls) one es + count_asked (get_or calls i d) other here)
    → spent (num_asked (take (i + 1) calls)) (counts_asked (take (i + 1) calls) one es)
spent_next spent calls one other i d es here within same is did =
    rw (← next_asked calls i d within, ← next_counts calls one other i d es here within same is) did

-- calls from the front ask for no more than all
pub asked_part : (i : ℕ) (calls : List CursorCall) → num_asked (take i calls) ≤ num_asked calls
asked_part zero calls = omega arith
asked_part (suc i) [] = omega arith
asked_part (suc i) (c ∷ cs) = let later = asked_part i cs in omega arith

pub counts_part : (i : ℕ) (calls : List CursorCall) (one : Bool) (es : List Entry) → counts_asked (take i calls) one es ≤ counts_asked calls one es
counts_part zero calls one es = omega arith
counts_part (suc i) [] one es = omega arith
counts_part (suc i) (c ∷ cs) one es = let later = counts_part i cs one (rest_after_call c es) in omega arith
