-- What a term of a phrase may still read.
use Rattle.std.proofs.Common.{◌≡◌, ◌∙◌, ℕ, zero, suc, ◌+◌, ◌<◌, ◌≤◌, Bool, false, ◌&&◌, List, [], ◌∷◌, add-one, drop, get_or, length, map, set, inl, inr, refl, sym, ap, arith}
use Rattle.std.specs.List.{AllByRecursion, AllZip, list_all, sum_by}
use Rattle.std.proofs.Math.Seq.{drop-cons}
use Rattle.std.proofs.lemmas.List.{drop-drop, drop-set-lt, get_or-drop}
use Rattle.std.proofs.lemmas.Bool.{lt-leb}
use Rattle.std.proofs.lemmas.Bool.Decides.{leb_tells}
use Rattle.std.proofs.lemmas.List.Sums.{sum_by-cons}
use Rattle.ii_base.specs.Entries.{Entry}
use Rattle.ii_docset.specs.Cursor.{IsAscending, IsCurrent, doc_at, from_doc, positions_at}
use Rattle.ii_query.specs.Phrase.{IsAtDoc, IsUnread, IsUnreadFrom, PhrasePartState, PhraseTermState, ReadsOnce, Spent, cursors_in, is_at, is_left, most_reads, num_positions, parts_in, parts_pass, positions_left, reads_left, stand_here, stand_left, unread, unread_term}

-- a document of which nothing was read is as the others
pub whole_reads : (es : List Entry) → reads_left 0 false es ≡ sum_by (λ (e : Entry). most_reads (length e.positions)) es
whole_reads [] = refl
whole_reads (e ∷ es) = let first = sum_by-cons (λ (f : Entry). most_reads (length f.positions)) e es in omega (arith, first)

pub whole_positions : (es : List Entry) → positions_left 0 es ≡ num_positions es
whole_positions [] = refl
whole_positions (e ∷ es) = let first = sum_by-cons (λ (f : Entry). length f.positions) e es in omega (arith, first)

sum_from : (f : Entry → ℕ) (target : ℕ) (es : List Entry) → sum_by f (from_doc target es) ≤ sum_by f es
sum_from f target [] = omega arith
sum_from f target (e ∷ es) =
    let later = sum_from f target es in
    let first = sum_by-cons f e es in
    elim (leb_tells target e.doc) [
      | inl h ↦ let kept = sum_by-cons f e (from_doc target es) in rw h.0 (omega (arith, later, first, kept))
      | inr h ↦ rw h.0 (omega (arith, later, first))
    ]

-- No more is left to read.
pub record IsLessLeft (read : ℕ) (ended : Bool) (es fs : List Entry) : Type 0 where
  pub reads : reads_left 0 false fs ≤ reads_left read ended es
  pub positions : positions_left 0 fs ≤ positions_left read es

pub less_after_drop : (read : ℕ) (ended : Bool) (es : List Entry) → IsLessLeft read ended es (drop 1 es)
less_after_drop read ended [] = record { reads = omega arith; positions = omega arith }
less_after_drop read ended (e ∷ es) =
    let reads = whole_reads es in
    let positions = whole_positions es in
    record { reads = omega (arith, reads); positions = omega (arith, positions) }

pub less_from : (read : ℕ) (ended : Bool) (target : ℕ) (es : List Entry) → doc_at es < target → IsLessLeft read ended es (from_doc target es)
less_from read ended target [] above = record { reads = omega arith; positions = omega arith }
less_from read ended target (e ∷ es) above =
    let reads = whole_reads (from_doc target es) in
    let positions = whole_positions (from_doc target es) in
    let fewer_reads = sum_from (λ (f : Entry). most_reads (length f.positions)) target es in
    let fewer_positions = sum_from (λ (f : Entry). length f.positions) target es in
    rw (lt-leb target e.doc above) (record { reads = omega (arith, reads, fewer_reads); positions = omega (arith, positions, fewer_positions) })

-- a term left its current document
pub reads_moved : {P : Type 0} (spent : ℕ → ℕ → P → P → Type 0) (old : PhraseTermState P) (rest : List Entry) (cursor : P) → spent 0 0 old.cursor cursor → IsLessLeft old.read old.ended old.part.rest rest → ReadsOnce spent old (unread_term old.part.distance rest cursor)
reads_moved spent old rest cursor by less =
    let reads = less.reads in
    let positions = less.positions in
    record { asked = 0; count = 0; by = by; reads = omega (arith, reads); positions = omega (arith, positions) }

-- terms of which nothing was read
pub unread_pass : {P : Type 0} (test : ℕ → List ℕ → Bool) (ts : List (PhraseTermState P)) → AllByRecursion IsUnread ts → list_all (λ (t : PhraseTermState P). test t.part.distance (drop t.passed (positions_at t.part.rest))) ts ≡ parts_pass test (parts_in ts)
unread_pass test [] all = refl
unread_pass test (t ∷ ts) all =
    let none : t.passed ≡ 0 = ap (λ (u : PhraseTermState _). u.passed) all.0 in
    rw (none, unread_pass test ts all.1) refl

pub unread_stand : {P : Type 0} (ts : List (PhraseTermState P)) (start : ℕ) → AllByRecursion IsUnread ts → stand_left ts start ≡ stand_here (parts_in ts) start
unread_stand ts start all = unread_pass (is_at start) ts all

-- terms that are at a document, and of which nothing was read from it on
pub unread_here : {P : Type 0} (doc : ℕ) (ts : List (PhraseTermState P)) → AllByRecursion (IsAtDoc doc) (parts_in ts) → AllByRecursion (IsUnreadFrom doc) ts → AllByRecursion IsUnread ts
unread_here doc [] at unread = tt
unread_here doc (t ∷ ts) at unread = let here = at.0.here in (unread.0 (omega (arith, here)), unread_here doc ts at.1 unread.1)

pub unread_all : {P : Type 0} (doc : ℕ) (ts : List (PhraseTermState P)) → AllByRecursion IsUnread ts → AllByRecursion (IsUnreadFrom doc) ts
unread_all doc [] unread = tt
unread_all doc (t ∷ ts) unread = (λ up. unread.0, unread_all doc ts unread.1)

pub unread_above : {P : Type 0} (doc : ℕ) (ts : List (PhraseTermState P)) → AllByRecursion (IsAtDoc doc) (parts_in ts) → AllByRecursion (IsUnreadFrom (doc + 1)) ts
unread_above doc [] at = tt
unread_above doc (t ∷ ts) at = let here = at.0.here in (λ up. absurd (omega (arith, here, up)), unread_above doc ts at.1)

pub unread_later : {P : Type 0} (doc next : ℕ) (ts : List (PhraseTermState P)) → doc ≤ next → AllByRecursion (IsUnreadFrom doc) ts → AllByRecursion (IsUnreadFrom next) ts
unread_later doc next [] up unread = tt
unread_later doc next (t ∷ ts) up unread = (λ above. unread.0 (omega (arith, up, above)), unread_later doc next ts up unread.1)

-- whether a term occurs at its distance, and those after it
pub left_next : {P : Type 0} (ts : List (PhraseTermState P)) (i start : ℕ) (t : PhraseTermState P) → i < length ts → t ≡ get_or ts i t → stand_left (drop i ts) start ≡ (is_left t start && stand_left (drop (i + 1) ts) start)
left_next ts i start t inside is = ap (λ (us : List (PhraseTermState _)). stand_left us start) (drop-cons ts i t inside) ∙ rw (← is, add-one i) refl

-- an element is replaced by one that passes a test alike
pub all_set : {T : Type 0} (test : T → Bool) (ts : List T) (i : ℕ) (old new : T) → i < length ts → old ≡ get_or ts i old → test new ≡ test old → list_all test (set ts i new) ≡ list_all test ts
all_set test [] i old new inside is same = absurd (omega (arith, inside))
all_set test (t ∷ ts) zero old new inside is same = ap (λ (b : Bool). b && list_all test ts) (same ∙ ap test is)
all_set test (t ∷ ts) (suc i) old new inside is same = ap (λ (b : Bool). test t && b) (all_set test ts i old new (omega (arith, inside)) is same)

-- the elements that weren't visited are as they were
pub kept_at : {T : Type 0} (old now : List T) (i : ℕ) (t : T) → drop i now ≡ drop i old → t ≡ get_or now i t → t ≡ get_or old i t
kept_at old now i t kept is =
    let place : i + 0 ≡ i = omega arith in
    let first : (ts : List _) → get_or (drop i ts) 0 t ≡ get_or ts i t = λ ts. get_or-drop i ts 0 t ∙ ap (λ (k : ℕ). get_or ts k t) place in
    is ∙ sym (first now) ∙ ap (λ (ts : List _). get_or ts 0 t) kept ∙ first old

pub kept_more : {T : Type 0} (old now : List T) (i : ℕ) (t : T) → drop i now ≡ drop i old → drop (i + 1) (set now i t) ≡ drop (i + 1) old
kept_more old now i t kept = drop-set-lt (i + 1) now i t (omega arith) ∙ sym (drop-drop 1 i now) ∙ ap (drop 1) kept ∙ drop-drop 1 i old

-- terms whose current documents are read anew
pub cleared_from : {P : Type 0} (doc : ℕ) (ts : List (PhraseTermState P)) → AllByRecursion (IsUnreadFrom doc) (map unread ts)
cleared_from doc [] = tt
cleared_from doc (t ∷ ts) = (λ up. refl, cleared_from doc ts)

pub cleared_parts : {P : Type 0} (ts : List (PhraseTermState P)) → parts_in (map unread ts) ≡ parts_in ts
cleared_parts [] = refl
cleared_parts (t ∷ ts) = ap (λ (ps : List PhrasePartState). t.part ∷ ps) (cleared_parts ts)

pub cleared_cursors : {P : Type 0} (ts : List (PhraseTermState P)) → cursors_in (map unread ts) ≡ cursors_in ts
cleared_cursors [] = refl
cleared_cursors (t ∷ ts) = ap (λ (cs : List _). t.cursor ∷ cs) (cleared_cursors ts)

pub cleared_same : {P : Type 0} (ts : List (PhraseTermState P)) → AllByRecursion IsUnread ts → map unread ts ≡ ts
cleared_same [] all = refl
cleared_same (t ∷ ts) all = (λ i. sym all.0 i ∷ cleared_same ts all.1 i)

-- terms that read positions, by their cursors
pub cursors_spent : {P : Type 0} (spent : ℕ → ℕ → P → P → Type 0) (olds news : List (PhraseTermState P)) → AllZip (ReadsOnce spent) olds news → AllZip (Spent spent) (cursors_in olds) (cursors_in news)
cursors_spent spent [] [] all = tt
cursors_spent spent [] (n ∷ ns) all = elim all [ ]
cursors_spent spent (o ∷ os) [] all = elim all [ ]
cursors_spent spent (o ∷ os) (n ∷ ns) all = (record { asked = all.0.asked; count = all.0.count; by = all.0.by }, cursors_spent spent os ns all.1)

-- the first term leaves its current document
pub unread_after : {P : Type 0} (es : List Entry) (ts : List (PhraseTermState P)) → IsAscending es → (IsCurrent es → AllByRecursion (IsUnreadFrom (doc_at es + 1)) ts) → IsCurrent (drop 1 es) → AllByRecursion (IsUnreadFrom (doc_at (drop 1 es))) ts
unread_after [] ts ascending unread current = absurd (omega (arith, current))
unread_after (e ∷ es) ts ascending unread current =
    let next = ascending.0 in
    unread_later (e.doc + 1) (doc_at es) ts (omega (arith, next)) (unread (omega (arith, next, current)))
