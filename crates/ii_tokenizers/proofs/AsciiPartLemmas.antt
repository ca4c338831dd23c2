-- The words of ASCII texts are runs of letters, digits and underscores.
use Rattle.std.proofs.Common.{◌≡◌, ℕ, suc, ◌+◌, ◌<◌, Bool, true, false, cond, not, ◌&&◌, ◌||◌, List, [], ◌∷◌, ◌++◌, length, filter, nat_lt, refl, sym, ap, ap₂, ◌∙◌, ◌⊎◌, inl, inr, subst, arith, append_assoc, append-nil, length-append}
use Rattle.std.specs.Prelude.{⊤, IsAscii}
use Rattle.std.specs.Char.{len_utf8}
use Rattle.std.specs.List.{list_any}
use Rattle.std.proofs.lemmas.Bool.{lt-ltb, or_parts}
use Rattle.std.proofs.lemmas.List.Elements.{filter-append}
use Rattle.std.proofs.lemmas.Str.Ascii.{IsAscii-cons, IsAscii-nil}
use Rattle.unicode_segmentation.proofs.BoolLemmas.{and-true, or-false, or-true}
use Rattle.ii_base.proofs.RunLemmas.{AllAscii, one_byte}
use Rattle.ii_base.specs.Parts.{Part, in_front, parts_between}
use Rattle.ii_tokenizers.specs.Analyzers.{nonempty_parts}

-- ---- parts that are cut at the same characters

-- parts, and the first of them
pub first_part : (test : ℕ → Bool) (n : ℕ) (cs : List ℕ) → (p : Part) × (ps : List Part) × (parts_between test n cs ≡ p ∷ ps)
unfolding parts_between
first_part test n [] = (record { offset = n; characters = [] }, [], refl)
first_part test n (c ∷ cs) = by_case (test c) refl (first_part test (n + len_utf8 c) cs)
  where
    by_case : (b : Bool) → test c ≡ b → (p : Part) × (ps : List Part) × (parts_between test (n + len_utf8 c) cs ≡ p ∷ ps) → (p : Part) × (ps : List Part) × (parts_between test n (c ∷ cs) ≡ p ∷ ps)
    by_case true is rest = (record { offset = n; characters = [] }, parts_between test (n + len_utf8 c) cs, rw is refl)
    by_case false is rest = (record { offset = n; characters = c ∷ rest.0.characters }, rest.1, rw is (ap (in_front n c) rest.2))

pub AllAscii-front : (xs ys : List ℕ) → AllAscii (xs ++ ys) → AllAscii xs
AllAscii-front [] ys all = tt
AllAscii-front (x ∷ xs) ys all = (all.0, AllAscii-front xs ys all.1)

pub AllAscii-back : (xs ys : List ℕ) → AllAscii (xs ++ ys) → AllAscii ys
AllAscii-back [] ys all = all
AllAscii-back (x ∷ xs) ys all = AllAscii-back xs ys all.1

pub IsAscii-all : (cs : List ℕ) → AllAscii cs → IsAscii cs
IsAscii-all [] all = IsAscii-nil
IsAscii-all (c ∷ cs) all = IsAscii-cons c cs all.0 (IsAscii-all cs all.1)

-- a text cut at a character that passes the test
pub parts_split : (test : ℕ → Bool) (n : ℕ) (xs ys : List ℕ) (y : ℕ) → AllAscii (xs ++ y ∷ ys) → test y ≡ true
    → parts_between test n (xs ++ y ∷ ys) ≡ parts_between test n xs ++ parts_between test (n + length xs + 1) ys
unfolding parts_between
parts_split test n [] ys y ascii cuts =
    let size : n + len_utf8 y ≡ n + 0 + 1 = omega (arith, one_byte y ascii.0) in
    rw cuts (ap (λ (k : ℕ). record { offset = n; characters = [] } ∷ parts_between test k ys) size)
parts_split test n (x ∷ xs) ys y ascii cuts =
    let size : n + len_utf8 x + length xs + 1 ≡ n + suc (length xs) + 1 = omega (arith, one_byte x ascii.0) in
    by_case (test x) refl
    (parts_split test (n + len_utf8 x) xs ys y ascii.1 cuts ∙ ap (λ (k : ℕ). parts_between test (n + len_utf8 x) xs ++ parts_between test k ys) size)
  where
    front : (ps qs : List Part) (p : Part) (later : List Part) → ps ≡ p ∷ later → in_front n x (ps ++ qs) ≡ in_front n x ps ++ qs
    front ps qs p later is = rw is refl

    by_case : (b : Bool) → test x ≡ b
        → parts_between test (n + len_utf8 x) (xs ++ y ∷ ys) ≡ parts_between test (n + len_utf8 x) xs ++ parts_between test (n + suc (length xs) + 1) ys
        → parts_between test n ((x ∷ xs) ++ y ∷ ys) ≡ parts_between test n (x ∷ xs) ++ parts_between test (n + suc (length xs) + 1) ys
    by_case true is rest = rw is (ap (λ (ps : List Part). record { offset = n; characters = [] } ∷ ps) rest)
    by_case false is rest =
        let first = first_part test (n + len_utf8 x) xs in
        rw is (ap (in_front n x) rest ∙ front (parts_between test (n + len_utf8 x) xs) (parts_between test (n + suc (length xs) + 1) ys) first.0 first.1 first.2)

-- ---- pieces that no rule breaks

module _ (word mark letter : ℕ → Bool) where
  -- the parts that have a letter
  abbrev pub spoken : List Part → List Part
  spoken ps = filter (λ (p : Part). list_any letter p.characters) ps

  -- the runs that have a letter
  abbrev pub runs : ℕ → List ℕ → List Part
  runs n cs = spoken (parts_between (λ (c : ℕ). not (word c)) n cs)

  abbrev pub inner : ℕ → Bool
  inner c = word c || mark c

  -- a text is broken between these
  abbrev pub parted : ℕ → ℕ → Bool
  parted c d = ((not (inner c) && inner d) || (inner c && not (inner d))) || ((mark c && (word d && not (letter d))) || ((word c && not (letter c)) && mark d))

  -- it isn't broken between any two neighbors
  abbrev pub IsUnbroken : List ℕ → Type 0
  IsUnbroken [] = ⊤
  IsUnbroken (c ∷ []) = ⊤
  IsUnbroken (c ∷ (d ∷ cs)) = (parted c d ≡ false) × IsUnbroken (d ∷ cs)

  -- a piece before the rest of a text: it isn't broken, and no run goes on after it
  abbrev pub IsPiece : List ℕ → List ℕ → Type 0
  IsPiece [] rest = ⊥
  IsPiece (c ∷ []) [] = ⊤
  IsPiece (c ∷ []) (d ∷ rest) = (word c && word d) ≡ false
  IsPiece (c ∷ (d ∷ cs)) rest = (parted c d ≡ false) × IsPiece (d ∷ cs) rest

  -- a text cut into such pieces
  abbrev pub AreCut : List ℕ → List (List ℕ) → Type 0
  AreCut cs [] = cs ≡ []
  AreCut cs (p ∷ ps) = (rest : List ℕ) × (cs ≡ p ++ rest) × IsPiece p rest × AreCut rest ps

  pub unbroken_piece : (p rest : List ℕ) → IsPiece p rest → IsUnbroken p
  unbroken_piece [] rest is = tt
  unbroken_piece (c ∷ []) rest is = tt
  unbroken_piece (c ∷ (d ∷ cs)) rest is = (is.0, unbroken_piece (d ∷ cs) rest is.1)

  -- no part has a letter
  silent : (test : ℕ → Bool) (n : ℕ) (cs : List ℕ) → list_any letter cs ≡ false → spoken (parts_between test n cs) ≡ []
  unfolding parts_between
  silent test n [] none = refl
  silent test n (c ∷ cs) none =
      let both = or_parts (letter c) (list_any letter cs) none in
      by_case (test c) refl both.0 (silent test (n + len_utf8 c) cs both.1)
    where
      front : letter c ≡ false → (ps : List Part) → spoken ps ≡ [] → spoken (in_front n c ps) ≡ []
      front here [] is = rw here refl
      front here (p ∷ ps) is = by_letter (list_any letter p.characters) refl
        where
          by_letter : (b : Bool) → list_any letter p.characters ≡ b → spoken (in_front n c (p ∷ ps)) ≡ []
          by_letter true e = absurd (cc (rw e at is))
          by_letter false e = rw (here, e) (rw e at is)

      by_case : (b : Bool) → test c ≡ b → letter c ≡ false → spoken (parts_between test (n + len_utf8 c) cs) ≡ [] → spoken (parts_between test n (c ∷ cs)) ≡ []
      by_case true is here rest = rw is rest
      by_case false is here rest = rw is (front here (parts_between test (n + len_utf8 c) cs) rest)

  abbrev AllInner : List ℕ → Type 0
  AllInner [] = ⊤
  AllInner (c ∷ cs) = (inner c ≡ true) × AllInner cs

  abbrev AllWord : List ℕ → Type 0
  AllWord [] = ⊤
  AllWord (c ∷ cs) = (word c ≡ true) × AllWord cs

  inner_next : (c d : ℕ) → parted c d ≡ false → inner c ≡ inner d
  inner_next c d whole =
      by_bits (inner c) (inner d) (or_parts ((not (inner c) && inner d) || (inner c && not (inner d))) ((mark c && (word d && not (letter d))) || ((word c && not (letter c)) && mark d)) whole).0
    where
      by_bits : (x y : Bool) → ((not x && y) || (x && not y)) ≡ false → x ≡ y
      by_bits true true e = refl
      by_bits true false e = cc
      by_bits false true e = cc
      by_bits false false e = refl

  word_after_mark : (c d : ℕ) → parted c d ≡ false → mark c ≡ true → word d ≡ true → letter d ≡ true
  word_after_mark c d whole is_mark is_word =
      let later = (or_parts ((not (inner c) && inner d) || (inner c && not (inner d))) ((mark c && (word d && not (letter d))) || ((word c && not (letter c)) && mark d)) whole).1 in
      by_bits (mark c) (word d) (letter d) is_mark is_word (or_parts (mark c && (word d && not (letter d))) ((word c && not (letter c)) && mark d) later).0
    where
      by_bits : (x y z : Bool) → x ≡ true → y ≡ true → (x && (y && not z)) ≡ false → z ≡ true
      by_bits true true true a b e = refl
      by_bits true true false a b e = cc
      by_bits true false z a b e = cc
      by_bits false y z a b e = cc

  mark_after_word : (c d : ℕ) → parted c d ≡ false → word c ≡ true → mark d ≡ true → letter c ≡ true
  mark_after_word c d whole is_word is_mark =
      let later = (or_parts ((not (inner c) && inner d) || (inner c && not (inner d))) ((mark c && (word d && not (letter d))) || ((word c && not (letter c)) && mark d)) whole).1 in
      by_bits (word c) (letter c) (mark d) is_word is_mark (or_parts (mark c && (word d && not (letter d))) ((word c && not (letter c)) && mark d) later).1
    where
      by_bits : (x y z : Bool) → x ≡ true → z ≡ true → ((x && not y) && z) ≡ false → y ≡ true
      by_bits true true z a b e = refl
      by_bits true false true a b e = cc
      by_bits true false false a b e = cc
      by_bits false y z a b e = cc

  mark_from_inner : (c : ℕ) → inner c ≡ true → word c ≡ false → mark c ≡ true
  mark_from_inner c inside out = rw out at inside

  later_unbroken : (c : ℕ) (cs : List ℕ) → IsUnbroken (c ∷ cs) → IsUnbroken cs
  later_unbroken c [] whole = tt
  later_unbroken c (d ∷ cs) whole = whole.1

  inner_from : (c : ℕ) (cs : List ℕ) → inner c ≡ true → IsUnbroken (c ∷ cs) → AllInner (c ∷ cs)
  inner_from c [] inside whole = (inside, tt)
  inner_from c (d ∷ cs) inside whole = (inside, inner_from d cs (sym (inner_next c d whole.0) ∙ inside) whole.1)

  -- a part has a letter, if it has a character
  abbrev IsOkay : Part → Type 0
  IsOkay p = nat_lt 0 (length p.characters) ≡ list_any letter p.characters

  abbrev AllOkay : List Part → Type 0
  AllOkay [] = ⊤
  AllOkay (p ∷ ps) = IsOkay p × AllOkay ps

  okay_stay : (ps : List Part) → AllOkay ps → nonempty_parts ps ≡ spoken ps
  okay_stay [] okay = refl
  okay_stay (p ∷ ps) okay = ap₂ (λ (b : Bool) (qs : List Part). cond b (p ∷ qs) qs) okay.0 (okay_stay ps okay.1)

  abbrev StartsWithMark : List ℕ → Type 0
  StartsWithMark [] = ⊥
  StartsWithMark (c ∷ cs) = word c ≡ false

  -- the parts between marks: one, or some of which each that isn't empty has a letter
  abbrev IsOne : ℕ → List ℕ → Type 0
  IsOne n cs = (parts_between (λ (c : ℕ). not (word c)) n cs ≡ record { offset = n; characters = cs } ∷ []) × AllWord cs

  abbrev AreMany : ℕ → List ℕ → Type 0
  AreMany n cs = (p : Part) × (ps : List Part) × (parts_between (λ (c : ℕ). not (word c)) n cs ≡ p ∷ ps) × IsOkay p × AllOkay ps × (p.characters ≡ [] → StartsWithMark cs)

  shape : (n : ℕ) (cs : List ℕ) → AllInner cs → IsUnbroken cs → IsOne n cs ⊎ AreMany n cs
  unfolding parts_between
  shape n [] inside whole = inl (refl, tt)
  shape n (c ∷ cs) inside whole = by_case (word c) refl (shape (n + len_utf8 c) cs inside.1 (later_unbroken c cs whole))
    where
      some : (ds : List ℕ) → nat_lt 0 (suc (length ds)) ≡ true
      some ds = lt-ltb 0 (suc (length ds)) (omega arith)

      okay_after : (ds : List ℕ) → word c ≡ false → AllWord ds → IsUnbroken (c ∷ ds) → nat_lt 0 (length ds) ≡ list_any letter ds
      okay_after [] out words unbroken = refl
      okay_after (d ∷ ds) out words unbroken = rw (word_after_mark c d unbroken.0 (mark_from_inner c inside.0 out) words.0) (some ds)

      okay_with : (ds cs : List ℕ) → word c ≡ true → AllInner cs → IsUnbroken (c ∷ cs) → nat_lt 0 (length ds) ≡ list_any letter ds → (ds ≡ [] → StartsWithMark cs) → true ≡ (letter c || list_any letter ds)
      okay_with [] [] is within unbroken okay starts = absurd (starts refl)
      okay_with [] (d ∷ cs) is within unbroken okay starts = rw (mark_after_word c d unbroken.0 is (mark_from_inner d within.0 (starts refl))) refl
      okay_with (d ∷ ds) cs is within unbroken okay starts = rw (sym okay ∙ some ds) (sym (or-true (letter c)))

      by_case : (b : Bool) → word c ≡ b → IsOne (n + len_utf8 c) cs ⊎ AreMany (n + len_utf8 c) cs → IsOne n (c ∷ cs) ⊎ AreMany n (c ∷ cs)
      by_case true is (inl one) = inl (rw is (ap (in_front n c) one.0), (is, one.1))
      by_case true is (inr many) =
          inr (record { offset = n; characters = c ∷ many.0.characters }, many.1, rw is (ap (in_front n c) many.2), some many.0.characters ∙ okay_with many.0.characters cs is inside.1 whole many.3 many.5, many.4, λ e. absurd (cc e))
      by_case false is (inl one) =
          inr (record { offset = n; characters = [] }, record { offset = n + len_utf8 c; characters = cs } ∷ [], rw is (ap (λ (ps : List Part). record { offset = n; characters = [] } ∷ ps) one.0), refl, (okay_after cs is one.1 whole, tt), λ e. is)
      by_case false is (inr many) =
          inr (record { offset = n; characters = [] }, many.0 ∷ many.1, rw is (ap (λ (ps : List Part). record { offset = n; characters = [] } ∷ ps) many.2), refl, (many.3, many.4), λ e. is)

  -- where marks and letters are apart, an unbroken piece with a letter has the same parts between marks as between words
  module _ (apart : (c : ℕ) → word c ≡ true → mark c ≡ false) (worded : (c : ℕ) → letter c ≡ true → word c ≡ true) where
    same_cuts : (n : ℕ) (cs : List ℕ) → AllInner cs → parts_between mark n cs ≡ parts_between (λ (c : ℕ). not (word c)) n cs
    unfolding parts_between
    same_cuts n [] inside = refl
    same_cuts n (c ∷ cs) inside =
        ap₂ (λ (b : Bool) (ps : List Part). cond b (record { offset = n; characters = [] } ∷ ps) (in_front n c ps)) (by_bit (word c) refl) (same_cuts (n + len_utf8 c) cs inside.1)
      where
        by_bit : (b : Bool) → word c ≡ b → mark c ≡ not (word c)
        by_bit true is = apart c is ∙ ap not (sym is)
        by_bit false is = mark_from_inner c inside.0 is ∙ ap not (sym is)

    letter_inside : (c : ℕ) → letter c ≡ true → inner c ≡ true
    letter_inside c is = rw (worded c is) refl

    head_inside : (c : ℕ) (cs : List ℕ) → IsUnbroken (c ∷ cs) → list_any letter (c ∷ cs) ≡ true → inner c ≡ true
    head_inside c [] whole has = letter_inside c (sym (or-false (letter c)) ∙ has)
    head_inside c (d ∷ cs) whole has = by_case (letter c) refl (head_inside d cs whole.1)
      where
        by_case : (b : Bool) → letter c ≡ b → (list_any letter (d ∷ cs) ≡ true → inner d ≡ true) → inner c ≡ true
        by_case true is later = letter_inside c is
        by_case false is later = inner_next c d whole.0 ∙ later (rw is at has)

    pub piece_runs : (n : ℕ) (p : List ℕ) → IsUnbroken p → cond (list_any letter p) (nonempty_parts (parts_between mark n p)) [] ≡ runs n p
    piece_runs n [] whole = sym (silent (λ (c : ℕ). not (word c)) n [] refl)
    piece_runs n (c ∷ cs) whole = by_case (list_any letter (c ∷ cs)) refl
      where
        by_shape : list_any letter (c ∷ cs) ≡ true → IsOne n (c ∷ cs) ⊎ AreMany n (c ∷ cs) → nonempty_parts (parts_between (λ (d : ℕ). not (word d)) n (c ∷ cs)) ≡ runs n (c ∷ cs)
        by_shape has (inl one) =
            let some : nat_lt 0 (suc (length cs)) ≡ true = lt-ltb 0 (suc (length cs)) (omega arith) in
            ap nonempty_parts one.0 ∙ okay_stay (record { offset = n; characters = c ∷ cs } ∷ []) (some ∙ sym has, tt) ∙ ap spoken (sym one.0)
        by_shape has (inr many) = ap nonempty_parts many.2 ∙ okay_stay (many.0 ∷ many.1) (many.3, many.4) ∙ ap spoken (sym many.2)

        by_case : (b : Bool) → list_any letter (c ∷ cs) ≡ b → cond (list_any letter (c ∷ cs)) (nonempty_parts (parts_between mark n (c ∷ cs))) [] ≡ runs n (c ∷ cs)
        by_case true has =
            let inside = inner_from c cs (head_inside c cs whole has) whole in
            ap (λ (b : Bool). cond b (nonempty_parts (parts_between mark n (c ∷ cs))) []) has
            ∙ ap nonempty_parts (same_cuts n (c ∷ cs) inside)
            ∙ by_shape has (shape n (c ∷ cs) inside whole)
        by_case false has =
            ap (λ (b : Bool). cond b (nonempty_parts (parts_between mark n (c ∷ cs))) []) has ∙ sym (silent (λ (d : ℕ). not (word d)) n (c ∷ cs) has)

  -- ---- pieces joined

  pub no_runs : (n : ℕ) → runs n [] ≡ []
  no_runs n = silent (λ (c : ℕ). not (word c)) n [] refl

  -- a text is cut after a character that belongs to no word
  runs_after : (n : ℕ) (xs ys : List ℕ) (x : ℕ) → AllAscii (xs ++ x ∷ ys) → word x ≡ false → runs n (xs ++ x ∷ ys) ≡ runs n xs ++ runs (n + length xs + 1) ys
  runs_after n xs ys x ascii out =
      ap spoken (parts_split (λ (c : ℕ). not (word c)) n xs ys x ascii (ap not out))
      ∙ filter-append (λ (p : Part). list_any letter p.characters) (parts_between (λ (c : ℕ). not (word c)) n xs) (parts_between (λ (c : ℕ). not (word c)) (n + length xs + 1) ys)

  runs_past : (n : ℕ) (x : ℕ) (ys : List ℕ) → x < 128 → word x ≡ false → runs n (x ∷ ys) ≡ runs (n + 1) ys
  unfolding parts_between
  runs_past n x ys ascii out = rw out (ap (λ (k : ℕ). runs (n + k) ys) (one_byte x ascii))

  ends_outside : (p rest : List ℕ) (d : ℕ) → word d ≡ true → IsPiece p (d ∷ rest) → (xs : List ℕ) × (x : ℕ) × (p ≡ xs ++ x ∷ []) × (word x ≡ false)
  ends_outside [] rest d is piece = absurd piece
  ends_outside (c ∷ []) rest d is piece = ([], c, refl, sym (and-true (word c)) ∙ ap (λ (b : Bool). word c && b) (sym is) ∙ piece)
  ends_outside (c ∷ (e ∷ cs)) rest d is piece =
      let later = ends_outside (e ∷ cs) rest d is piece.1 in
      (c ∷ later.0, later.1, ap (λ (l : List ℕ). c ∷ l) later.2, later.3)

  pub runs_join : (n : ℕ) (p rest : List ℕ) → AllAscii (p ++ rest) → IsPiece p rest → runs n (p ++ rest) ≡ runs n p ++ runs (n + length p) rest
  runs_join n p [] ascii piece = ap (runs n) (append-nil p) ∙ sym (ap (λ (ps : List Part). runs n p ++ ps) (no_runs (n + length p)) ∙ append-nil (runs n p))
  runs_join n p (d ∷ rest) ascii piece = by_case (word d) refl
    where
      by_case : (b : Bool) → word d ≡ b → runs n (p ++ d ∷ rest) ≡ runs n p ++ runs (n + length p) (d ∷ rest)
      by_case false out =
          runs_after n p rest d ascii out
          ∙ ap (λ (ps : List Part). runs n p ++ ps) (sym (runs_past (n + length p) d rest (AllAscii-back p (d ∷ rest) ascii).0 out))
      by_case true is =
          let last = ends_outside p rest d is piece in
          let xs = last.0 in
          let x = last.1 in
          let whole : p ++ d ∷ rest ≡ xs ++ x ∷ (d ∷ rest) = ap (λ (l : List ℕ). l ++ d ∷ rest) last.2 ∙ append_assoc xs (x ∷ []) (d ∷ rest) in
          let low : AllAscii (xs ++ x ∷ (d ∷ rest)) = subst AllAscii whole ascii in
          let front : AllAscii (xs ++ x ∷ []) = subst AllAscii last.2 (AllAscii-front p (d ∷ rest) ascii) in
          let size : n + length xs + 1 ≡ n + length p = omega (arith, ap length last.2, length-append xs (x ∷ [])) in
          let alone : runs n p ≡ runs n xs = ap (runs n) last.2 ∙ runs_after n xs [] x front last.3 ∙ ap (λ (ps : List Part). runs n xs ++ ps) (no_runs (n + length xs + 1)) ∙ append-nil (runs n xs) in
          ap (runs n) whole ∙ runs_after n xs (d ∷ rest) x low last.3 ∙ ap₂ (λ (ps : List Part) (k : ℕ). ps ++ runs k (d ∷ rest)) (sym alone) size
