-- Laws of runs.
use Rattle.std.proofs.Common.{◌≡◌, ℕ, Bool, true, false, ◌&&◌, List, [], ◌∷◌, ◌++◌, take, drop, Option, Some, None, refl, sym, ap, ◌∙◌, codes, cond, eqb, eq-eqb, nat_eq, not, append_assoc, inl, inr, Result, Ok, Err}
use Rattle.std.specs.Result.{OnErr, IfOk}
use Rattle.std.specs.Option.{IfSome}
use Rattle.std.specs.List.{onto_first, list_all, starts_with}
use Rattle.std.specs.Io.KnownBytes.{Appends, Keeps}
use Rattle.std.proofs.KnownBytes.{Appends-trans, Appends-nil}
use Rattle.std.proofs.lemmas.Result.{IfOk-weaker}
use Rattle.std.proofs.lemmas.List.{append-nil, take-append-drop}
use Rattle.std.proofs.lemmas.List.Folds.{list_all-append}
use Rattle.iiq.specs.Words.{parts, lines_of}
use Rattle.iiq.specs.declared.commands.CommandSet.{CommandSet}
use Rattle.iiq.specs.declared.session.Session.{Session as SessionKept}
use Rattle.iiq.specs.Known.{IsReply}
use Rattle.iiq.specs.Output.{with_ends, Prints, has_no_error, PrintsAll, PrintsBeginning, PutsBeginning}
use Rattle.iiq.specs.Session.{Session, gathering}
use Rattle.std.proofs.Math.Bool.{and-false}

-- parts are never none
some_part_cases : (c x : ℕ) (xs : List ℕ) (t : Bool) → (q : List ℕ) × (qs : List (List ℕ)) × (parts c xs ≡ q ∷ qs)
    → (q : List ℕ) × (qs : List (List ℕ)) × (cond t ([] ∷ parts c xs) (onto_first x (parts c xs)) ≡ q ∷ qs)
some_part_cases c x xs true rest = ([], parts c xs, refl)
some_part_cases c x xs false rest = (x ∷ rest.0, rest.1, ap (onto_first x) rest.2)

some_part : (c : ℕ) (xs : List ℕ) → (q : List ℕ) × (qs : List (List ℕ)) × (parts c xs ≡ q ∷ qs)
some_part c [] = ([], [], refl)
some_part c (x ∷ xs) = some_part_cases c x xs (eqb x c) (some_part c xs)

onto_append : (x : ℕ) (xs ys : List (List ℕ)) (q : List ℕ) (qs : List (List ℕ)) → xs ≡ q ∷ qs → onto_first x (xs ++ ys) ≡ onto_first x xs ++ ys
onto_append x xs ys q qs e = rw e refl

append_cases : (c x : ℕ) (xs ys : List ℕ) (t : Bool) → parts c (xs ++ c ∷ ys) ≡ parts c xs ++ parts c ys
    → cond t ([] ∷ parts c (xs ++ c ∷ ys)) (onto_first x (parts c (xs ++ c ∷ ys))) ≡ cond t ([] ∷ parts c xs) (onto_first x (parts c xs)) ++ parts c ys
append_cases c x xs ys true ih = ap (λ (rest : List (List ℕ)). [] ∷ rest) ih
append_cases c x xs ys false ih =
    let some = some_part c xs in
    ap (onto_first x) ih ∙ onto_append x (parts c xs) (parts c ys) some.0 some.1 some.2

-- the parts before a separator, and those after it
parts-append : (c : ℕ) (xs ys : List ℕ) → parts c (xs ++ c ∷ ys) ≡ parts c xs ++ parts c ys
parts-append c [] ys = rw (eq-eqb c c refl) refl
parts-append c (x ∷ xs) ys = append_cases c x xs ys (eqb x c) (parts-append c xs ys)

no_error_append : (xs ys : List ℕ) → has_no_error (xs ++ 10 ∷ ys) ≡ (has_no_error xs && has_no_error ys)
no_error_append xs ys =
    ap (list_all (λ line. not (starts_with nat_eq line (codes "error")))) (parts-append 10 xs ys)
    ∙ list_all-append (λ line. not (starts_with nat_eq line (codes "error"))) (lines_of xs) (lines_of ys)

and_assoc : (a b c : Bool) → ((a && b) && c) ≡ (a && (b && c))
and_assoc true b c = refl
and_assoc false b c = refl

and_true : (a : Bool) → (a && true) ≡ a
and_true true = refl
and_true false = refl

-- what follows complete lines is checked by itself
no_error_ends : (texts : List (List ℕ)) (more : List ℕ) → has_no_error (with_ends texts ++ more) ≡ (has_no_error (with_ends texts) && has_no_error more)
no_error_ends [] more = refl
no_error_ends (t ∷ ts) more =
    let left : (t ++ 10 ∷ [] ++ with_ends ts) ++ more ≡ t ++ 10 ∷ (with_ends ts ++ more) = rw (append_assoc, append_assoc) refl in
    let right : t ++ 10 ∷ [] ++ with_ends ts ≡ t ++ 10 ∷ with_ends ts = rw append_assoc refl in
    ap has_no_error left ∙ no_error_append t (with_ends ts ++ more)
    ∙ ap (λ b. has_no_error t && b) (no_error_ends ts more)
    ∙ sym (and_assoc (has_no_error t) (has_no_error (with_ends ts)) (has_no_error more))
    ∙ ap (λ b. b && has_no_error more) (sym (ap has_no_error right ∙ no_error_append t (with_ends ts)))

-- What a run knows that has answered some lines, and has these left for a session.
pub record IsAnswering (commands : CommandSet) (old now : Option (List ℕ)) (text : List ℕ) (left : List (List ℕ)) (s : Session) (fine : Bool) : Type 0 where
  pub written : List ℕ
  pub appends : Appends old now written
  pub prints : (out : List ℕ) → Prints commands s left out → Prints commands (gathering []) (lines_of text) (written ++ out)
  pub fine_is : (more : List ℕ) → has_no_error (written ++ more) ≡ (fine && has_no_error more)

pub answering_first : (commands : CommandSet) (old : Option (List ℕ)) (text : List ℕ) → Appends old old [] → IsAnswering commands old old text (lines_of text) (gathering []) true
answering_first commands old text same = record { written = []; appends = same; prints = λ out p. p; fine_is = λ more. refl }

-- one more line answered, before what is written for the others
prints_line : (commands : CommandSet) (s : Session) (line answer : List ℕ) (left more : List (List ℕ)) (now : SessionKept) (r : IsReply commands s line now answer) (out : List ℕ) → left ≡ line ∷ more → Prints commands r.new more out → Prints commands s left (answer ++ out)
prints_line commands s line answer left more now r out e later =
    rw e (inl (record { new = r.new; texts = r.texts; rest = out; answers = r.answers; out_is = ap (λ (a : List ℕ). a ++ out) r.text_is; others = later }))

-- some text is written for any lines
pub prints_some : (commands : CommandSet) (s : Session) (lines : List (List ℕ)) → (out : List ℕ) × Prints commands s lines out
prints_some commands s [] = ([], refl)
prints_some commands s (line ∷ lines) = (codes "error 1\n", inr refl)

-- What one who answers lines meets next: all that was written, and that these are left.
module _ (commands : CommandSet) (old now new : Option (List ℕ)) (text : List ℕ) (left : List (List ℕ)) (s : Session) (fine : Bool) (a : IsAnswering commands old now text left s fine) where
  -- one more line is answered
  pub answering_next : (line answer : List ℕ) (more : List (List ℕ)) (kept : SessionKept) → left ≡ line ∷ more → (r : IsReply commands s line kept answer) → Appends now new answer → IsAnswering commands old new text more r.new (fine && has_no_error answer)
  answering_next line answer more kept e r appends =
      let known = a.fine_is in
      let prints = a.prints in
      record {
        written = a.written ++ answer;
        appends = Appends-trans old now new a.written answer a.appends appends;
        prints = λ out p. rw append_assoc (prints (answer ++ out) (prints_line commands s line answer left more kept r out e p));
        fine_is = λ rest.
            rw append_assoc (known (answer ++ rest)
            ∙ ap (λ b. fine && b) (rw r.text_is (no_error_ends r.texts rest))
            ∙ sym (and_assoc fine (has_no_error answer) (has_no_error rest)));
      }

  -- memory for a line was refused
  pub answered_no_memory : (line : List ℕ) (more : List (List ℕ)) → left ≡ line ∷ more → Appends now new (codes "error 1\n") → PrintsAll commands old new text false
  answered_no_memory line more e appends =
      let known = a.fine_is in
      let prints = a.prints in
      record {
        out = a.written ++ codes "error 1\n";
        appends = Appends-trans old now new a.written (codes "error 1\n") a.appends appends;
        prints = prints (codes "error 1\n") (rw e (inr refl));
        fine_is = sym (known (codes "error 1\n") ∙ and-false fine);
      }

  -- the writer failed within these bytes, after which the rest of the run would have been written
  pub answered_beginning : (bytes rest : List ℕ) → Prints commands s left (bytes ++ rest) → PutsBeginning now new bytes → PrintsBeginning commands old new text
  answered_beginning bytes rest p (out, after, appends, e) =
      let prints = a.prints in
      let whole : a.written ++ (bytes ++ rest) ≡ (a.written ++ out) ++ (after ++ rest) = rw (e, append_assoc, append_assoc) refl in
      record {
        out = a.written ++ out;
        rest = after ++ rest;
        appends = Appends-trans old now new a.written out a.appends appends;
        prints = rw (← whole) (prints (bytes ++ rest) p);
      }

  -- the writer failed within the answer to a line
  pub answered_part : (line answer : List ℕ) (more : List (List ℕ)) (kept : SessionKept) → left ≡ line ∷ more → IsReply commands s line kept answer → PutsBeginning now new answer → PrintsBeginning commands old new text
  answered_part line answer more kept e r puts =
      let later = prints_some commands r.new more in
      answered_beginning answer later.0 (prints_line commands s line answer left more kept r later.0 e later.1) puts

  -- the writer failed within the last line of a run that found no memory
  pub answered_no_memory_part : (line : List ℕ) (more : List (List ℕ)) → left ≡ line ∷ more → PutsBeginning now new (codes "error 1\n") → PrintsBeginning commands old new text
  answered_no_memory_part line more e puts = answered_beginning (codes "error 1\n") [] (rw (e, append-nil) (inr refl)) puts

-- no line is left
pub answered : (commands : CommandSet) (old now : Option (List ℕ)) (text : List ℕ) (left : List (List ℕ)) (s : Session) (fine : Bool) → IsAnswering commands old now text left s fine → left ≡ [] → PrintsAll commands old now text fine
answered commands old now text left s fine a e =
    let prints = a.prints in
    let known = a.fine_is in
    record {
      out = a.written;
      appends = a.appends;
      prints = rw append-nil at (prints [] (rw e refl));
      fine_is = sym (rw append-nil at (known []) ∙ and_true fine);
    }

-- a run that writes nothing, or that found no memory for its input
lines_some : (text : List ℕ) → (line : List ℕ) × (lines : List (List ℕ)) × (lines_of text ≡ line ∷ lines)
lines_some text = some_part 10 text

pub nothing_answered : (commands : CommandSet) (old : Option (List ℕ)) (text : List ℕ) → Appends old old [] → PrintsBeginning commands old old text
nothing_answered commands old text same =
    let some = prints_some commands (gathering []) (lines_of text) in
    record { out = []; rest = some.0; appends = same; prints = some.1 }

pub no_memory_answered : (commands : CommandSet) (old new : Option (List ℕ)) (text : List ℕ) → Appends old old [] → Appends old new (codes "error 1\n") → PrintsAll commands old new text false
no_memory_answered commands old new text same appends =
    let some = lines_some text in
    answered_no_memory commands old old new text (lines_of text) (gathering []) true (answering_first commands old text same) some.0 some.1 some.2 appends

pub no_memory_answered_part : (commands : CommandSet) (old new : Option (List ℕ)) (text : List ℕ) → Appends old old [] → PutsBeginning old new (codes "error 1\n") → PrintsBeginning commands old new text
no_memory_answered_part commands old new text same puts =
    let some = lines_some text in
    answered_no_memory_part commands old old new text (lines_of text) (gathering []) true (answering_first commands old text same) some.0 some.1 some.2 puts

appends_kept : (a b c : Option (List ℕ)) (bs : List ℕ) → Appends a b bs → Keeps b c → Appends a c bs
appends_kept None b c bs p q = tt
appends_kept (Some x) None c bs p q = absurd p
appends_kept (Some x) (Some y) None bs p q = absurd q
appends_kept (Some x) (Some y) (Some z) bs p q = q ∙ p

pub on_err_from : {A E Q : Type 0} (r : Result A E) → Q → OnErr r Q
on_err_from (Ok x) q = tt
on_err_from (Err e) q = q

-- a flush at the end
pub answered_kept : (commands : CommandSet) (old now new : Option (List ℕ)) (text : List ℕ) (left : List (List ℕ)) (s : Session) (fine : Bool) → IsAnswering commands old now text left s fine → Keeps now new → IsAnswering commands old new text left s fine
answered_kept commands old now new text left s fine a kept = record { written = a.written; appends = appends_kept old now new a.written a.appends kept; prints = a.prints; fine_is = a.fine_is }

module _ {E : Type 0} (r : Result Bool E) (commands : CommandSet) (old now new : Option (List ℕ)) (text : List ℕ) (left : List (List ℕ)) (s : Session) (fine : Bool) (a : IsAnswering commands old now text left s fine) where
  pub answered_all : left ≡ [] → Keeps now new → IfOk r (λ answer. answer ≡ fine) → IfOk r (λ answer. PrintsAll commands old new text answer)
  answered_all e kept same = IfOk-weaker r _ _ (λ answer is. rw is (answered commands old new text left s fine (answered_kept commands old now new text left s fine a kept) e)) same

  pub answered_all_part : left ≡ [] → Keeps now new → OnErr r (PrintsBeginning commands old new text)
  answered_all_part e kept =
      let all = answered commands old new text left s fine (answered_kept commands old now new text left s fine a kept) e in
      on_err_from r (record { out = all.out; rest = []; appends = all.appends; prints = rw append-nil all.prints })

pub ended : {E : Type 0} (r : Result Bool E) (old now new : Option (List ℕ)) (bs : List ℕ) → Appends old now bs → Keeps now new → IfOk r (λ answer. answer ≡ false) → IfOk r (λ answer. (answer ≡ false) × Appends old new bs)
ended (Ok answer) old now new bs front kept same = (same, appends_kept old now new bs front kept)
ended (Err x) old now new bs front kept same = tt

pub ended_part : {E : Type 0} (r : Result Bool E) (old now new : Option (List ℕ)) (bs : List ℕ) → Appends old now bs → Keeps now new → OnErr r (PutsBeginning old new bs)
ended_part (Ok answer) old now new bs front kept = tt
ended_part (Err x) old now new bs front kept = (bs, [], appends_kept old now new bs front kept, sym (append-nil bs))

-- what a failed write leaves is a beginning
pub puts_kept : (a b c : Option (List ℕ)) (bs : List ℕ) (i : ℕ) → Appends a b (take i bs) → Keeps b c → PutsBeginning a c bs
puts_kept a b c bs i front kept = (take i bs, drop i bs, appends_kept a b c (take i bs) front kept, sym (take-append-drop i bs))

pub puts_nothing : (a b c : Option (List ℕ)) (bs : List ℕ) (i : ℕ) → Appends a b (take i bs) → Appends b c [] → PutsBeginning a c bs
puts_nothing a b c bs i front none =
    (take i bs, drop i bs, rw append-nil at (Appends-trans a b c (take i bs) [] front none), sym (take-append-drop i bs))

-- where nothing of the input was answered
pub nothing_read : (commands : CommandSet) (o old : Option (List ℕ)) → IfSome o (λ input. PrintsBeginning commands old old input)
nothing_read commands None old = tt
nothing_read commands (Some input) old = nothing_answered commands old input (Appends-nil old)

pub no_memory_read : {E : Type 0} (commands : CommandSet) (o old new : Option (List ℕ)) (r : Result Bool E) → IfOk r (λ fine. (fine ≡ false) × Appends old new (codes "error 1\n"))
    → IfOk r (λ fine. IfSome o (λ input. PrintsAll commands old new input fine))
no_memory_read commands None old new (Ok fine) h = tt
no_memory_read commands (Some input) old new (Ok fine) h = rw h.0 (no_memory_answered commands old new input (Appends-nil old) h.1)
no_memory_read commands o old new (Err e) h = tt

pub no_memory_read_part : {E : Type 0} (commands : CommandSet) (o old new : Option (List ℕ)) (r : Result Bool E) → OnErr r (PutsBeginning old new (codes "error 1\n"))
    → OnErr r (IfSome o (λ input. PrintsBeginning commands old new input))
no_memory_read_part commands o old new (Ok fine) h = tt
no_memory_read_part commands None old new (Err e) h = tt
no_memory_read_part commands (Some input) old new (Err e) h = no_memory_answered_part commands old new input (Appends-nil old) h
