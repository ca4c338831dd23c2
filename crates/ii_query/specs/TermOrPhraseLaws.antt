-- Laws of the moves of a cursor over a term or a phrase.
use Rattle.std.specs.Prelude.{ℕ}
use Rattle.ii_query.specs.Phrase.{PhraseTermState, ReadsOnce, Spent}
use Rattle.ii_query.specs.TermOrPhrase.{WentOn}
use Rattle.ii_query.specs.WorkLaws.{all_went_on, none_went}
use Rattle.ii_query.specs.declared.term_or_phrase.TermOrPhrase.{TermOrPhrase}
use Rattle.ii_query.specs.declared.term_or_phrase.TermOrPhrase.TheVariants.{Term, Phrase}

-- no move
pub went_nowhere : {P : Type 0} (went : P → P → Type 0) (spent : ℕ → ℕ → P → P → Type 0) → ((t : P) → went t t) → ((t : P) → Spent spent t t) → ((t : PhraseTermState P) → ReadsOnce spent t t) → (s : TermOrPhrase P) → WentOn went spent s s
went_nowhere went spent none nothing unread (Term cursor) = none cursor
went_nowhere went spent none nothing unread (Phrase cursor) = (none_went (Spent spent) nothing cursor.phrase.cursors, none_went (ReadsOnce spent) unread cursor.phrase.terms)

-- one move after another
pub went_on : {P : Type 0} (went : P → P → Type 0) (spent : ℕ → ℕ → P → P → Type 0) → ((a b c : P) → went a b → went b c → went a c) → ((a b c : P) → Spent spent a b → Spent spent b c → Spent spent a c)
    → ((a b c : PhraseTermState P) → ReadsOnce spent a b → ReadsOnce spent b c → ReadsOnce spent a c)
    → (a b c : TermOrPhrase P) → WentOn went spent a b → WentOn went spent b c → WentOn went spent a c
went_on went spent on more again (Term a) (Term b) (Term c) first second = on a b c first second
went_on went spent on more again (Phrase a) (Phrase b) (Phrase c) first second =
    (all_went_on (Spent spent) more a.phrase.cursors b.phrase.cursors c.phrase.cursors first.0 second.0, all_went_on (ReadsOnce spent) again a.phrase.terms b.phrase.terms c.phrase.terms first.1 second.1)
went_on went spent on more again (Term a) (Term b) (Phrase c) first second = elim second [ ]
went_on went spent on more again (Term a) (Phrase b) c first second = elim first [ ]
went_on went spent on more again (Phrase a) (Term b) c first second = elim first [ ]
went_on went spent on more again (Phrase a) (Phrase b) (Term c) first second = elim second [ ]
