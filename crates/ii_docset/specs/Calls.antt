-- Calls of a cursor: when they are allowed, their answers, and the state after them.
use Rattle.std.specs.Prelude.{ℕ, ◌+◌, ◌^◌, ◌<◌, ◌⊎◌, Bool, IsTrue, List, [], ◌∷◌, drop, map, ⊤}
use Rattle.std.specs.List.{All}
use Rattle.ii_docset.specs.declared.calls.CursorAnswer.{CursorAnswer}
use Rattle.ii_docset.specs.declared.calls.CursorAnswer.TheVariants as answer
use Rattle.ii_docset.specs.declared.calls.CursorCall.{CursorCall}
use Rattle.ii_docset.specs.declared.calls.CursorCall.TheVariants as call
use Rattle.ii_docset.specs.declared.calls.Walk.{Walk}
use Rattle.ii_docset.specs.Cursor.{IsCurrent, IsTarget, doc_at, from_doc, positions_at, term_freq_at}
use Rattle.ii_base.specs.Entries.{Entry}

-- the mathematical value of an answer
pub data Answer : Type 0 where
  DocIs : ℕ → Answer
  FreqIs : ℕ → Answer
  PositionsAre : List ℕ → Answer

-- the model of an answer
abbrev pub answer_of : CursorAnswer → Answer
answer_of (answer.Doc doc) = DocIs doc
answer_of (answer.Freq freq) = FreqIs freq
answer_of (answer.Positions positions) = PositionsAre positions.items

-- the models of the answers of a walk
abbrev pub answers_in : Walk → List Answer
answers_in walk = map answer_of walk.answers.items

-- A call is allowed in this state of a cursor.
abbrev pub IsAllowed : CursorCall → Bool → List Entry → Type 0
IsAllowed call.Doc one es = ⊤
IsAllowed call.Advance one es = ⊤
IsAllowed (call.Seek target) one es = IsTarget target es
IsAllowed call.TermFreq one es = IsTrue one ⊎ IsCurrent es
IsAllowed (call.Positions offset) one es = IsCurrent es × All (λ (p : ℕ). p + offset < 2 ^ 32) (positions_at es)

-- the answer to a call
abbrev pub answer_to : CursorCall → Bool → List Entry → Answer
answer_to call.Doc one es = DocIs (doc_at es)
answer_to call.Advance one es = DocIs (doc_at (drop 1 es))
answer_to (call.Seek target) one es = DocIs (doc_at (from_doc target es))
answer_to call.TermFreq one es = FreqIs (term_freq_at one es)
answer_to (call.Positions offset) one es = PositionsAre (map (λ (p : ℕ). p + offset) (positions_at es))

-- the remaining documents after a call
abbrev pub rest_after_call : CursorCall → List Entry → List Entry
rest_after_call call.Doc es = es
rest_after_call call.Advance es = drop 1 es
rest_after_call (call.Seek target) es = from_doc target es
rest_after_call call.TermFreq es = es
rest_after_call (call.Positions offset) es = es

-- Each call is allowed in the state that the calls before it leave.
abbrev pub IsLawful : List CursorCall → Bool → List Entry → Type 0
IsLawful [] one es = ⊤
IsLawful (call ∷ calls) one es = IsAllowed call one es × IsLawful calls one (rest_after_call call es)

-- the answers to calls in order
abbrev pub answers_to : List CursorCall → Bool → List Entry → List Answer
answers_to [] one es = []
answers_to (call ∷ calls) one es = answer_to call one es ∷ answers_to calls one (rest_after_call call es)

-- the remaining documents after calls
abbrev pub rest_after : List CursorCall → List Entry → List Entry
rest_after [] es = es
rest_after (call ∷ calls) es = rest_after calls (rest_after_call call es)

-- how often a call reads positions
abbrev pub asked_by : CursorCall → ℕ
asked_by call.Doc = 0
asked_by call.Advance = 0
asked_by (call.Seek target) = 0
asked_by call.TermFreq = 0
asked_by (call.Positions offset) = 1

-- the term frequency of the document whose positions a call reads
abbrev pub count_asked : CursorCall → Bool → List Entry → ℕ
count_asked call.Doc one es = 0
count_asked call.Advance one es = 0
count_asked (call.Seek target) one es = 0
count_asked call.TermFreq one es = 0
count_asked (call.Positions offset) one es = term_freq_at one es

-- the number of calls that read positions
abbrev pub num_asked : List CursorCall → ℕ
num_asked [] = 0
num_asked (call ∷ calls) = asked_by call + num_asked calls

-- the sum of the term frequencies of the documents whose positions the calls read
abbrev pub counts_asked : List CursorCall → Bool → List Entry → ℕ
counts_asked [] one es = 0
counts_asked (call ∷ calls) one es = count_asked call one es + counts_asked calls one (rest_after_call call es)
