-- Laws of bytes that are written in steps.
use Rattle.std.proofs.Common.{◌≡◌, ◌<◌, ◌≤◌, ℕ, ◌+◌, true, false, List, [], ◌∷◌, ◌++◌, length, take, Bool, Result, Ok, Err, is_err, refl, sym, subst, ◌∙◌, arith, length-append, ⊎_elim, inl, inr}
use Rattle.std.specs.Prelude.{OnOk}
use Rattle.std.proofs.KnownBytes.{Appends-nil, Appends-trans}
use Rattle.std.proofs.lemmas.List.{length-take, take-append-le, append-nil}
use Rattle.std.proofs.Math.Seq.{take-append-add}
use Rattle.ii_io.specs.declared.faults.Fault.{Fault}
use Rattle.ii_io.specs.declared.faults.Fault.TheVariants.{Limit}
use Rattle.ii_io.specs.declared.faults.LimitName.TheVariants.{Offset}
use Rattle.ii_io.specs.CountingWriter.{CountingWriterState, Wrote, WrotePrefix, Grows, IsFull, Writes, WritesInMemory, WritesUnlessClosed}

-- a count that overflows with fewer bytes overflows with more
pub full_more : (writer : CountingWriterState) (n size : ℕ) → n ≤ size → IsFull writer n → IsFull writer size
full_more writer n size within full = ⊎_elim (λ past. inl (omega arith)) (λ most. inr most) full

-- a count that overflows after some bytes overflows for all of them, and the other way round
pub full_before : (a b : CountingWriterState) (bytes : List ℕ) (more size : ℕ) → Wrote a b bytes → length bytes + more ≤ size → IsFull b more → IsFull a size
full_before a b bytes more size wrote within full =
    let written_bytes = wrote.written_bytes in
    ⊎_elim (λ past. inl (omega arith)) (λ most. inr (sym wrote.failed_calls ∙ most)) full

pub full_after : (a b : CountingWriterState) (bytes : List ℕ) (more size : ℕ) → Wrote a b bytes → size ≤ length bytes + more → IsFull a size → IsFull b more
full_after a b bytes more size wrote within full =
    let written_bytes = wrote.written_bytes in
    ⊎_elim (λ past. inl (omega arith)) (λ most. inr (wrote.failed_calls ∙ most)) full

fits_both : (a b c : CountingWriterState) (xs ys : List ℕ) → Wrote a b xs → Wrote b c ys → 0 < length (xs ++ ys) → ¬ IsFull a (length (xs ++ ys))
fits_both a b c xs [] front back some full = front.fits (rw append-nil at some) (rw append-nil at full)
fits_both a b c xs (y ∷ ys) front back some full = back.fits (omega arith) (full_after a b xs (length (y ∷ ys)) (length (xs ++ y ∷ ys)) front (omega (arith, length-append xs (y ∷ ys))) full)

-- no bytes
pub wrote_nothing : (a : CountingWriterState) → Wrote a a []
wrote_nothing a = record { appends = Appends-nil a.contents; written_bytes = omega arith; failed_calls = refl; fits = λ some. absurd (omega arith) }

-- bytes after others
pub Wrote-trans : (a b c : CountingWriterState) (xs ys : List ℕ) → Wrote a b xs → Wrote b c ys → Wrote a c (xs ++ ys)
Wrote-trans a b c xs ys front back = record {
  appends = Appends-trans a.contents b.contents c.contents xs ys front.appends back.appends;
  written_bytes = let one = front.written_bytes in let two = back.written_bytes in omega (arith, length-append xs ys);
  failed_calls = back.failed_calls ∙ front.failed_calls;
  fits = fits_both a b c xs ys front back;
}

-- a prefix of bytes is a prefix of their extension
pub prefix_of_more : (a b : CountingWriterState) (xs ys : List ℕ) → WrotePrefix a b xs → WrotePrefix a b (xs ++ ys)
prefix_of_more a b xs ys h = record {
  count = h.count;
  within = let within = h.within in omega (arith, length-append xs ys);
  appends = rw (take-append-le h.count xs ys h.within) h.appends;
  written_bytes = h.written_bytes;
  failed_calls = h.failed_calls;
}

-- a prefix after complete bytes
pub prefix_after : (a b c : CountingWriterState) (xs ys : List ℕ) → Wrote a b xs → WrotePrefix b c ys → WrotePrefix a c (xs ++ ys)
prefix_after a b c xs ys front h = record {
  count = length xs + h.count;
  within = let within = h.within in omega (arith, length-append xs ys);
  appends = rw (take-append-add xs ys h.count) (Appends-trans a.contents b.contents c.contents xs _ front.appends h.appends);
  written_bytes = let one = front.written_bytes in let two = h.written_bytes in omega arith;
  failed_calls = let same = front.failed_calls in let more = h.failed_calls in omega arith;
}

-- nothing is a prefix
pub prefix_of_all : (a : CountingWriterState) (xs : List ℕ) → WrotePrefix a a xs
prefix_of_all a xs = record { count = 0; within = omega arith; appends = Appends-nil a.contents; written_bytes = omega arith; failed_calls = omega arith }

-- a call that writes after earlier bytes
pub writes_then : (a b c : CountingWriterState) (xs ys : List ℕ) (result : Result (Unit {0}) Fault) → Wrote a b xs → Writes b c ys result → Writes a c (xs ++ ys) result
writes_then a b c xs ys (Ok u) h k = record { ok = Wrote-trans a b c xs ys h k.ok; write = rw (← h.failed_calls) k.write; by_one = λ e. absurd (cc); limit = λ e. absurd (cc); prefix = tt; only = tt }
writes_then a b c xs ys (Err e) h k = record {
  ok = tt;
  write = rw (← h.failed_calls) k.write;
  by_one = rw (← h.failed_calls) k.by_one;
  limit = λ is. full_before a b xs (length ys) (length (xs ++ ys)) h (omega (arith, length-append xs ys)) (k.limit is);
  prefix = prefix_after a b c xs ys h k.prefix;
  only = k.only;
}

-- a failed call, whatever was to follow
pub writes_refused : (a b : CountingWriterState) (xs ys : List ℕ) (e : Fault) → Writes a b xs (Err e) → Writes a b (xs ++ ys) (Err e)
writes_refused a b xs ys e h =
    record { ok = tt; write = h.write; by_one = h.by_one; limit = λ is. full_more a (length xs) (length (xs ++ ys)) (omega (arith, length-append xs ys)) (h.limit is); prefix = prefix_of_more a b xs ys h.prefix; only = h.only }

pub writes_refused_by : (a b : CountingWriterState) (xs ys : List ℕ) (result : Result (Unit {0}) Fault) → true ≡ is_err result → Writes a b xs result → Writes a b (xs ++ ys) result
writes_refused_by a b xs ys (Ok u) e h = absurd (cc)
writes_refused_by a b xs ys (Err f) e h = writes_refused a b xs ys f h

-- a call that succeeded
pub writes_went : (a b : CountingWriterState) (xs : List ℕ) (result : Result (Unit {0}) Fault) → false ≡ is_err result → Writes a b xs result → Wrote a b xs
writes_went a b xs (Ok u) e h = h.ok
writes_went a b xs (Err f) e h = absurd (cc)

-- a call after one that succeeded
pub writes_both : (a b c : CountingWriterState) (xs ys : List ℕ) (first result : Result (Unit {0}) Fault) → false ≡ is_err first → Writes a b xs first → Writes b c ys result → Writes a c (xs ++ ys) result
writes_both a b c xs ys first result went h k = writes_then a b c xs ys result (writes_went a b xs first went h) k

-- what a call that succeeded ensures
pub on_ok_went : {P : Type 0} (result : Result (Unit {0}) Fault) → false ≡ is_err result → OnOk result P → P
on_ok_went (Ok u) e h = h
on_ok_went (Err f) e h = absurd (cc)

-- a call that wrote all its bytes
pub writes_all : (a b : CountingWriterState) (xs : List ℕ) → Wrote a b xs → Writes a b xs (Ok tt)
writes_all a b xs h =
    let same = h.failed_calls in
    record { ok = h; write = (λ e. absurd (cc), λ more. absurd (omega arith)); by_one = λ e. absurd (cc); limit = λ e. absurd (cc); prefix = tt; only = tt }

-- a call that fails without writing, because a count is full
pub writes_limit : (a : CountingWriterState) (xs : List ℕ) → IsFull a (length xs) → Writes a a xs (Err (Limit Offset))
writes_limit a xs full = record { ok = tt; write = (λ e. absurd (cc), λ more. absurd (omega arith)); by_one = λ e. absurd (cc); limit = λ e. full; prefix = prefix_of_all a xs; only = inr refl }

-- the same for calls that may fail with `OutOfMemory`
pub memory_then : (a b c : CountingWriterState) (xs ys : List ℕ) (result : Result (Unit {0}) Fault) → Wrote a b xs → WritesInMemory false b c ys result → WritesInMemory false a c (xs ++ ys) result
memory_then a b c xs ys result h k = record {
  writes = λ still had. writes_then a b c xs ys result h (k.writes still had);
  memory = λ none. let found = k.memory none in (prefix_after a b c xs ys h found.0, found.1 ∙ h.failed_calls);
  refused = λ closed. absurd (cc);
}

pub memory_refused_by : (a b : CountingWriterState) (xs ys : List ℕ) (result : Result (Unit {0}) Fault) → true ≡ is_err result → WritesInMemory false a b xs result → WritesInMemory false a b (xs ++ ys) result
memory_refused_by a b xs ys result refused k = record {
  writes = λ still had. writes_refused_by a b xs ys result refused (k.writes still had);
  memory = λ none. let found = k.memory none in (prefix_of_more a b xs ys found.0, found.1);
  refused = λ closed. absurd (cc);
}

-- an unchanged writer grew by nothing
pub grows_not : (a b : CountingWriterState) → b ≡ a → Grows a b
grows_not a b same = subst (Grows a) (sym same) (record { bytes = []; appends = Appends-nil a.contents; written_bytes = omega arith })

pub wrote_grows : (a b : CountingWriterState) (xs : List ℕ) → Wrote a b xs → Grows a b
wrote_grows a b xs h = record { bytes = xs; appends = h.appends; written_bytes = h.written_bytes }

pub prefix_grows : (a b : CountingWriterState) (xs : List ℕ) → WrotePrefix a b xs → Grows a b
prefix_grows a b xs h =
    let within = h.within in
    let written = h.written_bytes in
    record { bytes = take h.count xs; appends = h.appends; written_bytes = omega (arith, length-take h.count xs) }

pub Grows-trans : (a b c : CountingWriterState) → Grows a b → Grows b c → Grows a c
Grows-trans a b c h k = record {
  bytes = h.bytes ++ k.bytes;
  appends = Appends-trans a.contents b.contents c.contents h.bytes k.bytes h.appends k.appends;
  written_bytes = let one = h.written_bytes in let two = k.written_bytes in omega (arith, length-append h.bytes k.bytes);
}

pub writes_grows : (a b : CountingWriterState) (xs : List ℕ) (result : Result (Unit {0}) Fault) → Writes a b xs result → Grows a b
writes_grows a b xs (Ok u) h = wrote_grows a b xs h.ok
writes_grows a b xs (Err e) h = prefix_grows a b xs h.prefix

pub unless_closed_grows : (is_closed : Bool) (a b : CountingWriterState) (xs : List ℕ) (result : Result (Unit {0}) Fault) → WritesUnlessClosed is_closed a b xs result → Grows a b
unless_closed_grows false a b xs result h = writes_grows a b xs result (h.writes refl)
unless_closed_grows true a b xs result h = grows_not a b (h.refused refl).1
