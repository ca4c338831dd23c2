-- What the writers of an index have after successful and failed calls.
use Rattle.std.proofs.Common.{ℕ, ◌≡◌, ◌+◌, Result, Ok, Err, [], refl, subst, arith, List, length, ap, length-append}
use Rattle.ii_io.proofs.WriteSteps.{Grows-trans, wrote_grows, wrote_nothing, full_before, full_more}
use Rattle.ii_recorder.specs.IndexBodies.{AddsBodies, AllGrow, IndexBodiesState, CountsFailures, CountsFailuresOf, begun_file, failed_calls}
use Rattle.ii_recorder.specs.Terms.{FieldBodies}
use Rattle.ii_recorder.specs.Endings.{CountsOnce}
use Rattle.ii_io.specs.CountingWriter.{CountingWriterState, IsFull}
use Rattle.ii_io.specs.CompositeWrite.{HasBodies, CompositeWriteState, places_of}
use Rattle.ii_io.specs.declared.faults.Fault.{Fault}
use Rattle.ii_io.specs.Composite.{Body, bodies_bytes, places_from, table_bytes, written_composite}
use Rattle.ii_io.specs.declared.composite_file.place.Place.{Place}
use Rattle.ii_io.proofs.CompositeSteps.{places_of-bodies}

pub AllGrow-trans : (a b c : IndexBodiesState) → AllGrow a b → AllGrow b c → AllGrow a c
AllGrow-trans a b c h k = record {
  terms = Grows-trans a.terms.writer b.terms.writer c.terms.writer h.terms k.terms;
  postings = Grows-trans a.postings.writer b.postings.writer c.postings.writer h.postings k.postings;
  positions = Grows-trans a.positions.writer b.positions.writer c.positions.writer h.positions k.positions;
}

-- bodies that were started
pub bodies_grow : (a b : IndexBodiesState) (field : ℕ) (bodies : FieldBodies) → AddsBodies a b field bodies → AllGrow a b
bodies_grow a b field bodies h = record {
  terms = wrote_grows a.terms.writer b.terms.writer bodies.terms h.terms.writer;
  postings = wrote_grows a.postings.writer b.postings.writer bodies.postings h.postings.writer;
  positions = wrote_grows a.positions.writer b.positions.writer bodies.positions h.positions.writer;
}

-- a file in which nothing was written yet
pub begun_bodies : (w : CountingWriterState) → HasBodies w (begun_file w) []
begun_bodies w = record { writer = wrote_nothing w; base = refl; starts = refl }

-- all failures, after a call that succeeded
pub three_counted : (old new : IndexBodiesState) (written : Result (Unit {0}) Fault) (x : Unit {0}) (t p q : CountingWriterState) (result : Result (Unit {0}) Fault) → written ≡ Ok x → CountsFailures old new written → CountsFailuresOf new t p q result
    → CountsFailuresOf old t p q result
three_counted old new written x t p q result is first last =
    let none : failed_calls new ≡ failed_calls old = rw is at first.once.ok in
    record {
      once = subst (λ (n : ℕ). CountsOnce n (t.failed_calls + p.failed_calls + q.failed_calls) result) none last.once;
      terms_kept = omega (arith, first.terms_kept, last.terms_kept);
      postings_kept = omega (arith, first.postings_kept, last.postings_kept);
      positions_kept = omega (arith, first.positions_kept, last.positions_kept);
    }

-- one more writer that did not fail
pub counts_more : (a b n m : ℕ) (result : Result (Unit {0}) Fault) → m ≡ n → CountsOnce a b result → CountsOnce (a + n) (b + m) result
counts_more a b n m (Ok x) same h = record { ok = omega (arith, same, h.ok); write = (λ is. absurd (cc), λ more. absurd (omega (arith, same, more, h.ok))); by_one = λ is. absurd (cc) }
counts_more a b n m (Err e) same h = record { ok = tt; write = (λ is. let more = h.write.0 is in omega (arith, same, more), λ more. h.write.1 (omega (arith, same, more))); by_one = λ is. let one = h.by_one is in omega (arith, same, one) }

-- a table without room after bodies: the file has no room
pub table_full : (initial : CountingWriterState) (c : CompositeWriteState) (bodies : List Body) → HasBodies initial c bodies → IsFull c.writer (length (table_bytes (places_of c))) → IsFull initial (length (written_composite bodies))
table_full initial c bodies has full =
    full_before initial c.writer (bodies_bytes bodies) (length (table_bytes (places_of c))) (length (written_composite bodies)) has.writer
    (omega (arith, length-append (bodies_bytes bodies) (table_bytes (places_from 0 bodies)), ap (λ (ps : List Place). length (table_bytes ps)) (places_of-bodies initial c bodies has))) full

-- bodies that have no room: their file has none
pub bodies_full : (initial : CountingWriterState) (bodies : List Body) → IsFull initial (length (bodies_bytes bodies)) → IsFull initial (length (written_composite bodies))
bodies_full initial bodies full = full_more initial (length (bodies_bytes bodies)) (length (written_composite bodies)) (omega (arith, length-append (bodies_bytes bodies) (table_bytes (places_from 0 bodies)))) full
