-- Laws of the starts of bodies, up to the file that is read back.
use Rattle.std.proofs.Common.{◌≡◌, ℕ, suc, ◌+◌, ◌-◌, ◌^◌, ◌<◌, Bool, ◌==◌, ◌||◌, map, List, [], ◌∷◌, ◌++◌, length, Result, Ok, Err, true, false, OnOk, refl, sym, ap, ◌∙◌, arith, length-append}
use Rattle.std.proofs.lemmas.List.{map-append}
use Rattle.ii_io.specs.declared.composite_file.place.BodyStart.{BodyStart}
use Rattle.ii_io.specs.declared.faults.Fault.{Fault}
use Rattle.ii_io.specs.CountingWriter.{CountingWriterState, Wrote}
use Rattle.ii_io.proofs.WriteSteps.{Wrote-trans}
use Rattle.ii_io.specs.Composite.{Body, has_place, are_distinct, table_bytes, bodies_bytes, places_from, fit_fields, AreBodies}
use Rattle.ii_io.specs.CompositeWrite.{CompositeWriteState, has_start, open_place, AreStarts, starts_from, places_of, HasBodies, WroteComposite}
use Rattle.ii_io.proofs.CompositeSteps.{places_of-bodies}
use Rattle.ii_io.proofs.CompositeLaws.{reads_written_composites}
use Rattle.ii_io.proofs.CompositeReadLemmas.{distinct-more}

-- a field has a place where it has a start
has_place-starts : (field : ℕ) (ss : List BodyStart) → has_place field (map open_place ss) ≡ has_start field ss
has_place-starts field [] = refl
has_place-starts field (s ∷ ss) = ap (λ (b : Bool). (s.field == field) || b) (has_place-starts field ss)

-- one start more
pub starts-more : (ss : List BodyStart) (s : BodyStart) → AreStarts ss → length ss < 2 ^ 32 - 1 → has_start s.field ss ≡ false → AreStarts (ss ++ s ∷ [])
starts-more ss s are few new = record {
  few = omega (arith, length-append ss (s ∷ []));
  distinct = rw map-append (distinct-more (map open_place ss) (open_place s) are.distinct (has_place-starts s.field ss ∙ new));
}

has_place-bodies : (field start : ℕ) (bodies : List Body) → has_place field (map open_place (starts_from start bodies)) ≡ has_place field (places_from start bodies)
has_place-bodies field start [] = refl
has_place-bodies field start (b ∷ bs) = ap (λ (t : Bool). (b.field == field) || t) (has_place-bodies field (start + length b.bytes) bs)

distinct_bodies : (start : ℕ) (bodies : List Body) → are_distinct (map open_place (starts_from start bodies)) ≡ are_distinct (places_from start bodies)
distinct_bodies start [] = refl
distinct_bodies start (b ∷ bs) = rw (has_place-bodies b.field (start + length b.bytes) bs, distinct_bodies (start + length b.bytes) bs) refl

pub length-starts_from : (start : ℕ) (bodies : List Body) → length (starts_from start bodies) ≡ length bodies
length-starts_from start [] = refl
length-starts_from start (b ∷ bs) = ap suc (length-starts_from (start + length b.bytes) bs)

-- bodies whose starts a table can hold
are_bodies : (bodies : List Body) → AreStarts (starts_from 0 bodies) → fit_fields bodies ≡ true → length (bodies_bytes bodies) < 2 ^ 64 → AreBodies bodies
are_bodies bodies are fields small = record {
  distinct = sym (distinct_bodies 0 bodies) ∙ are.distinct;
  fields = fields;
  few = rw length-starts_from at are.few;
  small = small;
}

-- the bodies, and the table after them
pub closed_bodies : {A : Type 0} (r : Result A Fault) (initial new : CountingWriterState) (c : CompositeWriteState) (bodies : List Body) → AreStarts c.starts → c.writer.written_bytes < 2 ^ 64
    → HasBodies initial c bodies → fit_fields bodies ≡ true → OnOk r (Wrote c.writer new (table_bytes (places_of c))) → OnOk r (WroteComposite initial new bodies)
closed_bodies (Ok x) initial new c bodies are fits h fields e =
    let table = rw (places_of-bodies initial c bodies h) at e in
    let written = h.writer.written_bytes in
    record {
      wrote = Wrote-trans initial c.writer new (bodies_bytes bodies) (table_bytes (places_from 0 bodies)) h.writer table;
      reads_back = reads_written_composites bodies (are_bodies bodies (rw h.starts at are) fields (omega arith));
    }
closed_bodies (Err f) initial new c bodies are fits h fields e = tt
