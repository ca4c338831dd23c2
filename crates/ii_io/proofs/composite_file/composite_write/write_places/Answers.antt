use Rattle.std.proofs.Common.{take, arith, add-one}
use Rattle.std.specs.List.{flat_map}
use Rattle.std.proofs.lemmas.List.{take_all}
use Rattle.ii_io.specs.Composite.{place_bytes}
use Rattle.ii_io.specs.CompositeWrite.{places_until}
use Rattle.ii_io.proofs.WriteSteps.{Wrote-trans, writes_all, writes_went}
use Rattle.ii_io.proofs.CompositeWriteLemmas.{length-places_until, places_more, place_refused}
use Rattle.ii_io.proofs.composite_file.composite_write.write_places.Goals as goal

pub returns-then-is_err : goal.returns-then-is_err
returns-then-is_err g c =
    place_refused c.args.writer.now c.loop-i.writer c.serialize-place.new.writer (places_until c.args.starts.now c.args.end) c.loop-i.i c.place_of.result c.serialize-place.result c.place_of.ensures c.loop-i.invariant c.if-is_err.ensures.value c.serialize-place.ensures.written

pub loop-i-preserved : goal.loop-i-preserved
loop-i-preserved g c =
    let places = places_until c.args.starts.now c.args.end in
    let more = places_more places c.loop-i.i c.place_of.result c.place_of.ensures in
    let went = writes_went c.loop-i.writer c.serialize-place.new.writer (place_bytes c.place_of.result) c.serialize-place.result c.if-is_err.ensures.value c.serialize-place.ensures.written in
    rw (add-one, more) (Wrote-trans _ _ _ (flat_map place_bytes (take c.loop-i.i places)) (place_bytes c.place_of.result) c.loop-i.invariant went)

pub returns : goal.returns
returns g c =
    let places = places_until c.args.starts.now c.args.end in
    let count = length-places_until c.args.starts.now c.args.end in
    let whole = take_all c.loop-i.i places (omega arith) in
    writes_all c.args.writer.now c.loop-i.writer (flat_map place_bytes places) (rw whole at c.loop-i.invariant)
