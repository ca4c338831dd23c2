use Rattle.std.proofs.Common.{length}
use Rattle.ii_io.specs.CompositeWrite.{places_until}
use Rattle.ii_io.proofs.CompositeWriteLemmas.{length-places_until, number_refused, flush_after}
use Rattle.ii_io.proofs.composite_file.composite_write.write_places_and_number.Goals as goal

pub returns-then-is_err-2 : goal.returns-then-is_err-2
returns-then-is_err-2 g c =
    number_refused c.args.writer.now c.write_places-places.new.writer c.serialize-number.new.writer (places_until c.args.starts.now c.args.end) (length c.args.starts.now) c.write_places-places.result c.serialize-number.result (length-places_until c.args.starts.now c.args.end) c.if-is_err.ensures.value c.write_places-places.ensures c.serialize-number.ensures.written

pub returns : goal.returns
returns g c =
    let places = places_until c.args.starts.now c.args.end in
    let number = number_refused c.args.writer.now c.write_places-places.new.writer c.serialize-number.new.writer places (length c.args.starts.now) c.write_places-places.result c.serialize-number.result (length-places_until c.args.starts.now c.args.end) c.if-is_err.ensures.value c.write_places-places.ensures c.serialize-number.ensures.written in
    flush_after c.args.writer.now c.serialize-number.new.writer c.flush.new.self places c.serialize-number.result c.flush.result c.if-is_err-2.ensures.value number c.flush.ensures.written
