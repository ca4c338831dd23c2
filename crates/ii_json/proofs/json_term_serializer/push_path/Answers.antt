use Rattle.std.proofs.Common.{append_assoc, map, take}
use Rattle.std.proofs.lemmas.List.{map_more}
use Rattle.ii_json.specs.JsonTerms.{written_byte}
use Rattle.ii_json.proofs.json_term_serializer.push_path.Goals as goal

pub loop-byte-preserved : goal.loop-byte-preserved
loop-byte-preserved c =
    let l = c.loop-byte in
    let old = c.args.bytes.now.items in
    let more = map_more written_byte c.args.path.now l.byte-index 0 c.loop-byte-test.true in
    rw (c.in_ok-push.ensures.items, l.invariant, c.written_byte.ensures, more) (append_assoc old (map written_byte (take l.byte-index c.args.path.now)) _)
