use Rattle.std.proofs.Common.{◌+◌, sym, refl, length}
use Rattle.std.proofs.lemmas.Bool.{ltb-true}
use Rattle.std.proofs.lemmas.Option.{slice_get_read}
use Rattle.ii_definitions.specs.JsonKeys.{path_in, type_in}
use Rattle.ii_reader.proofs.JsonLemmas.{type_of_letter}
use Rattle.ii_reader.proofs.json_keys.type_in.Goals as goal

pub returns : goal.returns
unfolding type_in
returns c =
    let key = c.args.key.now in
    let lookup = rw c.path_len.ensures at c.in_ok-code.ensures.lookup in
    let found = slice_get_read key (length key) (length (path_in key) + 1) c.in_ok-code.code.now refl (ltb-true _ _ (sym lookup.0)) lookup.1 in
    rw found (type_of_letter c.from_code.result c.in_ok-code.code.now c.from_code.ensures)
