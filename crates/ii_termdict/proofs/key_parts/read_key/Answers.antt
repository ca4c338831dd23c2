use Rattle.ii_termdict.proofs.DictionaryLemmas.{key_lies}
use Rattle.ii_termdict.proofs.key_parts.read_key.Goals as goal

pub piece-requires : goal.piece-requires
piece-requires c =
    let lies = key_lies c.args.n c.args.ends.now c.args.body.now c.args.i c.requires.within c.requires.rise in
    rw (c.read_start.ensures, c.read_end.ensures) (record { forward = lies.0; within = lies.1 })
