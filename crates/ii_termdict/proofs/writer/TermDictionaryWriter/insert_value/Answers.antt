use Rattle.ii_termdict.specs.TermDictionaryWriter.{keys_between}
use Rattle.ii_termdict.proofs.WriterLemmas.{never_limit, without_limit}
use Rattle.ii_termdict.proofs.writer.TermDictionaryWriter.insert_value.Goals as goal

pub returns-clause-only : goal.returns-clause-only
returns-clause-only c =
    let key = rw (← c.self.view_is) at c.requires.key in
    without_limit c.write_term_info-added.result c.write_term_info-added.ensures.only
    (λ limit.
    never_limit c.self.inside.key_bytes.items c.self.inside.ends.items (keys_between 0 c.self.inside.ends.items c.self.inside.key_bytes.items) _ c.self.invariant.0 (key c.if-self.false) (c.write_term_info-added.ensures.limit.0 limit).1)
