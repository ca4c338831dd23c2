use Rattle.ii_termdict.specs.TermDictionaryWriter.{keys_between}
use Rattle.ii_termdict.proofs.WriterLemmas.{dictionary_written, dictionary_holds}
use Rattle.ii_termdict.proofs.writer.TermDictionaryWriter.finish.Goals as goal

pub returns-clause-written : goal.returns-clause-written
returns-clause-written g c =
    let keys = keys_between 0 c.self.inside.ends.items c.self.inside.key_bytes.items in
    let whole = dictionary_written c.self.inside.key_bytes.items c.self.inside.ends.items (keys_between 0 c.self.inside.ends.items c.self.inside.key_bytes.items) c.self.inside.term_infos.infos c.self.invariant.0 in
    let put = rw (c.deref.ensures.value, c.deref-2.ensures.value) at c.put_dictionary-written.ensures.written in
    rw (← c.self.view_is) (record { writes = λ e. rw (← whole) put; refused = λ is. absurd (cc) })

pub returns-clause-holds : goal.returns-clause-holds
returns-clause-holds g c =
    let small = rw c.deref-2.ensures.value at c.deref-2.type_inv.0 in
    let same = rw (← c.self.view_is) at c.requires.whole in
    rw (← c.self.view_is)
    (dictionary_holds c.self.inside.key_bytes.items c.self.inside.ends.items (keys_between 0 c.self.inside.ends.items c.self.inside.key_bytes.items) c.self.inside.term_infos.infos c.put_dictionary-written.result c.self.invariant.0 small
    (same c.if-self.false) (c.self.invariant.1 c.if-self.false).1 c.put_dictionary-written.ensures.holds)
