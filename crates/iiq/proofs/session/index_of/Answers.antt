use Rattle.iiq.proofs.SessionLemmas.{gives_index}
use Rattle.iiq.proofs.session.index_of.Goals as goal

pub returns : goal.returns
returns c =
    let made = c.in_ok-schema.ensures.ok in
    gives_index c.in_ok-schema.schema c.args.num_docs c.args.calls.items c.index_in_ram.result made c.requires.many c.index_in_ram.ensures.holds c.index_in_ram.ensures.many c.index_in_ram.ensures.refused c.index_in_ram.ensures.fault
