use Rattle.std.proofs.Common.{Bool, ◌&&◌, nat_lt, sym, ap, ◌∙◌}
use Rattle.std.proofs.lemmas.Bool.{eq-eqb}
use Rattle.ii_base.specs.declared.doc_id.TheConstants.{TERMINATED}
use Rattle.ii_check.proofs.StrictLemmas.{strict_some}
use Rattle.ii_check.proofs.check.is_strict_block.Goals as goal

pub returns : goal.returns
returns c = λ least up.
    sym (ap (λ (b : Bool). b && nat_lt c.in-Some.last TERMINATED) (eq-eqb c.in-Some.last c.args.last_doc c.if-last-last_doc.false))
    ∙ strict_some c.args.before c.args.width c.in-Some.last c.args.last_doc least c.args.bytes.now up c.in-Some.ensures
