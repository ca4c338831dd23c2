use Rattle.std.proofs.Common.{sym, ◌∙◌}
use Rattle.ii_directory.proofs.NameParse.{bytes_unequal, no_fixed}
use Rattle.ii_directory.proofs.name.fixed_name.Goals as goal

pub returns-in_default-index_name : goal.returns-in_default-index_name
returns-in_default-index_name c = no_fixed c.args.text.now
    (λ e. bytes_unequal c.args.text.now c.as_slice.result.now c.if-eq.ensures (e ∙ sym c.as_slice.ensures))
    (λ e. bytes_unequal c.args.text.now c.as_slice-2.result.now c.if-eq-2.ensures (e ∙ sym c.as_slice-2.ensures))
    c.in_default.ensures c.in_default-index_name.ensures
