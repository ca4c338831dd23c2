use Rattle.ii_directory.specs.declared.name.Kind.TheVariants.{Terms, Postings, Positions, FieldNorms}
use Rattle.ii_damage.specs.Damages.{table_damage}
use Rattle.ii_damage.proofs.TableLists.{four}
use Rattle.std.proofs.Common.{rules}
use Rattle.ii_damage.proofs.checking.table_damages.Goals as goal

pub returns-clause-found : goal.returns-clause-found
returns-clause-found c =
    let files = c.args.files.now in
    four (table_damage files Terms) (table_damage files Postings) (table_damage files Positions) (table_damage files FieldNorms) _ _ _ c.push_table-4.new.found.items
    (search rules) c.in_ok-push_table-2.ensures.found c.in_ok-push_table-3.ensures.found (search rules)
