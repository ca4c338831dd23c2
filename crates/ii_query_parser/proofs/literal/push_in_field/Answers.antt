use Rattle.std.proofs.Common.{◌≡◌, true, rules}
use Rattle.ii_query_parser.proofs.TermLemmas.{entry_adds}
use Rattle.ii_query_parser.proofs.literal.push_in_field.Goals as goal

pub returns : goal.returns
returns g c =
    let indexed : c.get_field_entry-entry.result.now.is_indexed ≡ true = search rules in
    entry_adds (g.A.TextAnalyzer.words c.args.analyzer.now) c.args.schema.now c.args.field c.args.path.now c.args.phrase.now c.get_field_entry-entry.result.now c.value_type.result c.index_record_option.result c.expands_dots.result
    c.args.terms.now.items c.push_terms.new.terms.items c.push_terms.result c.get_field_entry-entry.ensures indexed c.value_type.ensures c.index_record_option.ensures c.expands_dots.ensures c.push_terms.ensures
