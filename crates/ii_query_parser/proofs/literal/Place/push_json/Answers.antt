use Rattle.std.proofs.Common.{◌≡◌, ◌∙◌, [], true, false, rules, ap, sym}
use Rattle.ii_base.specs.Options.{has_positions}
use Rattle.ii_base.specs.Paths.{has_zero}
use Rattle.ii_query_parser.proofs.TermLemmas.{json_adds, zero_refused}
use Rattle.ii_query_parser.proofs.literal.Place.push_json.Goals as goal

pub returns-then-contains : goal.returns-then-contains
returns-then-contains g c =
    let zero : has_zero c.args.path.now ≡ true = search rules in
    zero_refused (record { analyze = g.A.TextAnalyzer.words c.args.analyzer.now; entries = [] }) c.args.self.field (has_positions c.args.self.option) c.args.self.expand_dots c.args.path.now c.args.phrase.now c.args.terms.now.items zero

pub returns : goal.returns
returns g c =
    let zero : has_zero c.args.path.now ≡ false = ap has_zero (sym c.as_bytes.ensures.value) ∙ sym c.contains.ensures.value ∙ c.if-contains.false in
    json_adds (record { analyze = g.A.TextAnalyzer.words c.args.analyzer.now; entries = [] }) c.args.self.field (has_positions c.args.self.option) c.args.self.expand_dots c.args.path.now c.args.phrase.now
    c.in_ok-start.start c.in_ok-prefix.prefix c.in_ok-value.value c.in_ok-words.words c.args.terms.now.items c.push_words.new.terms.items c.push_words.result zero c.in_ok-start.ensures.ok c.in_ok-value.ensures.ok c.in_ok-prefix.ensures.ok c.in_ok-words.ensures.ok c.push_words.ensures
