use Rattle.std.proofs.Common.{◌∙◌, Ok, Some, ap, subst, sym}
use Rattle.std.proofs.lemmas.List.{drop_all}
use Rattle.ii_query_grammar.specs.Trees.{Ast, ast_of}
use Rattle.ii_query_grammar.specs.declared.user_input_ast.UserInputAst.{UserInputAst}
use Rattle.ii_base.specs.declared.doc_id.TheConstants.{TERMINATED}
use Rattle.ii_query_parser.specs.declared.query.Query.TheVariants.{All}
use Rattle.ii_query_parser.specs.QuerySteps.{IsLeftBy}
use Rattle.ii_query_parser.specs.QueryTexts.{AnalyzedFields}
use Rattle.ii_query_parser.proofs.LeftLemmas.{all_left}
use Rattle.ii_query_parser.proofs.TreeLemmas.{all_ast, and_ast, and_not_ast, or_ast}
use Rattle.ii_query_parser.proofs.WordsQueryLemmas.{reads_all}
use Rattle.ii_query_parser.proofs.query_parser.+left_query.Goals as goal

pub queries_of-returns : goal.queries_of-returns
queries_of-returns g t c =
    let q : AnalyzedFields = record { texts = record { analyze = g.F.FieldAnalyzers.words c.args.analyzers.now; entries = c.args.schema.now }; prefixes = g.F.FieldAnalyzers.prefix_words c.args.analyzers.now; defaults = c.args.default_fields.now } in
    rw (← c.deref-part-items.ensures.value) (reads_all q c.deref-part-items.result.now _ c.loop-part.queries (drop_all c.loop-part.part-index c.deref-part-items.result.now c.loop-part-test.false) c.loop-part.invariant)

pub left_query-returns-in-All : goal.left_query-returns-in-All
left_query-returns-in-All g t c =
    let q : AnalyzedFields = record { texts = record { analyze = g.F.FieldAnalyzers.words c.args.analyzers.now; entries = c.args.schema.now }; prefixes = g.F.FieldAnalyzers.prefix_words c.args.analyzers.now; defaults = c.args.default_fields.now } in
    subst (λ (a : Ast). IsLeftBy q a (Ok (Some (All TERMINATED)))) (sym (ap ast_of c.in-All.is ∙ all_ast)) (all_left q)

pub left_query-returns-in-And : goal.left_query-returns-in-And
left_query-returns-in-And g t c =
    let q : AnalyzedFields = record { texts = record { analyze = g.F.FieldAnalyzers.words c.args.analyzers.now; entries = c.args.schema.now }; prefixes = g.F.FieldAnalyzers.prefix_words c.args.analyzers.now; defaults = c.args.default_fields.now } in
    subst (λ (a : Ast). IsLeftBy q a c.and_query.result) (sym (ap ast_of c.in-And.is ∙ and_ast c.in-And.parts)) (c.and_query.ensures q c.queries_of-queries.ensures)

pub left_query-returns-in-Or : goal.left_query-returns-in-Or
left_query-returns-in-Or g t c =
    let q : AnalyzedFields = record { texts = record { analyze = g.F.FieldAnalyzers.words c.args.analyzers.now; entries = c.args.schema.now }; prefixes = g.F.FieldAnalyzers.prefix_words c.args.analyzers.now; defaults = c.args.default_fields.now } in
    subst (λ (a : Ast). IsLeftBy q a c.or_query.result) (sym (ap ast_of c.in-Or.is ∙ or_ast c.in-Or.parts)) (c.or_query.ensures q c.queries_of-queries-in-Or.ensures)

pub left_query-returns-in-AndNot : goal.left_query-returns-in-AndNot
left_query-returns-in-AndNot g t c =
    let q : AnalyzedFields = record { texts = record { analyze = g.F.FieldAnalyzers.words c.args.analyzers.now; entries = c.args.schema.now }; prefixes = g.F.FieldAnalyzers.prefix_words c.args.analyzers.now; defaults = c.args.default_fields.now } in
    subst (λ (a : Ast). IsLeftBy q a c.and_not_query.result) (sym (ap ast_of c.in-AndNot.is ∙ and_not_ast c.in-AndNot.first c.in-AndNot.other))
    (c.and_not_query.ensures q (ast_of c.in-AndNot.first.value) (ast_of c.in-AndNot.other.value)
    (subst (λ (u : UserInputAst). IsLeftBy q (ast_of u) c.left_query-first.result) c.deref.ensures c.left_query-first.ensures)
    (subst (λ (u : UserInputAst). IsLeftBy q (ast_of u) c.left_query-other.result) c.deref-in-AndNot.ensures c.left_query-other.ensures))
