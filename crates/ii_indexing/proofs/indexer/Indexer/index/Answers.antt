use Rattle.std.proofs.Common.{◌<◌, ◌≡◌, ◌≤◌, ◌++◌, ℕ, Bool, false, sym, ap, ◌∙◌, subst}
use Rattle.std.proofs.lemmas.Result.{err_from_is_err_and}
use Rattle.ii_definitions.specs.Fields.{option_of}
use Rattle.ii_json.specs.LeafVisit.{IsRefusedBy}
use Rattle.ii_indexing.specs.Refusals.{call_fault, content_fault}
use Rattle.ii_definitions.specs.Tokens.{call_pieces}
use Rattle.ii_definitions.specs.IndexCalls.{Takes, call_of, call_with, content_of, doc_of, expands_dots_in, field_of, type_of}
use Rattle.ii_indexing.specs.Indexer.{EndsAt, IndexerState, StoresAll}
use Rattle.ii_indexing.proofs.CallLaws.{ends_later}
use Rattle.ii_indexing.proofs.FieldLists.{takes_inside}
use Rattle.ii_indexing.proofs.indexer.Indexer.index.Goals as goal

pub expands_dots-expand_dots-requires : goal.expands_dots-expand_dots-requires
expands_dots-expand_dots-requires g c =
    let now = c.self.view_is in
    let running : c.args.self.now.failed ≡ false = sym (ap (λ (s : IndexerState). s.failed) now) ∙ c.if-self.false in
    let takes = subst (λ (s : IndexerState). Takes s.schema (field_of c.args.call) (type_of c.args.call)) (sym now) (c.requires.takes running) in
    rw c.field.ensures (takes_inside c.self.inside.schema (field_of c.args.call) (type_of c.args.call) takes)

pub index_call-requires-clause-ends : goal.index_call-requires-clause-ends
index_call-requires-clause-ends g c =
    let now = c.self.view_is in
    let running : c.args.self.now.failed ≡ false = sym (ap (λ (s : IndexerState). s.failed) now) ∙ c.if-self.false in
    let order = subst (λ (s : IndexerState). s.last_doc ≤ doc_of c.args.call) (sym now) (c.requires.order running) in
    ends_later c.self.inside.last_doc (doc_of c.args.call) c.self.inside.fields order (c.self.invariant.1 c.if-self.false).ends

pub returns-in_err-index_call-clause-refused : goal.returns-in_err-index_call-clause-refused
returns-in_err-index_call-clause-refused g c fine ps stored =
    let now = c.self.view_is in
    let st = subst (λ (s : IndexerState). StoresAll c.args.self.now.schema s.fields ps) (sym now) stored in
    let p = err_from_is_err_and c.from_residual.result c.from_residual.ensures.1 in
    let dots = c.expands_dots-expand_dots.ensures ∙ ap (expands_dots_in c.self.inside.schema) c.field.ensures ∙ ap (λ (s : IndexerState). expands_dots_in s.schema (field_of c.args.call)) now in
    let analyze = g.A.TextAnalyzer.words c.args.analyzer.now in
    let told = subst (λ (b : Bool). IsRefusedBy (content_fault analyze (option_of c.args.self.now.schema (field_of c.args.call)) ps (call_with b c.args.call) (content_of b c.args.call)) c.index_call.result) dots
    (c.index_call.ensures.refused c.args.self.now.schema ps (c.requires.takes fine) st) in
    rw (p.1, p.2) (subst (IsRefusedBy (call_fault analyze (option_of c.args.self.now.schema (field_of c.args.call)) ps (call_of c.args.self.now.schema c.args.call))) c.in_err-index_call.was told)

pub returns-clause-stored : goal.returns-clause-stored
returns-clause-stored g c ps stored =
    let now = c.self.view_is in
    let analyze = g.A.TextAnalyzer.words c.args.analyzer.now in
    let running : c.args.self.now.failed ≡ false = sym (ap (λ (s : IndexerState). s.failed) now) ∙ c.if-self.false in
    let st = subst (λ (s : IndexerState). StoresAll s.schema s.fields ps) (sym now) stored in
    let takes = subst (λ (s : IndexerState). Takes s.schema (field_of c.args.call) (type_of c.args.call)) (sym now) (c.requires.takes running) in
    let dots = c.expands_dots-expand_dots.ensures ∙ ap (expands_dots_in c.self.inside.schema) c.field.ensures in
    let told = subst (λ (b : Bool). StoresAll c.self.inside.schema c.index_call.new.self (ps ++ call_pieces analyze (call_with b c.args.call))) dots (c.in_ok-index_call.ensures.stored c.self.inside.schema ps takes st) in
    subst (λ (s : IndexerState). StoresAll c.self.inside.schema c.index_call.new.self (ps ++ call_pieces analyze (call_of s.schema c.args.call))) now told

pub invariant_of-self-2 : goal.invariant_of-self-2
invariant_of-self-2 g c =
    let now = c.self.view_is in
    let old = c.self.invariant.1 c.if-self.false in
    let running : c.args.self.now.failed ≡ false = sym (ap (λ (s : IndexerState). s.failed) now) ∙ c.if-self.false in
    let takes = subst (λ (s : IndexerState). Takes s.schema (field_of c.args.call) (type_of c.args.call)) (sym now) (c.requires.takes running) in (
      c.self.invariant.0,
      λ fine. record {
        few = old.few;
        ends = subst (λ (doc : ℕ). EndsAt doc c.index_call.new.self) (sym c.doc-doc.ensures) c.in_ok-index_call.ensures.ends;
        below = λ some. rw c.doc-doc.ensures (subst (λ (s : IndexerState). doc_of c.args.call < s.num_docs) (sym now) (c.requires.below running));
        writers = c.in_ok-index_call.ensures.fields ∙ old.writers;
        norms = c.in_ok-index_call.ensures.norms ∙ old.norms;
        some = record { pieces = old.some.pieces ++ call_pieces (g.A.TextAnalyzer.words c.args.analyzer.now) (call_with c.expands_dots-expand_dots.result c.args.call); stored = c.in_ok-index_call.ensures.stored c.self.inside.schema old.some.pieces takes old.some.stored };
      },
    )
