use Rattle.std.proofs.Common.{[], sym, subst}
use Rattle.std.specs.Prelude.{IfErr, OnOk}
use Rattle.ii_definitions.specs.Tokens.{tokens_after}
use Rattle.ii_postings_writer.specs.ResolvedTerms.{HaveHeldTokens, MayWriteTerms}
use Rattle.ii_indexing.specs.IndexFiles.{IsIndexFault, WroteIndex}
use Rattle.ii_indexing.specs.IndexedTerms.{IndexedTermsState}
use Rattle.ii_indexing.specs.Indexer.{IndexerState, StoresAll}
use Rattle.ii_indexing.proofs.StoredLaws.{have_tokens, hold_ids, may_be_written}
use Rattle.ii_indexing.proofs.indexer.Indexer.finish.Goals as goal

pub write-requires-clause-terms : goal.write-requires-clause-terms
write-requires-clause-terms g c =
    let running = c.self.invariant.1 c.if-failed.false in
    let schema = c.self.inside.schema in
    let fields = c.self.inside.fields.indexed in
    let ts = tokens_after [] running.some.pieces in
    let tokens = running.some.stored.pieces.tokens in
    subst (λ (t : IndexedTermsState). MayWriteTerms schema c.in-Ok.finished.readers t.paths t.terms) (sym c.in-Ok.ensures.terms)
    (record {
      may = may_be_written schema fields ts tokens c.self.inside.num_docs c.self.inside.last_doc c.in-Ok.finished.readers running.ends.terms running.below c.in-Ok.ensures.many;
      ids = hold_ids schema fields ts tokens;
      clean = tokens.known_paths.clean;
    })

pub returns-in-Ok-clause-wrote : goal.returns-in-Ok-clause-wrote
returns-in-Ok-clause-wrote g c ps stored =
    let ts = tokens_after [] ps in
    let st = subst (λ (s : IndexerState). StoresAll s.schema s.fields ps) (sym c.self.view_is) stored in
    let norms = c.in-Ok.ensures.norms ps ts st.pieces.documents in
    let have = subst (λ (t : IndexedTermsState). HaveHeldTokens c.self.inside.schema t.paths t.terms t.writers ts) (sym c.in-Ok.ensures.terms) (have_tokens c.self.inside.schema c.self.inside.fields.indexed ts st.pieces.tokens) in
    subst (λ (s : IndexerState). OnOk c.write.result.1 (WroteIndex s.schema s.num_docs c.args.writers c.write.result.0 ts)) c.self.view_is (c.write.ensures.holds ts norms have)

pub returns-in-Ok-clause-fault : goal.returns-in-Ok-clause-fault
returns-in-Ok-clause-fault g c running ps stored =
    let ts = tokens_after [] ps in
    let st = subst (λ (s : IndexerState). StoresAll s.schema s.fields ps) (sym c.self.view_is) stored in
    let norms = c.in-Ok.ensures.norms ps ts st.pieces.documents in
    let have = subst (λ (t : IndexedTermsState). HaveHeldTokens c.self.inside.schema t.paths t.terms t.writers ts) (sym c.in-Ok.ensures.terms) (have_tokens c.self.inside.schema c.self.inside.fields.indexed ts st.pieces.tokens) in
    subst (λ (s : IndexerState). IfErr c.write.result.1 (IsIndexFault s.schema s.num_docs c.args.writers ts)) c.self.view_is (c.write.ensures.fault ts norms have)
