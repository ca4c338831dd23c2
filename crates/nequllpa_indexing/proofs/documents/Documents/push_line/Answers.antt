use Rattle.std.proofs.Common.{◌≡◌, ◌++◌, ◌+◌, arith, map, refl, rules, subst, sym, true, nat_lt}
use Rattle.std.proofs.lemmas.List.{map-append}
use Rattle.ii_base.specs.declared.doc_id.TheConstants.{TERMINATED}
use Rattle.ii_definitions.specs.IndexCalls.{MayAllBeIndexed, call_of}
use Rattle.ii_documents.specs.Floats.{counted, skipped_in_line}
use Rattle.nequllpa_indexing.specs.Documents.{AddsRecord, may_be_stored}
use Rattle.nequllpa_indexing.specs.StoredLines.{AreLinesOf, lines_view}
use Rattle.nequllpa_indexing.proofs.DocumentLemmas.{adds_line, lines_more, may_more, one_more}
use Rattle.nequllpa_indexing.proofs.documents.Documents.push_line.Goals as goal

pub invariant_of-self-2 : goal.invariant_of-self-2
invariant_of-self-2 c =
    let s = c.self.inside in
    let calls : c.append.new.self.items ≡ s.calls.items ++ c.in_ok-read.read.calls.items = search rules in
    let records : AddsRecord s.stored s.schema c.args.line.now (lines_view s.lines) (lines_view c.push_record.new.records) = c.in_ok-push_record.ensures.ok in (
      omega (arith, c.if-self-ge-TERMINATED.false),
      subst (MayAllBeIndexed s.schema (s.num_docs + 1)) (sym calls) (may_more s.schema s.num_docs s.calls.items c.in_ok-read.read.calls.items c.self.invariant.1 c.in_ok-read.ensures.each),
      lines_more s.num_docs s.stored s.schema c.args.line.now (lines_view s.lines) (lines_view c.push_record.new.records) c.self.invariant.2 records,
    )

pub returns-clause-ok : goal.returns-clause-ok
returns-clause-ok c =
    let s = c.self.inside in
    let cs = map (call_of s.schema) c.in_ok-read.read.calls.items in
    let calls : c.append.new.self.items ≡ s.calls.items ++ c.in_ok-read.read.calls.items = search rules in
    let room : nat_lt s.num_docs TERMINATED ≡ true = search rules in
    let short : may_be_stored s.stored c.args.line.now ≡ true = search rules in
    let records : AddsRecord s.stored s.schema c.args.line.now (lines_view s.lines) (lines_view c.push_record.new.records) = c.in_ok-push_record.ensures.ok in
    let skipped : c.saturating_add-self-inside.result ≡ counted (s.skipped_floats + skipped_in_line s.floats s.schema c.args.line.now) = omega (arith, c.saturating_add-self-inside.ensures, c.in_ok-read.ensures.skipped) in (
      cs,
      lines_view c.push_record.new.records,
      rw (← c.self.view_is) (adds_line (record { schema = s.schema; num_docs = s.num_docs; calls = map (call_of s.schema) s.calls.items; stored = s.stored; lines = lines_view s.lines; unknown_keys = s.unknown_keys; floats = s.floats; skipped_floats = s.skipped_floats }) cs c.args.line.now room short c.in_ok-read.ensures.gives),
      rw (← c.self.view_is) records,
      rw (← c.self.view_is, calls, skipped, map-append) refl,
    )

pub invariant_of-self-then-is_err : goal.invariant_of-self-then-is_err
invariant_of-self-then-is_err c =
    let s = c.self.inside in
    let calls : c.append.new.self.items ≡ s.calls.items = search rules in
    let back : lines_view c.pop_record.new.records ≡ lines_view s.lines = c.pop_record.ensures (lines_view s.lines) (one_more s.stored s.schema c.args.line.now (lines_view s.lines) (lines_view c.push_record.new.records) c.in_ok-push_record.ensures.ok) in (
      c.self.invariant.0,
      subst (MayAllBeIndexed s.schema s.num_docs) (sym calls) c.self.invariant.1,
      subst (AreLinesOf s.num_docs) (sym back) c.self.invariant.2,
    )

pub returns-then-is_err-clause-err : goal.returns-then-is_err-clause-err
returns-then-is_err-clause-err c =
    let s = c.self.inside in
    let calls : c.append.new.self.items ≡ s.calls.items = search rules in
    let back : lines_view c.pop_record.new.records ≡ lines_view s.lines = c.pop_record.ensures (lines_view s.lines) (one_more s.stored s.schema c.args.line.now (lines_view s.lines) (lines_view c.push_record.new.records) c.in_ok-push_record.ensures.ok) in
    rw (← c.self.view_is, calls, back) refl
