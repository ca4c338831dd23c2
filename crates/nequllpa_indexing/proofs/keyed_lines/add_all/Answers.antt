use Rattle.std.proofs.Common.{◌≡◌, ◌∙◌, ◌++◌, ◌∷◌, [], List, append_assoc, subst}
use Rattle.nequllpa_indexing.specs.Documents.{AddsLine}
use Rattle.nequllpa_indexing.specs.KeyedLines.{line_view}
use Rattle.nequllpa_indexing.specs.declared.keyed_lines.KeyedLine.{KeyedLine}
use Rattle.nequllpa_indexing.proofs.KeyLemmas.{adds_more, stops_after, terms_more}
use Rattle.nequllpa_indexing.proofs.keyed_lines.add_all.Goals as goal

pub returns-in_default-clause-fault : goal.returns-in_default-clause-fault
returns-in_default-clause-fault c =
    let l = c.loop-line in
    let whole = subst (λ (rest : List KeyedLine). l.yielded ++ rest ≡ c.args.lines.items) c.in-Some.ensures.steps.0 l.invariant.whole in
    let more : AddsLine l.documents c.push_line.new.self (line_view c.in-Some.line).text = subst (AddsLine l.documents c.push_line.new.self) c.as_str.ensures.value c.in-Ok.ensures.ok in
    stops_after c.args.documents.now l.documents c.push_line.new.self c.args.lines.items l.yielded c.next.new.self.rest.items c.in-Some.line whole l.invariant.added more

pub returns-in_default-push-clause-fault : goal.returns-in_default-push-clause-fault
returns-in_default-push-clause-fault c =
    let l = c.loop-line in
    let whole = subst (λ (rest : List KeyedLine). l.yielded ++ rest ≡ c.args.lines.items) c.in-Some.ensures.steps.0 l.invariant.whole in
    let more : AddsLine l.documents c.push_line.new.self (line_view c.in-Some.line).text = subst (AddsLine l.documents c.push_line.new.self) c.as_str.ensures.value c.in-Ok.ensures.ok in
    stops_after c.args.documents.now l.documents c.push_line.new.self c.args.lines.items l.yielded c.next.new.self.rest.items c.in-Some.line whole l.invariant.added more

pub loop-line-preserved : goal.loop-line-preserved
loop-line-preserved c =
    let l = c.loop-line in
    let rest = c.next.new.self.rest.items in
    let whole = subst (λ (rest : List KeyedLine). l.yielded ++ rest ≡ c.args.lines.items) c.in-Some.ensures.steps.0 l.invariant.whole in
    let more : AddsLine l.documents c.push_line.new.self (line_view c.in-Some.line).text = subst (AddsLine l.documents c.push_line.new.self) c.as_str.ensures.value c.in-Ok.ensures.ok in
    record {
      whole = append_assoc l.yielded (c.in-Some.line ∷ []) rest ∙ whole;
      added = adds_more c.args.documents.now l.documents c.push_line.new.self c.args.lines.items l.yielded rest c.in-Some.line whole l.invariant.added more;
      keys = terms_more c.args.field l.yielded c.in-Some.line l.keys.items c.push.new.self.items c.in-Ok-from_field_bytes.key c.as_slice.result.now l.invariant.keys c.in-Ok-from_field_bytes.ensures.ok c.as_slice.ensures.value c.in-Ok-push.ensures.items;
    }
