use Rattle.std.proofs.Common.{rules}
use Rattle.nequllpa_indexing.proofs.KeyLemmas.{answers_pushed}
use Rattle.nequllpa_indexing.proofs.keyed_lines.KeyedLines.take.Goals as goal

pub returns-in-Ok-line_key-clause-taken : goal.returns-in-Ok-line_key-clause-taken
returns-in-Ok-line_key-clause-taken g c = λ utf8.
    record {
      text = c.trim_ascii-text.result.now;
      trimmed = search rules;
      taken = answers_pushed (g.F.FieldAnalyzers.words c.args.analyzers.now) c.args.documents.now c.args.self.now c.push.new.self c.trim_ascii-text.result.now c.in-Ok-line_key.key.items c.push.result (search rules) (search rules) c.push.ensures.pushed c.push.ensures.memory;
    }
