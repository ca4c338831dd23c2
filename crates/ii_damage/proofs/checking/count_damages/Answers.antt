use Rattle.std.proofs.Common.{◌≡◌, rules, true}
use Rattle.std.specs.Prelude.{is_some}
use Rattle.ii_io.specs.Composite.{table_of}
use Rattle.ii_damage.specs.Damages.{field_entries, num_occurrences}
use Rattle.ii_damage.specs.Walked.{HasCounts}
use Rattle.ii_damage.proofs.ListedLemmas.{counts_listed}
use Rattle.ii_damage.proofs.checking.count_damages.Goals as goal

pub returns-clause-found : goal.returns-clause-found
returns-clause-found c =
    let files = c.args.files.now in
    let reader = c.args.reader.now in
    let whole : is_some (table_of files.terms) ≡ true = search rules in
    let counts : HasCounts files.num_docs (field_entries reader) c.as_slice.result.now = rw c.as_slice.ensures.value c.requires.counts in
    counts_listed files c.args.field c.args.entry.now reader c.all_keep_counts-all_kept.result c.total_num_tokens-num_tokens.result c.tokens_damage-tokens.result c.in_ok-norms.norms c.push_some.new.found.items c.push_some-2.new.found.items
    whole c.all_keep_counts-all_kept.ensures c.total_num_tokens-num_tokens.ensures.value (c.tokens_damage-tokens.ensures (num_occurrences (field_entries reader)) c.requires.tokens)
    (c.in_ok-norms.ensures.found (field_entries reader) counts) (search rules) c.in_ok-push_some-2.ensures.found
