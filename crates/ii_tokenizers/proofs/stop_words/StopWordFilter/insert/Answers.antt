use Rattle.std.proofs.Common.{◌∙◌, ap, map}
use Rattle.std.specs.Prelude.{string_bytes}
use Rattle.ii_tokenizers.proofs.StopLemmas.{one_key_more}
use Rattle.ii_tokenizers.proofs.stop_words.StopWordFilter.insert.Goals as goal

pub returns-clause-inserted : goal.returns-clause-inserted
returns-clause-inserted c = ap (map string_bytes) c.in_ok-insert.ensures.keys ∙ one_key_more string_bytes c.args.self.now c.self.inside.words.keys c.self.view_is c.in_ok-default_case_fold_str.field-0 c.args.word.now c.in_ok-default_case_fold_str.ensures
