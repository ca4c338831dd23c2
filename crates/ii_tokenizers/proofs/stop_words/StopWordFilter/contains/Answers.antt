use Rattle.std.proofs.Common.{◌∙◌}
use Rattle.std.specs.Prelude.{string_bytes}
use Rattle.ii_tokenizers.proofs.StopLemmas.{found_key}
use Rattle.ii_tokenizers.proofs.stop_words.StopWordFilter.contains.Goals as goal

pub returns : goal.returns
returns c = c.contains.ensures ∙ found_key string_bytes c.args.self.now c.self.inside.words.keys c.self.view_is c.args.text.now
