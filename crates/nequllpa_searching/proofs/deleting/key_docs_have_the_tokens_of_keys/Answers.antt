use Rattle.nequllpa_searching.proofs.DeletingLaws.{key_docs_held}
use Rattle.nequllpa_searching.proofs.deleting.key_docs_have_the_tokens_of_keys.Goals as goal

pub returns : goal.returns
returns c = λ entries n index ts alive holds terms docs known given. key_docs_held entries n index ts alive holds terms docs known given
