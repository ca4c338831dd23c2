use Rattle.std.proofs.Common.{map}
use Rattle.ii_folder_promises.proofs.ReplacingLaws.{found_of}
use Rattle.ii_folder_promises.proofs.replacing.documents_with.Goals as goal

pub returns-in-Ok-docs : goal.returns-in-Ok-docs
returns-in-Ok-docs g c = λ entries schema two some are.
    found_of entries schema (g.D.Directory.seen c.args.directory.now) two some c.in-Ok.stored c.in-Ok-open.opened.segments.items c.args.keys.now (map (λ v. v.items) c.in-Ok-docs.docs.items) (c.in-Ok.ensures.answers c.requires) c.in-Ok-open.ensures.segments are c.in-Ok-docs.ensures.found
