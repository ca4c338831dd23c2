use Rattle.std.proofs.Common.{subst}
use Rattle.ii_store.specs.Index.{Fails}
use Rattle.ii_store.specs.IndexMeta.{meta_view}
use Rattle.ii_store.specs.Segments.{HasContents, contents_of}
use Rattle.ii_store.proofs.CheckLaws.{are_there, files_of, not_there}
use Rattle.ii_store.proofs.commit_check.may_commit.Goals as goal

pub returns-in-Ok-clause-there : goal.returns-in-Ok-clause-there
returns-in-Ok-clause-there g c = λ known may.
    let files = g.D.Directory.seen c.args.directory.now in
    are_there (meta_view c.args.new.now) files (subst (λ segments. HasContents (files_of segments) files) c.as_slice.ensures.value (c.in-Ok.ensures.reports known))

pub returns-in-Index-clause-otherwise : goal.returns-in-Index-clause-otherwise
returns-in-Index-clause-otherwise g c = λ known _ may.
    let files = g.D.Directory.seen c.args.directory.now in
    let at_fault = subst (λ segments. Fails c.in-Err.fault (contents_of (files_of segments) files)) c.as_slice.ensures.value (c.in-Err.ensures.reports known) in
    let failed = subst (λ fault. Fails fault (contents_of (files_of c.args.new.now.segments.items) files)) c.in-Index.is at_fault in
    not_there (meta_view c.args.new.now) files c.in-Index.field-0 failed may
