use Rattle.ii_promises.proofs.BoundLaws.{within_bounds}
use Rattle.ii_promises.proofs.bounds.norms_stay_within_bounds.Goals as goal

pub returns : goal.returns
returns c = λ docs freqs rest skip are few counts read i k full within.
    within_bounds c.args.norms.now docs freqs rest skip c.bounds_what_is_written.ensures.bounds are few counts read i k full within
