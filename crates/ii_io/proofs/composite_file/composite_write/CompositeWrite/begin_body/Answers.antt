use Rattle.ii_io.proofs.CompositeStartLemmas.{starts-more}
use Rattle.ii_io.proofs.composite_file.composite_write.CompositeWrite.begin_body.Goals as goal

pub invariant_of-self-2 : goal.invariant_of-self-2
invariant_of-self-2 g c =
    let requires = rw (← c.self.view_is) at c.requires in
    rw (c.push-pushed.ensures.items, c.in_ok-pushed.was) (starts-more c.self.inside.starts.items _ c.self.invariant (requires.few c.if-self.false) (requires.unwritten c.if-self.false))
