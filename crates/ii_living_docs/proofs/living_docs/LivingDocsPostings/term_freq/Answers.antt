use Rattle.std.proofs.Common.{◌∙◌, ◌≡◌, ◌⊎◌, inl, inr, arith, refl}
use Rattle.std.specs.Prelude.{IsTrue}
use Rattle.ii_docset.specs.Cursor.{IsCurrent, term_freq_at}
use Rattle.ii_segments.specs.Segments.{living_entries}
use Rattle.ii_living_docs.proofs.LivingLemmas.{current_living, positions_few}
use Rattle.ii_living_docs.proofs.living_docs.LivingDocsPostings.term_freq.Goals as goal

pub term_freq-requires : goal.term_freq-requires
term_freq-requires g c = by (rw (← c.self.view_is) at c.requires)
  where
    by : IsTrue (g.D.DocSet.always_one c.self.inside.inner) ⊎ IsCurrent (living_entries c.self.inside.base c.self.inside.alive.now (g.D.DocSet.rest c.self.inside.inner)) → IsTrue (g.D.DocSet.always_one c.self.inside.inner) ⊎ IsCurrent (g.D.DocSet.rest c.self.inside.inner)
    by (inl one) = inl one
    by (inr current) = inr (current_living c.self.inside.base c.self.inside.alive.now (g.D.DocSet.rest c.self.inside.inner) c.self.invariant.0 c.self.invariant.1 current).current

pub returns-clause-freq : goal.returns-clause-freq
returns-clause-freq g c = rw (← c.self.view_is) (c.term_freq.ensures.freq ∙ by (rw (← c.self.view_is) at c.requires))
  where
    by : IsTrue (g.D.DocSet.always_one c.self.inside.inner) ⊎ IsCurrent (living_entries c.self.inside.base c.self.inside.alive.now (g.D.DocSet.rest c.self.inside.inner))
        → term_freq_at (g.D.DocSet.always_one c.self.inside.inner) (g.D.DocSet.rest c.self.inside.inner) ≡ term_freq_at (g.D.DocSet.always_one c.self.inside.inner) (living_entries c.self.inside.base c.self.inside.alive.now (g.D.DocSet.rest c.self.inside.inner))
    by (inl one) = rw one refl
    by (inr current) = (current_living c.self.inside.base c.self.inside.alive.now (g.D.DocSet.rest c.self.inside.inner) c.self.invariant.0 c.self.invariant.1 current).freq (g.D.DocSet.always_one c.self.inside.inner)

pub returns-clause-positions : goal.returns-clause-positions
returns-clause-positions g c = rw (← c.self.view_is) (omega (arith, positions_few c.self.inside.base c.self.inside.alive.now (g.D.DocSet.rest c.self.inside.inner) c.self.invariant.0 c.self.invariant.1, c.term_freq.ensures.positions))
