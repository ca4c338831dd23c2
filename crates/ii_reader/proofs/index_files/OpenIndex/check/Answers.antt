use Rattle.std.proofs.Common.{List, None, Some, Option, false, is_some, ap, refl, subst, sym, ◌≡◌, ◌∙◌}
use Rattle.std.specs.Prelude.{◌↔◌}
use Rattle.std.specs.List.{All}
use Rattle.ii_reader.specs.Damage.{first_damaged_field}
use Rattle.ii_reader.specs.InvertedIndexReader.{AllOpen, InvertedIndexReaderState}
use Rattle.ii_reader.specs.OpenIndex.{OpenIndexState}
use Rattle.ii_reader.proofs.index_files.OpenIndex.check.Goals as goal

none_of : {A : Type 0} (o : Option A) → is_some o ≡ false → o ≡ None
none_of None e = refl
none_of (Some x) e = absurd (cc)

pub returns-then-is_some-clause-opens : goal.returns-then-is_some-clause-opens
returns-then-is_some-clause-opens c =
    let readers = ap (λ (index : OpenIndexState). index.readers) (sym c.self.view_is) in
    subst (λ (rs : List InvertedIndexReaderState). (c.in_ok-damage.damage ≡ None) ↔ All AllOpen rs) (c.deref.ensures.value ∙ sym readers) c.in_ok-damage.ensures.opens

pub returns-clause-opens : goal.returns-clause-opens
returns-clause-opens c =
    let readers = ap (λ (index : OpenIndexState). index.readers) (sym c.self.view_is) in
    let opens = subst (λ (rs : List InvertedIndexReaderState). (c.in_ok-damage.damage ≡ None) ↔ All AllOpen rs) (c.deref.ensures.value ∙ sym readers) c.in_ok-damage.ensures.opens in
    let none = none_of c.in_ok-damage.damage (sym c.is_some.ensures ∙ c.if-is_some.false) in
    (λ same. opens.0 none, λ all. refl)

pub returns-clause-found : goal.returns-clause-found
returns-clause-found c =
    let readers = ap (λ (index : OpenIndexState). index.readers) (sym c.self.view_is) in
    let found = subst (λ (rs : List InvertedIndexReaderState). c.in_ok-damage.damage ≡ first_damaged_field rs) (c.deref.ensures.value ∙ sym readers) c.in_ok-damage.ensures.found in
    let none = none_of c.in_ok-damage.damage (sym c.is_some.ensures ∙ c.if-is_some.false) in
    sym none ∙ found
