use Rattle.std.proofs.Common.{◌∙◌, ◌<◌, ◌+◌, ◌++◌, List, drop, refl, sym, ap, subst, arith}
use Rattle.std.specs.List.{AllByRecursion}
use Rattle.std.proofs.lemmas.List.Elements.{recursion_from_All}
use Rattle.ii_base.specs.declared.doc_id.TheConstants.{TERMINATED}
use Rattle.ii_base.specs.Entries.{Entry}
use Rattle.ii_alive.specs.Alive.{num_living, rank}
use Rattle.ii_docset.specs.Cursor.{FitsU32, doc_at}
use Rattle.ii_docset.proofs.CursorLemmas.{nothing_left}
use Rattle.ii_segments.specs.Segments.{living_entries}
use Rattle.ii_merger.specs.MergeSources.{entries_damage}
use Rattle.ii_merger.specs.MergedTerm.{IsPushFault, Merges, skip_of}
use Rattle.ii_merger.proofs.DocLemmas.{first_of, plain_at}
use Rattle.ii_merger.proofs.ListLemmas.{IsPlain}
use Rattle.ii_merger.proofs.ListingLemmas.{IsListing, listing_all, listing_fault, listing_next, listing_none}
use Rattle.ii_merger.proofs.NumberLemmas.{living_between, lower_between}
use Rattle.ii_merger.proofs.pushing.push_list.Goals as goal

pub loop-doc-init : goal.loop-doc-init
loop-doc-init g c = record {
  here = c.doc-doc.ensures.doc;
  sound = c.doc-doc.ensures.sound;
  same = refl;
  listing = listing_none c.args.term.key.now c.args.term.kind c.args.alive.now c.args.base c.args.begun c.args.serializer.now.index.now c.args.postings.now.rest c.requires.may;
}

pub push_doc-requires-clause-plain : goal.push_doc-requires-clause-plain
push_doc-requires-clause-plain g c plain =
    let h = c.loop-doc.invariant.listing in
    plain_at h.done c.loop-doc.postings.rest (subst (AllByRecursion IsPlain) h.parts (c.requires.plain plain))

pub returns-in-Err-clause-docs : goal.returns-in-Err-clause-docs
returns-in-Err-clause-docs g c =
    let all = living_between c.args.base c.args.alive.now 0 c.args.postings.now.rest (omega arith) c.doc-doc.ensures.sound.ascending in
    lower_between c.args.base (c.args.base + rank c.args.alive.now 0) (c.args.base + num_living c.args.alive.now) (living_entries c.args.base c.args.alive.now c.args.postings.now.rest) (omega arith) all

pub returns-in-Err-clause-fits : goal.returns-in-Err-clause-fits
returns-in-Err-clause-fits g c = recursion_from_All FitsU32 c.args.postings.now.rest c.doc-doc.ensures.sound.fits

pub returns-in-Err-clause-fault : goal.returns-in-Err-clause-fault
returns-in-Err-clause-fault g c old es start merges =
    let rest = c.loop-doc.postings.rest in
    let here = c.loop-doc.invariant.here in
    let low : doc_at rest < TERMINATED = omega (arith, c.loop-doc-test.true, here) in
    let first = first_of rest low in
    let key = c.args.term.key.now in
    let kind = c.args.term.kind in
    let alive = c.args.alive.now in
    let base = c.args.base in
    let now = c.loop-doc.serializer.index.now in
    listing_fault key kind alive base c.args.begun c.args.serializer.now.index.now c.args.postings.now.rest rest c.loop-doc.begun now c.loop-doc.invariant.listing first.entry (drop 1 rest) first.is c.in-Err.fault old es start merges
    (λ (xs : List Entry) (m : Merges c.loop-doc.begun key kind old now xs).
    subst (λ (one : List Entry). IsPushFault (entries_damage kind alive one) (skip_of old.field.term.mode kind) kind (xs ++ living_entries base alive one) c.in-Err.fault) first.alone (c.in-Err.ensures.fault old xs start m))

pub loop-doc-preserved : goal.loop-doc-preserved
loop-doc-preserved g c =
    let rest = c.loop-doc.postings.rest in
    let here = c.loop-doc.invariant.here in
    let low : doc_at rest < TERMINATED = omega (arith, c.loop-doc-test.true, here) in
    let first = first_of rest low in
    let key = c.args.term.key.now in
    let kind = c.args.term.kind in
    let alive = c.args.alive.now in
    let base = c.args.base in
    let now = c.loop-doc.serializer.index.now in
    let after = c.advance-doc.ensures.rest ∙ ap (drop 1) c.push_doc.ensures.rest in
    let next = listing_next key kind alive base c.args.begun c.args.serializer.now.index.now c.args.postings.now.rest rest c.loop-doc.begun now c.loop-doc.invariant.listing first.entry (drop 1 rest) first.is c.in-Ok.begun c.push_doc.new.serializer.index.now
    c.loop-doc.invariant.sound.ascending
    (λ old es start m. subst (λ (one : List Entry). Merges c.in-Ok.begun key kind old c.push_doc.new.serializer.index.now (es ++ living_entries base alive one)) first.alone (c.in-Ok.ensures.merges old es start m))
    (sym (ap (entries_damage kind alive) first.alone) ∙ c.in-Ok.ensures.sound) c.in-Ok.ensures.ends in
    record {
      here = c.advance-doc.ensures.doc;
      sound = c.advance-doc.ensures.sound;
      same = c.push_doc.ensures.same_reference ∙ c.loop-doc.invariant.same;
      listing = subst (λ (es : List Entry). IsListing key kind alive base c.args.begun c.args.serializer.now.index.now c.args.postings.now.rest es c.in-Ok.begun c.push_doc.new.serializer.index.now) (sym after) next;
    }

pub returns-clause-merges : goal.returns-clause-merges
returns-clause-merges g c old es start merges =
    let rest = c.loop-doc.postings.rest in
    let here = c.loop-doc.invariant.here in
    let h = c.loop-doc.invariant.listing in
    let none = nothing_left rest c.loop-doc.invariant.sound.ascending (omega (arith, here, c.loop-doc-test.false)) in
    let all = listing_all c.args.term.key.now c.args.term.kind c.args.alive.now c.args.base c.args.begun c.args.serializer.now.index.now c.args.postings.now.rest rest c.loop-doc.begun c.loop-doc.serializer.index.now h (sym none) in
    subst (λ (xs : List Entry). Merges c.loop-doc.begun c.args.term.key.now c.args.term.kind old c.loop-doc.serializer.index.now (es ++ living_entries c.args.base c.args.alive.now xs)) (sym all) (h.merges old es start merges)

pub returns-clause-docs : goal.returns-clause-docs
returns-clause-docs g c =
    let all = living_between c.args.base c.args.alive.now 0 c.args.postings.now.rest (omega arith) c.doc-doc.ensures.sound.ascending in
    lower_between c.args.base (c.args.base + rank c.args.alive.now 0) (c.args.base + num_living c.args.alive.now) (living_entries c.args.base c.args.alive.now c.args.postings.now.rest) (omega arith) all

pub returns-clause-sound : goal.returns-clause-sound
returns-clause-sound g c =
    let rest = c.loop-doc.postings.rest in
    let here = c.loop-doc.invariant.here in
    let h = c.loop-doc.invariant.listing in
    let none = nothing_left rest c.loop-doc.invariant.sound.ascending (omega (arith, here, c.loop-doc-test.false)) in
    let all = listing_all c.args.term.key.now c.args.term.kind c.args.alive.now c.args.base c.args.begun c.args.serializer.now.index.now c.args.postings.now.rest rest c.loop-doc.begun c.loop-doc.serializer.index.now h (sym none) in
    ap (entries_damage c.args.term.kind c.args.alive.now) all ∙ h.sound

pub returns-clause-fits : goal.returns-clause-fits
returns-clause-fits g c = recursion_from_All FitsU32 c.args.postings.now.rest c.doc-doc.ensures.sound.fits
