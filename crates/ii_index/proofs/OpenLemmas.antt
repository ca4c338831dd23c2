-- Segments that are opened one after the other, and what they hold.
use Rattle.std.proofs.Common.{◌≡◌, ◌∙◌, ℕ, true, List, [], ◌∷◌, ◌++◌, Vec, Global, Result, Ok, Some, length, map, ap, append-nil, append_assoc, refl, subst, sym}
use Rattle.std.specs.Prelude.{slice_get}
use Rattle.std.specs.List.{AllZip}
use Rattle.std.proofs.lemmas.List.{map-append}
use Rattle.ii_io.specs.declared.faults.Part.{Part}
use Rattle.ii_base.specs.Schema.{SchemaEntry}
use Rattle.ii_definitions.specs.Fields.{option_of}
use Rattle.ii_definitions.specs.Files.{HoldTokens}
use Rattle.ii_definitions.specs.Norms.{HoldNorms}
use Rattle.ii_definitions.specs.Tokens.{IndexToken}
use Rattle.ii_reader.specs.OpenIndex.{IndexHolds, OpenIndexState, index_of_files}
use Rattle.ii_query_parser.specs.declared.query.Query.{Query}
use Rattle.ii_query_parser.specs.Queries.{has_fields}
use Rattle.ii_segment_search.specs.Searcher.{HaveFields, OpenSegmentState, SegmentsHold}
use Rattle.ii_directory.specs.Directory.{Files}
use Rattle.ii_segment_store.specs.Contents.{IndexContents, SegmentContents, index_contents, segment_contents}
use Rattle.ii_segment_store.specs.declared.stored_segments.StoredSegment.{StoredSegment}
use Rattle.ii_segments.specs.Segments.{Segment}
use Rattle.ii_store.specs.declared.faults.IndexFault.{IndexFault}
use Rattle.ii_index.specs.Ranking.{segment_counts}
use Rattle.ii_index.specs.Searching.{HaveReaders, OpenSegments, OpensIndex, OpensSegment, SearcherState, segment_totals, totals_view}
use Rattle.ii_index.proofs.HeldLemmas.{all_totals_held}
use Rattle.nequllpa_merging.specs.HeldSegments.{HoldSegments}
use Rattle.nequllpa_merging.specs.OpenedSegments.{totals_by_file}
use Rattle.nequllpa_merging.specs.Joins.{HoldsIndex}

-- how many tokens a segment has in each field, as it is kept
abbrev pub SegmentTotals : Type 0
SegmentTotals = Result (Vec ℕ Global) Part

module _ (entries : List SchemaEntry) where
  -- A stored segment opens as this one.
  abbrev pub OpensStored : StoredSegment → OpenSegmentState → Type 0
  OpensStored s o = OpensSegment entries (segment_contents s) o

  -- the readers over the files of a segment, with its flags
  pub opens : (c : SegmentContents) (index : OpenIndexState) → index_of_files c.terms c.postings c.positions c.fieldnorms entries ≡ Ok index → length index.readers ≡ length entries
      → ((n : ℕ) (ts : List IndexToken) → HoldTokens (option_of entries) c.terms c.postings c.positions ts → HoldNorms entries n c.fieldnorms ts → IndexHolds entries n index ts)
      → OpensSegment entries c (record { index = index; alive = c.alive })
  opens c index ok many holds = record {
    index = ok;
    readers = many;
    alive = refl;
    holds = λ s h. record { index = holds (length s.alive) s.tokens h.lists h.norms; alive = h.alive; tokens = h.are };
  }

  zip_push : (xs : List StoredSegment) (ys : List OpenSegmentState) (x : StoredSegment) (y : OpenSegmentState) → AllZip OpensStored xs ys → OpensStored x y → AllZip OpensStored (xs ++ x ∷ []) (ys ++ y ∷ [])
  zip_push [] [] x y zip opens = (opens, tt)
  zip_push [] (b ∷ ys) x y zip opens = absurd zip
  zip_push (a ∷ xs) [] x y zip opens = absurd zip
  zip_push (a ∷ xs) (b ∷ ys) x y zip opens = (zip.0, zip_push xs ys x y zip.1 opens)

  -- Segments were opened of those taken from a list.
  pub record AreOpening (all taken rest : List StoredSegment) (opened : List OpenSegmentState) : Type 0 where
    pub whole : taken ++ rest ≡ all
    pub zip : AllZip OpensStored taken opened

  pub opening_begins : (all rest : List StoredSegment) (opened : List OpenSegmentState) → rest ≡ all → opened ≡ [] → AreOpening all [] rest opened
  opening_begins all rest opened same none = record { whole = same; zip = subst (AllZip OpensStored []) (sym none) tt }

  pub opening_goes_on : (all taken before rest : List StoredSegment) (opened new : List OpenSegmentState) (x : StoredSegment) (y : OpenSegmentState) → before ≡ x ∷ rest → new ≡ opened ++ y ∷ [] → OpensStored x y → AreOpening all taken before opened → AreOpening all (taken ++ x ∷ []) rest new
  opening_goes_on all taken before rest opened new x y step pushed opens so_far = record {
    whole = append_assoc taken (x ∷ []) rest ∙ ap (λ (r : List StoredSegment). taken ++ r) (sym step) ∙ so_far.whole;
    zip = subst (AllZip OpensStored (taken ++ x ∷ [])) (sym pushed) (zip_push taken opened x y so_far.zip opens);
  }

  of_contents : (xs : List StoredSegment) (ys : List OpenSegmentState) → AllZip OpensStored xs ys → OpenSegments entries (map segment_contents xs) ys
  of_contents [] [] zip = tt
  of_contents [] (y ∷ ys) zip = absurd zip
  of_contents (x ∷ xs) [] zip = absurd zip
  of_contents (x ∷ xs) (y ∷ ys) zip = (zip.0, of_contents xs ys zip.1)

  pub opening_ends : (all taken rest : List StoredSegment) (opened : List OpenSegmentState) → rest ≡ [] → AreOpening all taken rest opened → OpenSegments entries (map segment_contents all) opened
  opening_ends all taken rest opened none so_far =
      let e : taken ≡ all = sym (append-nil taken) ∙ ap (λ (r : List StoredSegment). taken ++ r) (sym none) ∙ so_far.whole in
      of_contents all opened (subst (λ (xs : List StoredSegment). AllZip OpensStored xs opened) e so_far.zip)

  -- the next segment is at the place that is the number of those that were opened
  at_place : (taken : List StoredSegment) (opened : List OpenSegmentState) (x : StoredSegment) (rest : List StoredSegment) → AllZip OpensStored taken opened → slice_get (map segment_contents (taken ++ x ∷ rest)) (length opened) ≡ Some (segment_contents x)
  at_place [] [] x rest zip = refl
  at_place [] (o ∷ os) x rest zip = absurd zip
  at_place (t ∷ ts) [] x rest zip = absurd zip
  at_place (t ∷ ts) (o ∷ os) x rest zip = at_place ts os x rest zip.1

  pub next_segment : (all taken before rest : List StoredSegment) (opened : List OpenSegmentState) (x : StoredSegment) → before ≡ x ∷ rest → AreOpening all taken before opened → slice_get (map segment_contents all) (length opened) ≡ Some (segment_contents x)
  next_segment all taken before rest opened x step so_far =
      let whole : all ≡ taken ++ x ∷ rest = sym so_far.whole ∙ ap (λ (r : List StoredSegment). taken ++ r) step in
      ap (λ (xs : List StoredSegment). slice_get (map segment_contents xs) (length opened)) whole ∙ at_place taken opened x rest so_far.zip

  -- open segments have a reader for each field
  pub have_readers : (cs : List SegmentContents) (os : List OpenSegmentState) → OpenSegments entries cs os → HaveReaders (length entries) os
  have_readers [] [] opens = tt
  have_readers [] (o ∷ os) opens = absurd opens
  have_readers (c ∷ cs) [] opens = absurd opens
  have_readers (c ∷ cs) (o ∷ os) opens = (opens.0.readers, have_readers cs os opens.1)

  -- and hold what the files hold
  pub open_hold : (cs : List SegmentContents) (os : List OpenSegmentState) (ss : List Segment) → OpenSegments entries cs os → HoldSegments entries cs ss → SegmentsHold entries os ss
  open_hold [] [] [] opens hold = tt
  open_hold [] [] (s ∷ ss) opens hold = absurd hold
  open_hold [] (o ∷ os) ss opens hold = absurd opens
  open_hold (c ∷ cs) [] ss opens hold = absurd opens
  open_hold (c ∷ cs) (o ∷ os) [] opens hold = absurd hold
  open_hold (c ∷ cs) (o ∷ os) (s ∷ ss) opens hold = (opens.0.holds s hold.0, open_hold cs os ss opens.1 hold.1)

  -- The numbers of tokens of the segments that were taken from a list.
  abbrev pub AreCounting : List StoredSegment → List SegmentTotals → Type 0
  AreCounting taken totals = map totals_view totals ≡ map (segment_totals entries) (map segment_contents taken)

  pub counting_goes_on : (taken : List StoredSegment) (totals new : List SegmentTotals) (x : StoredSegment) (t : SegmentTotals) → new ≡ totals ++ t ∷ [] → totals_view t ≡ segment_totals entries (segment_contents x) → AreCounting taken totals → AreCounting (taken ++ x ∷ []) new
  counting_goes_on taken totals new x t pushed counted so_far =
      ap (map totals_view) pushed
      ∙ map-append totals_view totals (t ∷ [])
      ∙ (λ j. so_far j ++ counted j ∷ [])
      ∙ sym (map-append (segment_totals entries) (map segment_contents taken) (segment_contents x ∷ []))
      ∙ ap (map (segment_totals entries)) (sym (map-append segment_contents taken (x ∷ [])))

  pub counting_ends : (all taken rest : List StoredSegment) (opened : List OpenSegmentState) (totals : List SegmentTotals) → rest ≡ [] → AreOpening all taken rest opened → AreCounting taken totals → map totals_view totals ≡ map (segment_totals entries) (map segment_contents all)
  counting_ends all taken rest opened totals none so_far counted =
      let e : taken ≡ all = sym (append-nil taken) ∙ ap (λ (r : List StoredSegment). taken ++ r) (sym none) ∙ so_far.whole in
      counted ∙ ap (λ (xs : List StoredSegment). map (segment_totals entries) (map segment_contents xs)) e

  -- what is counted over the files of a segment
  pub counted_over : (c : SegmentContents) (index : OpenIndexState) (totals : Result (List ℕ) Part) → index_of_files c.terms c.postings c.positions c.fieldnorms entries ≡ Ok index → totals ≡ totals_by_file (length entries) index c.counts c.alive
      → totals ≡ segment_totals entries c
  counted_over c index totals opened is = is ∙ rw opened refl

  same_ok : {c d : IndexContents} → ◌≡◌ {A = Result IndexContents IndexFault} (Ok c) (Ok d) → c ≡ d
  same_ok e = cc

  -- what is read of an index holds its segments
  pub index_open : (files : Files) (ss : List Segment) (s : SearcherState) → OpensIndex entries (index_contents files) s → HoldsIndex entries files ss → SegmentsHold entries s.segments ss
  index_open files ss s opens holds =
      let same : opens.0 ≡ holds.contents = same_ok (sym opens.1 ∙ holds.read) in
      open_hold opens.0.segments s.segments ss opens.2 (subst (λ (c : IndexContents). HoldSegments entries c.segments ss) (sym same) holds.hold)

  -- and has the numbers of their tokens
  pub index_counted : (files : Files) (ss : List Segment) (s : SearcherState) → OpensIndex entries (index_contents files) s → HoldsIndex entries files ss → s.num_tokens ≡ map (segment_counts (length entries)) ss
  index_counted files ss s opens holds =
      let same : opens.0 ≡ holds.contents = same_ok (sym opens.1 ∙ holds.read) in
      opens.3 ∙ all_totals_held entries opens.0.segments ss (subst (λ (c : IndexContents). HoldSegments entries c.segments ss) (sym same) holds.hold)

-- a query of the fields may be asked of each segment
pub have_fields : (n : ℕ) (query : Query) (os : List OpenSegmentState) → HaveReaders n os → has_fields n query ≡ true → HaveFields query os
have_fields n query [] readers has = tt
have_fields n query (o ∷ os) readers has = (subst (λ (m : ℕ). has_fields m query ≡ true) (sym readers.0) has, have_fields n query os readers.1 has)
