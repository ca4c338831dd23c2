use Rattle.std.proofs.Common.{◌∙◌, List, ap}
use Rattle.std.specs.Prelude.{Some}
use Rattle.ii_directory.specs.declared.name.Name.TheVariants.{Segment}
use Rattle.ii_directory.specs.declared.name.SegmentComponent.TheVariants.{BlockTables, Counts, FieldNorms, Positions, Postings, Store, Terms}
use Rattle.ii_store.specs.declared.index_meta.FileMeta.{FileMeta}
use Rattle.ii_store.specs.IndexMeta.{SegmentState}
use Rattle.ii_segment_store.specs.NewSegments.{AreCounted, new_contents}
use Rattle.ii_segment_store.proofs.NewLaws.{elsewhere_keeps, file_if_kept, files_are, keeps_then, one_more, tables_are}
use Rattle.ii_segment_store.proofs.new_segment.finish_segment.Goals as goal

pub returns-in_err-finish_if_some-clause-time : goal.returns-in_err-finish_if_some-clause-time
returns-in_err-finish_if_some-clause-time g c = λ known.
    let d = g.D.Directory in
    let known_1 = c.in_ok-listed.ensures.known known in
    one_more d.moment d.left_since d.seen c.args.id Counts c.args.directory.now c.finish_lists.new.directory c.finish_if_some.new.directory (c.in_ok-listed.ensures.keeps known) (c.finish_lists.ensures.time known) (c.finish_if_some.ensures.time known_1)

pub returns-in_err-finish_if_some-2-clause-time : goal.returns-in_err-finish_if_some-2-clause-time
returns-in_err-finish_if_some-2-clause-time g c = λ known.
    let d = g.D.Directory in
    let id = c.args.id in
    let old = c.args.directory.now in
    let one = c.finish_lists.new.directory in
    let two = c.finish_if_some.new.directory in
    let known_1 = c.in_ok-listed.ensures.known known in
    let known_2 = c.in_ok-finish_if_some.ensures.known known_1 in
    let kept_1 = c.in_ok-listed.ensures.keeps known in
    let kept_2 = keeps_then id (d.seen old) (d.seen one) (d.seen two) kept_1 (elsewhere_keeps id Counts (d.seen one) (d.seen two) (c.in_ok-finish_if_some.ensures.keeps known_1)) in
    one_more d.moment d.left_since d.seen id Store old two c.finish_if_some-2.new.directory kept_2
    (one_more d.moment d.left_since d.seen id Counts old one two kept_1 (c.finish_lists.ensures.time known) (c.finish_if_some.ensures.time known_1)) (c.finish_if_some-2.ensures.time known_2)

pub returns-in_err-files-clause-time : goal.returns-in_err-files-clause-time
returns-in_err-files-clause-time g c = λ known.
    let d = g.D.Directory in
    let id = c.args.id in
    let old = c.args.directory.now in
    let one = c.finish_lists.new.directory in
    let two = c.finish_if_some.new.directory in
    let three = c.finish_if_some-2.new.directory in
    let known_1 = c.in_ok-listed.ensures.known known in
    let known_2 = c.in_ok-finish_if_some.ensures.known known_1 in
    let known_3 = c.in_ok-finish_if_some-2.ensures.known known_2 in
    let kept_1 = c.in_ok-listed.ensures.keeps known in
    let kept_2 = keeps_then id (d.seen old) (d.seen one) (d.seen two) kept_1 (elsewhere_keeps id Counts (d.seen one) (d.seen two) (c.in_ok-finish_if_some.ensures.keeps known_1)) in
    let kept_3 = keeps_then id (d.seen old) (d.seen two) (d.seen three) kept_2 (elsewhere_keeps id Store (d.seen two) (d.seen three) (c.in_ok-finish_if_some-2.ensures.keeps known_2)) in
    one_more d.moment d.left_since d.seen id BlockTables old three c.write_tables.new.directory kept_3
    (one_more d.moment d.left_since d.seen id Store old two three kept_2
    (one_more d.moment d.left_since d.seen id Counts old one two kept_1 (c.finish_lists.ensures.time known) (c.finish_if_some.ensures.time known_1)) (c.finish_if_some-2.ensures.time known_2)) (c.write_tables.ensures.time known_3)

pub returns-clause-listed : goal.returns-clause-listed
returns-clause-listed g c = λ known.
    let written = c.requires.written known in
    let s = new_contents c.args.segment in
    let all : AreCounted c.args.segment.terms c.args.segment.postings c.args.segment.positions c.args.segment.fieldnorms = record { terms = written.terms; postings = written.postings; positions = written.positions; fieldnorms = written.fieldnorms } in
    let known_1 = c.in_ok-listed.ensures.known known in
    let known_2 = c.in_ok-finish_if_some.ensures.known known_1 in
    let tables = tables_are s _ _ _ (c.in_ok-listed.ensures.tables known all) (c.in_ok-finish_if_some.ensures.tables known_1 written.counts) (c.in_ok-finish_if_some-2.ensures.tables known_2 written.store) in
    let view : List FileMeta → SegmentState = λ (fs : List FileMeta). record { id = c.args.id; num_docs = c.args.segment.num_docs; num_living = c.args.segment.num_docs; files = fs } in
    ap view
    (files_are c.args.id s _ _ _ _ _ (c.in_ok-listed.ensures.files known all) (c.in_ok-finish_if_some.ensures.files known_1 written.counts) (c.in_ok-finish_if_some-2.ensures.files known_2 written.store) c.in_ok-files.ensures.files tables)

pub returns-clause-there : goal.returns-clause-there
returns-clause-there g c = λ known.
    let d = g.D.Directory in
    let id = c.args.id in
    let written = c.requires.written known in
    let s = new_contents c.args.segment in
    let one = d.seen c.finish_lists.new.directory in
    let two = d.seen c.finish_if_some.new.directory in
    let three = d.seen c.finish_if_some-2.new.directory in
    let new = d.seen c.write_tables.new.directory in
    let all : AreCounted c.args.segment.terms c.args.segment.postings c.args.segment.positions c.args.segment.fieldnorms = record { terms = written.terms; postings = written.postings; positions = written.positions; fieldnorms = written.fieldnorms } in
    let known_1 = c.in_ok-listed.ensures.known known in
    let known_2 = c.in_ok-finish_if_some.ensures.known known_1 in
    let known_3 = c.in_ok-finish_if_some-2.ensures.known known_2 in
    let lists = c.in_ok-listed.ensures.there known all in
    let keeps_1 = c.in_ok-finish_if_some.ensures.keeps known_1 in
    let keeps_2 = c.in_ok-finish_if_some-2.ensures.keeps known_2 in
    let keeps_3 = c.in_ok-files.ensures.keeps known_3 in
    let tables = tables_are s _ _ _ (c.in_ok-listed.ensures.tables known all) (c.in_ok-finish_if_some.ensures.tables known_1 written.counts) (c.in_ok-finish_if_some-2.ensures.tables known_2 written.store) in
    record {
      terms = keeps_3 (Segment id Terms) (λ is. absurd (cc)) ∙ keeps_2 (Segment id Terms) (λ is. absurd (cc)) ∙ keeps_1 (Segment id Terms) (λ is. absurd (cc)) ∙ lists.terms;
      postings = keeps_3 (Segment id Postings) (λ is. absurd (cc)) ∙ keeps_2 (Segment id Postings) (λ is. absurd (cc)) ∙ keeps_1 (Segment id Postings) (λ is. absurd (cc)) ∙ lists.postings;
      positions = keeps_3 (Segment id Positions) (λ is. absurd (cc)) ∙ keeps_2 (Segment id Positions) (λ is. absurd (cc)) ∙ keeps_1 (Segment id Positions) (λ is. absurd (cc)) ∙ lists.positions;
      fieldnorms = keeps_3 (Segment id FieldNorms) (λ is. absurd (cc)) ∙ keeps_2 (Segment id FieldNorms) (λ is. absurd (cc)) ∙ keeps_1 (Segment id FieldNorms) (λ is. absurd (cc)) ∙ lists.fieldnorms;
      counts = file_if_kept id Counts (Segment id BlockTables) s.counts three new keeps_3 (λ is. absurd (cc))
          (file_if_kept id Counts (Segment id Store) s.counts two three keeps_2 (λ is. absurd (cc)) (c.in_ok-finish_if_some.ensures.there known_1 written.counts));
      store = file_if_kept id Store (Segment id BlockTables) s.store three new keeps_3 (λ is. absurd (cc)) (c.in_ok-finish_if_some-2.ensures.there known_2 written.store);
      tables = c.in_ok-files.ensures.there known_3 ∙ ap (λ (bytes : List _). Some bytes) tables;
    }

pub returns-clause-keeps : goal.returns-clause-keeps
returns-clause-keeps g c = λ known.
    let d = g.D.Directory in
    let id = c.args.id in
    let old = d.seen c.args.directory.now in
    let one = d.seen c.finish_lists.new.directory in
    let two = d.seen c.finish_if_some.new.directory in
    let three = d.seen c.finish_if_some-2.new.directory in
    let new = d.seen c.write_tables.new.directory in
    let known_1 = c.in_ok-listed.ensures.known known in
    let known_2 = c.in_ok-finish_if_some.ensures.known known_1 in
    let known_3 = c.in_ok-finish_if_some-2.ensures.known known_2 in
    keeps_then id old three new (keeps_then id old two three (keeps_then id old one two (c.in_ok-listed.ensures.keeps known) (elsewhere_keeps id Counts one two (c.in_ok-finish_if_some.ensures.keeps known_1)))
    (elsewhere_keeps id Store two three (c.in_ok-finish_if_some-2.ensures.keeps known_2))) (elsewhere_keeps id BlockTables three new (c.in_ok-files.ensures.keeps known_3))

pub returns-clause-time : goal.returns-clause-time
returns-clause-time g c = λ known.
    let d = g.D.Directory in
    let id = c.args.id in
    let old = c.args.directory.now in
    let one = c.finish_lists.new.directory in
    let two = c.finish_if_some.new.directory in
    let three = c.finish_if_some-2.new.directory in
    let known_1 = c.in_ok-listed.ensures.known known in
    let known_2 = c.in_ok-finish_if_some.ensures.known known_1 in
    let known_3 = c.in_ok-finish_if_some-2.ensures.known known_2 in
    let kept_1 = c.in_ok-listed.ensures.keeps known in
    let kept_2 = keeps_then id (d.seen old) (d.seen one) (d.seen two) kept_1 (elsewhere_keeps id Counts (d.seen one) (d.seen two) (c.in_ok-finish_if_some.ensures.keeps known_1)) in
    let kept_3 = keeps_then id (d.seen old) (d.seen two) (d.seen three) kept_2 (elsewhere_keeps id Store (d.seen two) (d.seen three) (c.in_ok-finish_if_some-2.ensures.keeps known_2)) in
    one_more d.moment d.left_since d.seen id BlockTables old three c.write_tables.new.directory kept_3
    (one_more d.moment d.left_since d.seen id Store old two three kept_2
    (one_more d.moment d.left_since d.seen id Counts old one two kept_1 (c.finish_lists.ensures.time known) (c.finish_if_some.ensures.time known_1)) (c.finish_if_some-2.ensures.time known_2)) (c.write_tables.ensures.time known_3)
