use Rattle.std.proofs.Common.{◌≡◌, List, ap, rules}
use Rattle.std.specs.Prelude.{filter}
use Rattle.std.proofs.lemmas.Fn.{filter_same}
use Rattle.ii_store.specs.declared.index_meta.FileMeta.{FileMeta}
use Rattle.ii_store.specs.IndexMeta.{segment_view}
use Rattle.ii_segment_store.specs.WantedFiles.{is_wanted}
use Rattle.ii_segment_store.proofs.wanted_files.WantedFiles.keep_in.Goals as goal

pub returns : goal.returns
returns c =
    let kept : c.retain.new.self.items ≡ filter (λ (f : FileMeta). is_wanted c.args.self f.component) c.args.segment.now.files.items = filter_same _ _ _ (λ x b f' k. search rules) _ _ c.retain.ensures.filtered in
    ap (λ (fs : List FileMeta). record (segment_view c.args.segment.now) { files = fs }) kept
