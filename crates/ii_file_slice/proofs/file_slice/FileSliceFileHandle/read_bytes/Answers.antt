use Rattle.std.proofs.Common.{arith}
use Rattle.ii_file_slice.proofs.SliceLemmas.{read_of_slice}
use Rattle.ii_file_slice.proofs.file_slice.FileSliceFileHandle.read_bytes.Goals as goal

pub returns-clause-exact : goal.returns-clause-exact
returns-clause-exact g c =
    let s = c.args.self.now in
    read_of_slice s.start s.len c.args.from c.args.len (g.H.FileHandle.bytes s.file.now) c.read_bytes.result (omega (arith, c.if-from-self.false, c.if-len-self.false)) c.read_bytes.ensures.exact
