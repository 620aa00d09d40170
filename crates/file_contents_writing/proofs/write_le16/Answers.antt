-- `write_le16`: the lowest two bytes.
use Rattle.file_contents_writing.proofs.SetsBytesWritten.{le16-written}
use Rattle.file_contents_writing.proofs.write_le16.Goals as goal

pub returns : goal.returns
returns c = le16-written _ _ c.put_bytes.ensures
