-- `content_length`: no factor is large, so the product fits.
use borrow.Author.Rules.{rules}
use Rattle.file_blocks.proofs.ContentsLength.{sets_fit, contents_fit, contents_le}
use Rattle.file_blocks.proofs.Counts.content_length.Goals as goal

pub overflow_mul-result : goal.overflow_mul-result
overflow_mul-result c = record { fits = sets_fit (search rules) (search rules) }

pub overflow_add-result : goal.overflow_add-result
overflow_add-result c = record { fits = contents_fit (search rules) (search rules) }

pub returns : goal.returns
returns c = (cc, contents_le (search rules) (search rules))
