-- `read_as`: the store and the site, then a draft or a file.
use mathlib.Core.Path.{refl}
use borrow.Author.Rules.{rules}
use borrow.Author.Tests.{lt-ltb, le-ltb}
use Rattle.std.specs.Prelude.{Err}
use Rattle.core_refusals.specs.declared.Refusal.TheVariants.{StoreShort, Site}
use Rattle.model.specs.Calls.{read_grounds_as}
use Rattle.file_reading.proofs.ReadGrounds.{reads_first, reads_call, draft-read, file-read}
use Rattle.file_reading.proofs.read_as.Goals as goal

pub returns-then-store-lt-STORE_WORDS : goal.returns-then-store-lt-STORE_WORDS
unfolding read_grounds_as
returns-then-store-lt-STORE_WORDS c = reads_call _ _ _ _ {r = Err StoreShort} (reads_first 0 _ (search (rules, lt-ltb)) refl)

pub returns-then-site-gt-MAX_SITE : goal.returns-then-site-gt-MAX_SITE
unfolding read_grounds_as
returns-then-site-gt-MAX_SITE c = reads_call _ _ _ _ {r = Err Site} (reads_first 1 _ (search (rules, lt-ltb, le-ltb)) refl)

pub returns-then-input-eq0 : goal.returns-then-input-eq0
unfolding read_grounds_as
returns-then-input-eq0 c = draft-read _ _ _ _ (search rules) (search rules) (search rules) c.clear.ensures

pub returns : goal.returns
unfolding read_grounds_as
returns c = file-read _ _ _ _ (search rules) (search rules) (search rules) c.read_file.ensures
