-- `write`: the grounds in their order, then the blocks.
use mathlib.Core.Path.{refl}
use borrow.Author.Rules.{rules}
use Rattle.core_refusals.proofs.RefusalsPassed.{passed_on}
use Rattle.file_writing.proofs.WriteLaws.{held, refused-short, refused_site, refused-shared, draft-written, refused-room, written}
use Rattle.file_writing.proofs.write.Goals as goal

pub returns-then-store-lt-STORE_WORDS : goal.returns-then-store-lt-STORE_WORDS
returns-then-store-lt-STORE_WORDS c = refused-short _ _ _ _ _ c.if-store-lt-STORE_WORDS.true

pub returns-then-site-gt-MAX_SITE : goal.returns-then-site-gt-MAX_SITE
returns-then-site-gt-MAX_SITE c = refused_site _ _ _ _ _ c.if-store-lt-STORE_WORDS.false c.if-site-gt-MAX_SITE.true

pub returns-in_err-store : goal.returns-in_err-store
returns-in_err-store c =
    rw (passed_on _ c.from_residual.ensures.1)
    (refused-shared _ _ _ _ _ c.if-store-lt-STORE_WORDS.false c.if-site-gt-MAX_SITE.false _ c.in_err-store.ensures.0 _ refl)

pub returns-then-n-eq0 : goal.returns-then-n-eq0
returns-then-n-eq0 c = draft-written _ _ _ _ _ c.if-store-lt-STORE_WORDS.false c.if-site-gt-MAX_SITE.false _ c.in_ok-store.ensures.0 refl c.if-n-eq0.true

pub invariant_of-counts-clause-small : goal.invariant_of-counts-clause-small
invariant_of-counts-clause-small c = (held c.args.store.now _ _ _ c.in_ok-store.ensures.0 refl).0

pub invariant_of-counts-clause-few : goal.invariant_of-counts-clause-few
invariant_of-counts-clause-few c = (held c.args.store.now _ _ _ c.in_ok-store.ensures.0 refl).1

pub returns-then-output-size : goal.returns-then-output-size
returns-then-output-size c = refused-room _ _ _ _ _ c.if-store-lt-STORE_WORDS.false c.if-site-gt-MAX_SITE.false _ c.in_ok-store.ensures.0 refl c.if-n-eq0.false c.blocks_for-blocks.result (cc) (search rules)

pub returns : goal.returns
returns c = written _ _ _ _ _ c.if-store-lt-STORE_WORDS.false c.if-site-gt-MAX_SITE.false _ c.in_ok-store.ensures.0 refl c.if-n-eq0.false _ (cc) _ (search rules) (rw c.in_ok-store.ensures.1 at c.write_file.ensures)
