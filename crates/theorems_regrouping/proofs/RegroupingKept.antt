-- The proof of specs/Regrouping.
--
--   regrouping        all of it
use mathlib.Core.Path.{subst}
use Rattle.model.specs.Tables.{Table}
use Rattle.model.specs.Stores.{table_of}
use Rattle.theorems_regrouping.specs.Regrouping.{Alike, SameCovers, first_list, Regrouping}
use Rattle.theorems_regrouping.proofs.CoversKept.{rewriting_same}
use Rattle.theorems_regrouping.proofs.RoundsKept.{covers-add}
use Rattle.theorems_regrouping.proofs.Regrouped.{alike_is, decisions}

pub regrouping : Regrouping
unfolding table_of
regrouping =
    record {
      covers = decisions;
      groups-covers = λ store other n g h held held' a c.
          decisions store other n g h held held' a (first_lists (table_of store n g) (table_of other n h) a c);
      rewriting_covers = λ n L M r. rewriting_same n r;
      rewritten = λ store other n g h held held' a r.
          decisions store other n g h held held' a (first_lists (table_of store n g) (table_of other n h) a (rewriting_same n r));
    }
  where
    -- Z0 is the same for both
    first_lists : (t u : Table) → Alike t u → SameCovers t.n t.groups u.groups → SameCovers t.n (first_list t) (first_list u)
    first_lists t u a c =
        subst (λ (v : Table). SameCovers t.n (first_list t) (first_list v)) (alike_is t u a) (covers-add t.n t.groups u.groups c _)
