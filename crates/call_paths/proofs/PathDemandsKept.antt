-- The demands of the call: the model's promises, by the contract of shortest_path.
use mathlib.Core.Path.{sym, ◌∙◌, subst}
use Rattle.model.specs.Stores.{table_of}
use Rattle.model.specs.Promises.{PathAnswer}
use Rattle.model.proofs.PromisesKept.{promises, untouched}
use Rattle.call_paths.specs.PathDemands.{PathDemands}

pub demands : PathDemands
demands =
    record {
      refusal = λ store n g before r after k c e.
          let left = untouched.shortest-path store n g before k (sym c.0 ∙ e) in
          (left.0, c.1 ∙ left.1);
      path = λ store n g before r after a c e.
          subst (PathAnswer (table_of store n g) a before) (sym c.1) (promises.shortest-path store n g before a (sym c.0 ∙ e));
    }
