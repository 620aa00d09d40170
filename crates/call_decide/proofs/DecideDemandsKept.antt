-- The demands of the call: the model's promises, by the contract of decide.
use mathlib.Core.Path.{sym, ap, ◌∙◌, subst, subst₂}
use Rattle.basics.specs.Refusals.{unless_refused}
use Rattle.model.specs.Sets.{empty}
use Rattle.model.specs.Calls.{Decision}
use Rattle.model.specs.Stores.{table_of}
use Rattle.model.specs.Promises.{Carries, Demand2, Demand3, SameAnswer}
use Rattle.model.proofs.PromisesKept.{promises, untouched}
use Rattle.call_decide.specs.DecideDemands.{DecideDemands}

pub demands : DecideDemands
demands =
    record {
      refusal = λ store n g allowance before r after k c e.
          let given = sym c.0 ∙ e in
          let left = untouched.decide store n g allowance before k given in
          (left.0, ap (unless_refused empty (λ (a : Decision). a.invariant)) e, c.1 ∙ left.1);
      answer = λ store n g allowance before r after a c e. promises.answer store n g allowance before a (sym c.0 ∙ e);
      stops = λ store n g allowance before r after a c e. promises.stops store n g allowance before a (sym c.0 ∙ e);
      carries = λ store n g allowance before r after a c e.
          subst (Carries (table_of store n g) allowance a before) (sym c.1) (promises.carries store n g allowance before a (sym c.0 ∙ e));
      demand2 = λ store n g before r after a c e.
          subst (Demand2 (table_of store n g) a) (sym c.1) (promises.demand2 store n g before a (sym c.0 ∙ e));
      demand3 = λ store n g allowance before r after a c e.
          subst (Demand3 (table_of store n g) allowance) (sym (promises.answer store n g allowance before a (sym c.0 ∙ e)))
          (promises.demand3 (table_of store n g) allowance);
      larger = λ store other n g allowance more p q r s after-r after-s a b c d e f same h v.
          subst₂ (SameAnswer a b) (sym c.1) (sym d.1)
          (promises.larger store other n g allowance more p q a b (sym c.0 ∙ e) (sym d.0 ∙ f) same h v);
    }
