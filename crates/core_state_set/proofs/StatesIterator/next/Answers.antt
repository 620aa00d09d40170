-- `next`: what is left begins with the lowest one of the first word that has one.
use mathlib.Core.Path.{sym, ap, ◌∙◌}
use borrow.Author.Rules.{rules}
use Rattle.std.proofs.Common.{ℕ, Fits, w64, length, arith}
use Rattle.model.specs.Sets.{members}
use Rattle.core_state_set.specs.WordSets.{left_of}
use Rattle.core_state_set.proofs.SetsStates.{left_skip, left_none, left_take, takes_of}
use Rattle.core_state_set.proofs.StatesIterator.next.Goals as goal

pub returns-then-self-ge-WORDS-clause-steps : goal.returns-then-self-ge-WORDS-clause-steps
returns-then-self-ge-WORDS-clause-steps c =
    let none = ap (λ (x : ℕ). left_of c.loop-self.self.w x c.loop-self.self.words) c.loop-self-test.true ∙ left_none _ _ c.if-self-ge-WORDS.true in
    (sym c.loop-self.invariant ∙ none, none)

pub loop-self-preserved : goal.loop-self-preserved
loop-self-preserved c =
    sym (left_skip _ _ c.if-self-ge-WORDS.false)
    ∙ ap (λ (x : ℕ). left_of c.loop-self.self.w x c.loop-self.self.words) (sym c.loop-self-test.true)
    ∙ c.loop-self.invariant

pub returns-clause-steps : goal.returns-clause-steps
returns-clause-steps c =
    let small : Fits w64 c.loop-self.self.rest = search rules in
    let step = left_take _ _ _ c.loop-self.self.inside small.fits c.loop-self-test.false in
    takes_of c.loop-self.invariant step

pub returns-clause-goes : goal.returns-clause-goes
returns-clause-goes c =
    let small : Fits w64 c.loop-self.self.rest = search rules in
    let step = ap members (sym c.loop-self.invariant) ∙ (left_take _ _ _ c.loop-self.self.inside small.fits c.loop-self-test.false).2 in
    record {
      on = λ f. (tt, tt, omega (arith, ap length step));
      keeps = tt;
      rests = λ f. tt;
    }
