-- Decide on two stores whose tables are alike but for their groups.
--
--   alike_is          a table alike but for its groups is the other one with those groups
--   decision-same     the same outcome gives the same decision
--   path-written      the states that an unsafe check writes
--   own_buffers       two checks, each with a path buffer of its own
--   decisions         decide on two stores that hold such tables
use Prim.Native.Nat.{ℕ, suc}
use mathlib.Core.Path.{◌≡◌, refl, sym, ap, ap₂, ◌∙◌, subst, subst₂, fun_ext}
use mathlib.Core.Bool.{cond}
use mathlib.Core.List.{List, []}
use lib.Dec.{eqb}
use lib.ListN.{length, take, drop}
use lib.Seq.{take_at}
use Rattle.model.specs.Sets.{Set, empty}
use Rattle.model.specs.Tables.{Table}
use Rattle.model.specs.Rounds.{Outcome, safe, unsafe, undecided, run}
use Rattle.model.specs.Paths.{smallest_path}
use Rattle.basics.specs.Refusals.{Answered, answered, unless_refused}
use Rattle.model.specs.Stores.{table_of, AcceptedStore}
use Rattle.model.specs.Calls.{overwrite, Decision, decide_limits, decide_grounds, decision_of, decide_answer, decide_buffer}
use Rattle.model.specs.Promises.{Carries, SameAnswer}
use Rattle.basics.proofs.RefusalLaws.{answer_cong}
use Rattle.model.proofs.StoresAccepted.{accepted_store, store_accepted}
use Rattle.model.proofs.PromisesKept.{promises}
use Rattle.theorems_regrouping.specs.Regrouping.{Alike, SameCovers, first_list, SameDecisions}
use Rattle.theorems_regrouping.proofs.RoundsKept.{regroup, run-same, shortest-same, smallest-same}

pub alike_is : (t u : Table) → Alike t u → regroup t u.groups ≡ u
alike_is t u a = λ i.
    record { n = a.n i; initial = a.initial i; forbidden = a.forbidden i; groups = u.groups; row = fun_ext a.row i }

decision-same : (t : Table) (G : List Set) (o : Outcome) → decision_of t o ≡ decision_of (regroup t G) o
unfolding decision_of
decision-same t G (safe i R) = refl
decision-same t G (unsafe i) =
    ap (λ (d : ℕ). record { verdict = 1; count = i; invariant = empty; size = 0; steps = d }) (shortest-same t G)
decision-same t G (undecided i) = refl

-- what a table alike but for its groups decides, and its path
module _ (t u : Table) (a : Alike t u) where
  decided-same : SameCovers t.n (first_list t) (first_list u) → (allowance : ℕ) → decision_of t (run t allowance) ≡ decision_of u (run u allowance)
  decided-same c allowance =
      let e = alike_is t u a in
      let G = u.groups in
      let list : SameCovers t.n (first_list t) (first_list (regroup t G)) = subst (λ (v : Table). SameCovers t.n (first_list t) (first_list v)) (sym e) c in
      ap (decision_of t) (run-same t G list allowance)
      ∙ decision-same t G (run (regroup t G) allowance)
      ∙ ap (λ (v : Table). decision_of v (run v allowance)) e

  path-same : smallest_path t ≡ smallest_path u
  path-same = smallest-same t u.groups ∙ ap smallest_path (alike_is t u a)

path-written : {t : Table} {allowance : ℕ} {a : Decision} {before after : List ℕ} → Carries t allowance a before after → a.verdict ≡ 1
    → take (suc a.steps) after ≡ smallest_path t
unfolding overwrite
path-written {t} {a = a} {before = before} w v =
    let unsafe = w.with_unsafe v in
    ap (take (suc a.steps)) unsafe.2 ∙ take_at (smallest_path t) (drop (length (smallest_path t)) before) (suc a.steps) unsafe.1

module _ (store other : List ℕ) (n g h : ℕ) (held : AcceptedStore store n g) (held' : AcceptedStore other n h)
    (alike : Alike (table_of store n g) (table_of other n h))
    (c : SameCovers n (first_list (table_of store n g)) (first_list (table_of other n h))) where
  answers : (allowance room : ℕ) → decide_answer store n g allowance room ≡ decide_answer other n h allowance room
  unfolding decide_answer decide_grounds table_of
  answers allowance room =
      let t = table_of store n g in
      let u = table_of other n h in
      let limits = decide_limits allowance room in
      answer_cong (decide_grounds store n g allowance room) (decide_grounds other n h allowance room) _ _ refl refl
      (store_accepted store n g limits (accepted_store store n g [] held).0 ∙ sym (store_accepted other n h limits (accepted_store other n h [] held').0))
      (λ z. decided-same t u alike c allowance)

  buffers : (allowance : ℕ) (path : List ℕ) → decide_buffer store n g allowance path ≡ decide_buffer other n h allowance path
  unfolding decide_buffer
  buffers allowance path =
      ap₂ (λ (d : Answered Decision) (xs : List ℕ). unless_refused path (λ (b : Decision). cond (eqb b.verdict 1) (overwrite xs path) path) d)
      (answers allowance (length path)) (path-same (table_of store n g) (table_of other n h) alike)

  -- the states written are the path of the table, in whatever buffer
  own_buffers : (allowance : ℕ) (p q : List ℕ) (a b : Decision)
      → decide_answer store n g allowance (length p) ≡ answered a → decide_answer other n h allowance (length q) ≡ answered b
      → SameAnswer a b (decide_buffer store n g allowance p) (decide_buffer other n h allowance q)
  unfolding table_of
  own_buffers allowance p q a b e f =
      let t = table_of store n g in
      let u = table_of other n h in
      let same : a ≡ b = promises.answer store n g allowance p a e ∙ decided-same t u alike c allowance ∙ sym (promises.answer other n h allowance q b f) in
      record {
        verdict = ap (λ (d : Decision). d.verdict) same;
        count = ap (λ (d : Decision). d.count) same;
        invariant = ap (λ (d : Decision). d.invariant) same;
        size = ap (λ (d : Decision). d.size) same;
        steps = ap (λ (d : Decision). d.steps) same;
        states = λ v.
            path-written (promises.carries store n g allowance p a e) v
            ∙ path-same t u alike
            ∙ sym (path-written (promises.carries other n h allowance q b f) (sym (ap (λ (d : Decision). d.verdict) same) ∙ v));
      }

  pub decisions : SameDecisions store other n g h
  decisions =
      record {
        calls = λ allowance before r s after-r after-s c d.
            let same = answers allowance (length before) in
            record {
              answer = c.0 ∙ same ∙ sym d.0;
              set = ap (unless_refused empty (λ (a : Decision). a.invariant)) (c.0 ∙ same ∙ sym d.0);
              buffer = c.1 ∙ buffers allowance before ∙ sym d.1;
            };
        own_buffers = λ allowance p q r s after-r after-s a b c d e f.
            subst₂ (SameAnswer a b) (sym c.1) (sym d.1) (own_buffers allowance p q a b (sym c.0 ∙ e) (sym d.0 ∙ f));
        answers = answers;
        buffers = buffers;
      }
