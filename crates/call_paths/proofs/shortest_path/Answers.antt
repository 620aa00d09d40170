-- `shortest_path`: the grounds in their order, then what find_path found.
use Rattle.core_refusals.proofs.RefusalsPassed.{passed_on}
use Rattle.call_paths.proofs.Groups.{holds-table, store_path}
use Rattle.call_paths.proofs.PathsAnswered.{accepted, shortest-refused, shortest-short, shortest-found}
use Rattle.call_paths.proofs.shortest_path.Goals as goal

pub returns-in_err-store : goal.returns-in_err-store
returns-in_err-store c = rw (passed_on _ c.from_residual.ensures.1) (shortest-refused _ _ _ _ _ c.in_err-store.ensures.0)

pub returns-then-path-lt-MAX_STATES : goal.returns-then-path-lt-MAX_STATES
returns-then-path-lt-MAX_STATES c = shortest-short _ _ _ _ (accepted c.in_ok-store.ensures.0) c.if-path-lt-MAX_STATES.true

pub find_path-requires : goal.find_path-requires
find_path-requires c =
    let ok = c.in_ok-store.ensures in (
      rw (c.of.ensures, ok.1) (holds-table _ _ _ (rw ok.1 at c.forbidden.ensures) (rw ok.1 at c.initial.ensures) (accepted ok.0)),
      c.if-path-lt-MAX_STATES.false,
    )

pub returns : goal.returns
returns c =
    let ok = c.in_ok-store.ensures in
    shortest-found _ _ _ _ (accepted ok.0) c.if-path-lt-MAX_STATES.false
    (store_path _ _ _ (rw ok.1 at c.forbidden.ensures) (rw ok.1 at c.initial.ensures) _ (rw (c.of.ensures, ok.1) at c.find_path.ensures))
