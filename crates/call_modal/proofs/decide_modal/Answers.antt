-- `decide_modal`: the grounds, on which the path buffer is left alone, then the answer from the two checks.
use mathlib.Core.Path.{sym, ◌∙◌}
use Rattle.core_refusals.proofs.RefusalsPassed.{passed_on}
use Rattle.call_modal.proofs.ModalGrounds.{accepted}
use Rattle.call_modal.proofs.ModalAnswered.{certain-formed, possible-formed, ready, possible-rows, forbidden-is, certain-rows, refused-answer, safe-answer, unsafe-answer, depends-answer}
use Rattle.call_modal.proofs.decide_modal.Goals as goal

pub returns-in_err-store : goal.returns-in_err-store
returns-in_err-store c = rw (passed_on _ c.from_residual.ensures.1) (refused-answer _ _ _ _ _ _ c.in_err-store.ensures.0)

pub invariant_of-possible : goal.invariant_of-possible
invariant_of-possible c = record { long = (accepted _ _ _ _ _ (sym c.in_ok-store.ensures.0)).0.long }

pub check_on-on_possible-requires : goal.check_on-on_possible-requires
check_on-on_possible-requires c = (accepted _ _ _ _ _ (sym c.in_ok-store.ensures.0)).0.held.few

pub returns-in-Some : goal.returns-in-Some
returns-in-Some c =
    let same = c.in_ok-store.ensures.1 in
    safe-answer _ _ _ _ _ c.in_ok-store.ensures.0 ((rw same at c.forbidden_by-forbidden.ensures) ∙ forbidden-is _ _ _) (rw same at c.in-Some.ensures) c.count.ensures

pub check_on-on_certain-requires : goal.check_on-on_certain-requires
check_on-on_certain-requires c = (accepted _ _ _ _ _ (sym c.in_ok-store.ensures.0)).0.held.few

pub path_on-requires : goal.path_on-requires
path_on-requires c =
    let ok = accepted _ _ _ _ _ (sym c.in_ok-store.ensures.0) in
    let same = c.in_ok-store.ensures.1 in
    let held = ok.0 in (
      rw same (ready _ _ _ _ held ((rw same at c.forbidden_by-forbidden.ensures) ∙ forbidden-is _ _ _) _ (possible-rows _ _) held.long (possible-formed _ _ _ _ held)),
      ok.1,
    )

pub path_on-requires-in-None : goal.path_on-requires-in-None
path_on-requires-in-None c =
    let ok = accepted _ _ _ _ _ (sym c.in_ok-store.ensures.0) in
    let same = c.in_ok-store.ensures.1 in
    let held = ok.0 in (
      rw same (ready _ _ _ _ held ((rw same at c.forbidden_by-forbidden.ensures) ∙ forbidden-is _ _ _) _ (certain-rows _ _ (rw same at c.of-certain.ensures)) c.of-certain.result.long
          (certain-formed _ _ _ _ held)),
      ok.1,
    )

pub returns-in-Some-on_certain : goal.returns-in-Some-on_certain
returns-in-Some-on_certain c =
    let same = c.in_ok-store.ensures.1 in
    depends-answer _ _ _ _ _ c.in_ok-store.ensures.0 ((rw same at c.forbidden_by-forbidden.ensures) ∙ forbidden-is _ _ _)
    (rw same at c.in_default.ensures) (rw same at c.of-certain.ensures) (rw same at c.in-Some-on_certain.ensures) c.count-in-Some-on_certain.ensures
    (rw same at c.path_on.ensures.0) (rw same at c.path_on.ensures.1)

pub returns-in-None : goal.returns-in-None
returns-in-None c =
    let same = c.in_ok-store.ensures.1 in
    unsafe-answer _ _ _ _ _ c.in_ok-store.ensures.0 ((rw same at c.forbidden_by-forbidden.ensures) ∙ forbidden-is _ _ _)
    (rw same at c.in_default.ensures) (rw same at c.of-certain.ensures) (rw same at c.in-None.ensures) (rw same at c.path_on-in-None.ensures.0) (rw same at c.path_on-in-None.ensures.1)
