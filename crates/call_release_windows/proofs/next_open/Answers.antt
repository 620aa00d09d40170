-- `next_open`: the grounds in their order, then what the search found.
use Rattle.core_refusals.proofs.RefusalsPassed.{passed_on}
use Rattle.call_release_windows.proofs.WindowsAnswered.{sound, refuses, answers}
use Rattle.call_release_windows.proofs.next_open.Goals as goal

pub returns-in_err-accept_call : goal.returns-in_err-accept_call
returns-in_err-accept_call c = rw (passed_on _ c.from_residual.ensures.1) (refuses _ _ _ _ c.in_err-accept_call.ensures)

pub invariant_of-windows : goal.invariant_of-windows
invariant_of-windows c = record { in_range = (sound _ _ _ c.in_ok-accept_call.ensures).in_range }

pub first_open_minute-requires : goal.first_open_minute-requires
first_open_minute-requires c = (sound _ _ _ c.in_ok-accept_call.ensures).no_later

pub returns : goal.returns
returns c = answers _ _ _ c.in_ok-accept_call.ensures _ c.first_open_minute.ensures
