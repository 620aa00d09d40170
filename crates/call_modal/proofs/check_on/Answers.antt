-- `check_on`: the rounds on those rows.
use Rattle.core_rounds.specs.declared.Ending.TheVariants.{Safe, Unsafe, Undecided}
use Rattle.call_modal.proofs.Checking.{checked}
use Rattle.call_modal.proofs.check_on.Goals as goal

pub returns-in-Safe : goal.returns-in-Safe
returns-in-Safe c = checked _ _ _ _ c.initial.ensures _ (Safe _ _) c.in-Safe.ensures

pub returns-in-Unsafe : goal.returns-in-Unsafe
returns-in-Unsafe c = checked _ _ _ _ c.initial.ensures _ (Unsafe _) c.in-Unsafe.ensures

pub returns-in-Undecided : goal.returns-in-Undecided
returns-in-Undecided c = checked _ _ _ _ c.initial.ensures _ (Undecided _) c.in-Undecided.ensures
