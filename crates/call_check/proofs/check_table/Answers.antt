-- `check_table`: the text and the verdict that belong to each of decide's cases.
use Prim.Native.Nat.{◌+◌, ◌≤◌}
use native.Mathlib.Omega.{arith}
use mathlib.Core.Path.{sym, ap, ◌∙◌}
use borrow.Author.Rules.{rules}
use lib.ListN.{length}
use lib.Seq.{length-take-le}
use Rattle.call_decide.specs.DecideAnswers.{decided_of}
use Rattle.call_check.proofs.Reports.{told, report_range, safe_reported, unsafe_reported, undecided_reported, refused_reported}
use Rattle.call_check.proofs.check_table.Goals as goal

pub write_safe-requires : goal.write_safe-requires
write_safe-requires c =
    let range = report_range _ _ _ (told c.in-Ok-Safe.is c.in-Ok-Safe.field-0-is c.decide.ensures.0) in
    (range.0, range.1, range.2, search rules)

pub overflow_add-path : goal.overflow_add-path
overflow_add-path c =
    omega (arith, (report_range _ _ _ (told c.in-Ok-Unsafe.is c.in-Ok-Unsafe.field-0-is c.decide.ensures.0)).3)

pub slice_bounds-path-end : goal.slice_bounds-path-end
slice_bounds-path-end c =
    omega (arith, (report_range _ _ _ (told c.in-Ok-Unsafe.is c.in-Ok-Unsafe.field-0-is c.decide.ensures.0)).3, c.decide.auto.path)

pub slice_bounds-write_unsafe-end : goal.slice_bounds-write_unsafe-end
slice_bounds-write_unsafe-end c =
    let range = report_range _ _ _ (told c.in-Ok-Unsafe.is c.in-Ok-Unsafe.field-0-is c.decide.ensures.0) in
    sym (length-take-le _ _ (omega (arith, range.3, c.decide.auto.path)))

pub write_unsafe-requires : goal.write_unsafe-requires
write_unsafe-requires c =
    let range = report_range _ _ _ (told c.in-Ok-Unsafe.is c.in-Ok-Unsafe.field-0-is c.decide.ensures.0) in
    let share : c.in-Ok-Unsafe.steps + 1 ≤ length c.decide.new.path = omega (arith, range.3, c.decide.auto.path) in
    (range.0, range.1, range.2, omega (arith, range.3, length-take-le (c.in-Ok-Unsafe.steps + 1) c.decide.new.path share), search rules)

pub write_undecided-requires : goal.write_undecided-requires
write_undecided-requires c =
    let range = report_range _ _ _ (told c.in-Ok-Undecided.is c.in-Ok-Undecided.field-0-is c.decide.ensures.0) in
    (range.0, range.1, range.2, search rules)

pub returns-in-Ok-Safe : goal.returns-in-Ok-Safe
returns-in-Ok-Safe c =
    safe_reported _ _ _ (told c.in-Ok-Safe.is c.in-Ok-Safe.field-0-is c.decide.ensures.0) c.write_safe.ensures

pub returns-in-Ok-Unsafe : goal.returns-in-Ok-Unsafe
returns-in-Ok-Unsafe c =
    unsafe_reported _ _ _ (told c.in-Ok-Unsafe.is c.in-Ok-Unsafe.field-0-is c.decide.ensures.0) c.decide.ensures.1 c.write_unsafe.ensures

pub returns-in-Ok-Undecided : goal.returns-in-Ok-Undecided
returns-in-Ok-Undecided c =
    undecided_reported _ _ _ (told c.in-Ok-Undecided.is c.in-Ok-Undecided.field-0-is c.decide.ensures.0) c.write_undecided.ensures

pub returns-in-Err : goal.returns-in-Err
returns-in-Err c =
    refused_reported _ _ _ _ _ (sym (ap decided_of c.in-Err.is) ∙ c.decide.ensures.0) c.refused_file.ensures
