-- Laws of `Put`: texts put into a buffer one after the other are one text put there.
--
--   put_none, put_byte      nothing put; one byte stored
--   put_then                two texts, the second from where the first ends
--   put_most                a longer bound on the text
--   put_front               a text put at the front of a buffer that has room for it overwrites the front and nothing else
use Prim.Native.Nat.{ℕ, ◌+◌, ◌≤◌}
use native.Mathlib.Nat.{add-zero, zero-add}
use native.Mathlib.Omega.{arith}
use mathlib.Core.Path.{◌≡◌, refl, sym, ap, ◌∙◌}
use mathlib.Core.List.{List, [], ◌∷◌, ◌++◌}
use borrow.Rule.Slice.Mut.{set_vals}
use lib.ListN.{length, drop, set, length-append, length-set}
use lib.Seq.{sets-eq, length-take-le}
use Rattle.model.specs.Calls.{overwrite}
use Rattle.core_report.specs.declared.Report.{Report}
use Rattle.core_report.specs.Put.{Front, Put}
use Rattle.model.proofs.ListsInParts.{sets-append}

pub put_none : (report : Report) → Put 0 [] report report
put_none report = record { short = omega arith; ends = sym (add-zero report.at); long = refl; bytes = refl; same_buffer = refl }

pub put_byte : (x : ℕ) (report : Report)
    → Put 1 (x ∷ []) report (record { out = set_vals (set report.out.now report.at x) report.out; at = report.at + 1 })
put_byte x report = record { short = omega arith; ends = refl; long = length-set report.out.now report.at x; bytes = refl; same_buffer = refl }

pub put_then : {j k : ℕ} {xs ys : List ℕ} {a b c : Report} → Put j xs a b → Put k ys b c → Put (j + k) (xs ++ ys) a c
put_then {j} {k} {xs} {ys} {a} {b} {c} p q =
    record {
      short = omega (arith, length-append xs ys);
      ends = omega (arith, length-append xs ys);
      long = q.long ∙ p.long;
      bytes = q.bytes ∙ rw (p.bytes, p.ends) (sym (sets-append a.out.now a.at xs ys));
      same_buffer = q.same_buffer ∙ p.same_buffer;
    }

pub put_most : {j k : ℕ} {xs : List ℕ} {a b : Report} → j ≤ k → Put j xs a b → Put k xs a b
put_most h p = record { short = omega arith; ends = p.ends; long = p.long; bytes = p.bytes; same_buffer = p.same_buffer }

pub put_front : {k : ℕ} {xs after : List ℕ} {a b : Report} → a.at ≡ 0 → k ≤ length a.out.now → Put k xs a b
    → (a.out.ghost_name ≡ b.out.ghost_name → after ≡ b.out.now) → Front xs a.out.now b.at after
unfolding overwrite
put_front {k} {xs} {after} {a} {b} begins h p lent =
    let same = lent (sym p.same_buffer) in
    let fits : b.at ≤ length b.out.now = omega arith in
    rw same
    (record {
      ends = p.ends ∙ rw begins (zero-add (length xs));
      bytes = p.bytes ∙ rw begins (sets-eq xs a.out.now 0 (omega arith) ∙ ap (λ (m : ℕ). xs ++ drop m a.out.now) (zero-add (length xs)));
      within = (fits, sym (length-take-le b.at b.out.now fits));
    })
