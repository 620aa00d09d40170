-- The proof of specs/Faithful.
use Prim.Native.Nat.{ℕ}
use mathlib.Core.Path.{◌≡◌, refl}
use mathlib.Core.Bool.{Bool, true, false}
use Rattle.basics.specs.Refusals.{answered}
use Rattle.call_release_windows.specs.WindowAnswers.{Opening, minute, never}
use Rattle.call_check.specs.CheckText.{FileVerdict, safe, unsafe, refused_file}
use Rattle.shuntberry_fields.specs.Fields.{within_fields, minute_fields, check_fields}
use Rattle.shuntberry_fields.specs.Faithful.{within_from, minute_from, check_from, Faithful, Cases}

-- ---- where the fields depend on the case of the answer

yes_or_no : (b : Bool) → within_from (within_fields (answered b)) ≡ answered b
yes_or_no true = refl
yes_or_no false = refl

opening : (o : Opening) → minute_from (minute_fields (answered o)) ≡ answered o
opening (minute m) = refl
opening never = refl

checked : (l : ℕ) (v : FileVerdict)
    → check_from (check_fields (answered (record { text_length = l; verdict = v })))
    ≡ answered (record { text_length = l; verdict = v })
checked l (safe n) = refl
checked l (unsafe n) = refl
checked l (refused_file k) = refl

pub faithful : Faithful
faithful =
    record {
      decide = record { answer = λ a. refl; refusal = λ k. refl };
      shortest-path = record { answer = λ a. refl; refusal = λ k. refl };
      within = record { answer = yes_or_no; refusal = λ k. refl };
      read = record { answer = λ a. refl; refusal = λ k. refl };
      write-rewrite = record { answer = λ l. refl; refusal = λ k. refl };
      replay = record { answer = λ a. refl; refusal = λ k. refl };
      session = λ X. record { answer = λ Y. refl; refusal = λ k. refl };
      decide_modal = record { answer = λ a. refl; refusal = λ k. refl };
      next_open = record { answer = opening; refusal = λ k. refl };
      check = record { answer = λ a. checked a.text_length a.verdict; refusal = λ k. refl };
      number = record { answer = λ a. refl; refusal = λ k. refl };
    }

pub cases : Cases
cases =
    record {
      decide-safe = λ X. refl;
      decide-unsafe = refl;
      decide-undecided = refl;
      path = refl;
      no_path = refl;
      modal_safe = λ X. refl;
      modal_unsafe = refl;
      modal_depends = λ X. refl;
    }
