-- The texts that the specification shows (docs/SPECIFICATION.md, "The program"): of the answers of tables E, G and B, and of a refusal; and texts with numbers of
-- several digits, groups, and an invariant of several states.
-- `WorkedTextsKept.worked_texts` proves it.
--
--   safe_after i X, unsafe_after i d     the answers safe, with i refinements and the invariant X, and unsafe, with a path of d steps
--   undecided_after i                   the answer undecided, with i refinements, which no release check gives
--   WorkedTexts                        what is printed for them
use Rattle.std.specs.Prelude.{ℕ, ◌≡◌, [], ◌∷◌}
use Rattle.model.specs.Sets.{Set, empty, single, union, size}
use Rattle.model.specs.Calls.{Decision}
use Rattle.core_report.specs.Text.{ascii, report_text, refused_text}

abbrev pub safe_after : ℕ → Set → Decision
safe_after i X = record { verdict = 0; count = i; invariant = X; size = size X; steps = 0 }

abbrev pub unsafe_after : ℕ → ℕ → Decision
unsafe_after i d = record { verdict = 1; count = i; invariant = empty; size = 0; steps = d }

abbrev pub undecided_after : ℕ → Decision
undecided_after i = record { verdict = 2; count = i; invariant = empty; size = 0; steps = 0 }

pub record WorkedTexts : Type 0 where
  pub E : report_text 3 0 (safe_after 1 (single 0)) [] ≡ ascii "states 3 groups 0\nsafe refinements 1\ninvariant 1: 0\n"
  pub G : report_text 1 0 (safe_after 0 empty) [] ≡ ascii "states 1 groups 0\nsafe refinements 0\ninvariant 0: none\n"
  -- of the path buffer only the first four places are printed
  pub B : report_text 5 0 (unsafe_after 3 3) (0 ∷ 1 ∷ 2 ∷ 3 ∷ 9 ∷ []) ≡ ascii "states 5 groups 0\nunsafe refinements 3\npath 0 1 2 3\n"
  pub refusal : refused_text 11 ≡ ascii "refused 11\n"
  -- the states rise
  pub invariant : report_text 512 64 (safe_after 120 (union (single 70) (union (single 9) (single 511)))) [] ≡ ascii "states 512 groups 64\nsafe refinements 120\ninvariant 3: 9 70 511\n"
  pub path : report_text 512 3 (unsafe_after 10 2) (10 ∷ 511 ∷ 205 ∷ []) ≡ ascii "states 512 groups 3\nunsafe refinements 10\npath 10 511 205\n"
  pub undecided : report_text 5 0 (undecided_after 2) [] ≡ ascii "states 5 groups 0\nundecided refinements 2\n"
  pub later_refusal : refused_text 24 ≡ ascii "refused 24\n"
