-- Tables A to G (the specification, "Worked tables"), written as it writes them: none has a resting state but restingG. C is B, and H says of a
-- table only its n and g.
--
--   word_of states                              the word whose bits are these states, each below 64 and named once
--   set states                                 the set of these states
--   successors steps s                         the states that a step from s leads to
--   table n initial marked groups steps        a table; a step from a to b is the pair (a, b)
use Rattle.std.specs.Prelude.{ℕ, ◌-◌, ◌+◌, ◌^◌, cond, List, [], ◌∷◌, map, eqb, replicate}
use Rattle.model.specs.Sets.{WORDS, Set}
use Rattle.model.specs.Tables.{Dialogue}
use Rattle.model.specs.Resting.{rested}

abbrev pub word_of : List ℕ → ℕ
word_of [] = 0
word_of (s ∷ states) = 2 ^ s + word_of states

abbrev pub set : List ℕ → Set
set states = word_of states ∷ replicate (WORDS - 1) 0

abbrev pub successors : List (ℕ × ℕ) → ℕ → List ℕ
successors [] s = []
successors (step ∷ steps) s = cond (eqb step.0 s) (step.1 ∷ successors steps s) (successors steps s)

abbrev pub table : ℕ → List ℕ → List ℕ → List (List ℕ) → List (ℕ × ℕ) → Dialogue
table n initial marked groups steps =
    record {
      n = n;
      initial = set initial;
      marked = set marked;
      resting = set [];
      groups = map set groups;
      row = λ s. set (successors steps s);
    }

abbrev pub A : Dialogue
A = table 3 (0 ∷ []) (2 ∷ []) [] ((0, 1) ∷ (1, 0) ∷ (2, 2) ∷ [])

-- B, and D: B with groups.
abbrev pub chain : List (List ℕ) → Dialogue
chain groups = table 5 (0 ∷ []) (3 ∷ []) groups ((0, 1) ∷ (1, 2) ∷ (2, 3) ∷ (4, 4) ∷ [])

abbrev pub B : Dialogue
B = chain []

abbrev pub D : Dialogue
D = chain ((0 ∷ []) ∷ (1 ∷ []) ∷ (2 ∷ []) ∷ [])

abbrev pub E : Dialogue
E = table 3 (0 ∷ []) (2 ∷ []) [] ((0, 0) ∷ (1, 2) ∷ [])

abbrev pub F : Dialogue
F = table 1 (0 ∷ []) (0 ∷ []) [] []

-- State 0 is a hang, and so forbidden; in restingG it rests, and nothing is forbidden.
abbrev pub G : Dialogue
G = table 1 [] [] [] []

abbrev pub restingG : Dialogue
restingG = rested G (set (0 ∷ []))
