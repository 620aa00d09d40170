-- What is printed for a file (docs/SPECIFICATION.md, "The program"), as lists of bytes.
--
--   ascii s                                a text: the code of each character
--   digit d, decimal n                     the digit d; the digits of n: no zero in front, `0` for 0
--   spaced xs                              each number after a single space
--   states_line n g, verdict_line word count lines 1 and 2
--   invariant_line X, path_line xs           line 3, for safe and for unsafe
--   safe_text, unsafe_text, undecided_text    the whole, for each verdict
--   report_text n g a path                  the whole, for the decision a and the path buffer as decide left it
--   refused_text k                          what is printed for the refusal k
--   text_of f x                             what is printed for what a call gave: its refusal, or f of its answer
--
-- Each line ends with a line feed.
use Rattle.std.specs.Prelude.{ℕ, zero, suc, ◌+◌, ◌/◌, ◌%◌, cond, List, [], ◌∷◌, ◌++◌, eqb, ltb, take}
use Prim.Native.Char.{code}
use Prim.Native.String.{String, [] as []ˢ, ◌∷◌ as ◌∷ˢ◌}
use Rattle.basics.specs.Refusals.{Answered, refused, answered}
use Rattle.model.specs.Sets.{Set, members, size}
use Rattle.model.specs.Calls.{Decision}

unfoldable pub ascii : String → List ℕ
ascii []ˢ = []
ascii (c ∷ˢ s) = code c ∷ ascii s

abbrev pub digit : ℕ → ℕ
digit d = code "0" + d

-- The last digits of n, at most so many of them.
unfoldable pub digits : ℕ → ℕ → List ℕ
digits zero n = []
digits (suc more) n = cond (ltb n 10) (digit n ∷ []) (digits more (n / 10) ++ (digit (n % 10) ∷ []))

-- At most n + 1 are all of them: each digit that is taken off leaves a smaller number.
unfoldable pub decimal : ℕ → List ℕ
decimal n = digits (suc n) n

unfoldable pub spaced : List ℕ → List ℕ
spaced [] = []
spaced (x ∷ xs) = ascii " " ++ decimal x ++ spaced xs

unfoldable pub states_line : ℕ → ℕ → List ℕ
states_line n g = ascii "states " ++ decimal n ++ ascii " groups " ++ decimal g ++ ascii "\n"

unfoldable pub verdict_line : List ℕ → ℕ → List ℕ
verdict_line word count = word ++ ascii " refinements " ++ decimal count ++ ascii "\n"

-- The number of states, then the states, or `none`.
unfoldable pub invariant_line : Set → List ℕ
invariant_line X =
    ascii "invariant " ++ decimal (size X) ++ ascii ":" ++ cond (eqb (size X) 0) (ascii " none") (spaced (members X)) ++ ascii "\n"

unfoldable pub path_line : List ℕ → List ℕ
path_line xs = ascii "path" ++ spaced xs ++ ascii "\n"

unfoldable pub safe_text : ℕ → ℕ → ℕ → Set → List ℕ
safe_text n g count X = states_line n g ++ verdict_line (ascii "safe") count ++ invariant_line X

unfoldable pub unsafe_text : ℕ → ℕ → ℕ → List ℕ → List ℕ
unsafe_text n g count xs = states_line n g ++ verdict_line (ascii "unsafe") count ++ path_line xs

-- The specification says nothing of undecided, which a release check never is (demand 2). Here it has a line 2 of its own and no line 3.
unfoldable pub undecided_text : ℕ → ℕ → ℕ → List ℕ
undecided_text n g count = states_line n g ++ verdict_line (ascii "undecided") count

unfoldable pub report_text : ℕ → ℕ → Decision → List ℕ → List ℕ
report_text n g a path =
    cond (eqb a.verdict 0) (safe_text n g a.count a.invariant)
    (cond (eqb a.verdict 1) (unsafe_text n g a.count (take (a.steps + 1) path)) (undecided_text n g a.count))

unfoldable pub refused_text : ℕ → List ℕ
refused_text k = ascii "refused " ++ decimal k ++ ascii "\n"

abbrev pub text_of : {A : Type 0} → (A → List ℕ) → Answered A → List ℕ
text_of f (refused k) = refused_text k
text_of f (answered a) = f a
