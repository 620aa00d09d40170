-- Paths from an initial to a forbidden state (the specification, "Paths"): counterexamples, as traces.
--
--   leads t x xs        x and then the states xs are joined by steps, and the last of them is forbidden
--   is_path t xs         xs is a path: its first state is initial, each later one a successor of the one before, the last forbidden;
--                       a path of d steps is d + 1 states
--   reaching t k        the states from which at most k steps lead to a forbidden state (backward reachability)
--   distance t s        the number of steps from s to the nearest forbidden state, or `unreachable`
--   shortest t          the d of a shortest path (below n, a theorem), or n if there is none
--   has_path t           there is a path
--   walk t d X          the smallest of the shortest paths that start in X, where those have d steps
--   smallest_path t      the path that the specification names
use Rattle.std.specs.Prelude.{ℕ, zero, suc, Bool, false, cond, ◌&&◌, List, [], ◌∷◌, ltb}
use Rattle.basics.specs.Bounds.{first}
use Rattle.model.specs.Sets.{Set, member, union, meet, meets, states, smallest}
use Rattle.model.specs.Tables.{Table}

unfoldable pub leads : Table → ℕ → List ℕ → Bool
leads t x [] = member t.forbidden x
leads t x (y ∷ ys) = member (t.row x) y && leads t y ys

unfoldable pub is_path : Table → List ℕ → Bool
is_path t [] = false
is_path t (x ∷ xs) = member t.initial x && leads t x xs

unfoldable pub reaching : Table → ℕ → Set
reaching t zero = t.forbidden
reaching t (suc k) = let closer = reaching t k in union closer (states t.n (λ s. meets (t.row s) closer))

-- What stands for the distance of a state from which no forbidden state can be reached: the distances are 16-bit numbers.
abbrev pub unreachable : ℕ
unreachable = 65535

unfoldable pub distance : Table → ℕ → ℕ
distance t s = let d = first t.n (λ k. member (reaching t k) s) in cond (ltb d t.n) d unreachable

unfoldable pub shortest : Table → ℕ
shortest t = first t.n (λ k. meets t.initial (reaching t k))

unfoldable pub has_path : Table → Bool
has_path t = ltb (shortest t) t.n

-- After the first state is chosen, the rest is the path asked for from that state with one step fewer, its successors taken as the
-- initial states.
unfoldable pub walk : Table → ℕ → Set → List ℕ
walk t zero X = smallest (meet X (reaching t zero)) ∷ []
walk t (suc d) X = let x = smallest (meet X (reaching t (suc d))) in x ∷ walk t d (t.row x)

unfoldable pub smallest_path : Table → List ℕ
smallest_path t = walk t (shortest t) t.initial
