-- Laws of the calls shortest path and within: the answer, and the buffer, in each case.
--
--   accepted                                      none of the shared grounds holds, so the store holds a table
--   Gives                                         what a call gives that has the shared grounds, one of its own, and a buffer
--   call_refused, call_short, call_answered       one of the shared grounds holds; its own ground does; neither
--   shortest-refused, shortest-short, shortest-found     so of shortest path
--   within-refused, within-answered               within has no ground of its own, and no buffer
use Prim.Native.Nat.{ℕ, ◌≤◌, ◌<◌}
use native.Mathlib.Omega.{arith}
use mathlib.Core.Path.{◌≡◌, refl, sym, ap, ◌∙◌}
use mathlib.Core.Bool.{Bool, true, false, cond}
use mathlib.Core.List.{List, [], ◌∷◌, ◌++◌}
use borrow.Author.Tests.{lt-ltb, le-ltb}
use lib.Dec.{eqb}
use lib.ListN.{length}
use Rattle.basics.specs.Refusals.{Ground, refuse, Answered, refused, answered, answer, unless_refused}
use Rattle.basics.proofs.RefusalLaws.{refuse-first, refuse-append, clear_refuse, numbered, numbered-append, answer-refused, answer-none}
use Rattle.model.specs.Sets.{max_states}
use Rattle.model.specs.Tables.{Table}
use Rattle.model.specs.Paths.{shortest, has_path, smallest_path}
use Rattle.model.specs.Stores.{table_of, shared_grounds}
use Rattle.model.specs.Calls.{overwrite, path_found, shortest_grounds, shortest_answer, shortest_buffer}
use Rattle.model.proofs.StoresAccepted.{Store, accepted_store, store_accepted}
use Rattle.call_paths.specs.PathAnswers.{found_in, path_written, shortest_of, CalledShortest}
use Rattle.call_paths.specs.Within.{is_within, within_answer, CalledWithin}
use Rattle.std.specs.Prelude.{Option, Some, None, Ok, Err}
use Rattle.core_refusals.specs.declared.Refusal.{Refusal}
use Rattle.core_refusals.specs.declared.Refusal.TheVariants.{PathShort}
use Rattle.core_refusals.specs.Refusals.{number}
use Rattle.core_refusals.proofs.RefusalNumbers.{number_some, answer_refused, answer_given}

pub accepted : {store : List ℕ} {n g : ℕ} → 0 ≡ refuse (shared_grounds store n g) → Store store n g
accepted {store} {n} {g} e = (accepted_store store n g [] (sym e)).0

-- ---- a call with a ground of its own and a buffer

module _ {A : Type 0} (store : List ℕ) (n g : ℕ) (own : Ground) (value : A) (old : List ℕ) (new : A → List ℕ) where
  abbrev pub grounds : List Ground
  grounds = shared_grounds store n g ++ (own ∷ [])

  abbrev pub Gives : Answered A → List ℕ → Type 0
  Gives r after = (r ≡ answer grounds value) × (after ≡ unless_refused old new (answer grounds value))

  refused_by : {k : ℕ} → k ≡ refuse grounds → (k ≡ 0 → ⊥) → Gives (refused k) old
  refused_by e f = let r = sym (answer-refused grounds value e f) in (r, ap (unless_refused old new) r)

  pub call_refused : {k : ℕ} → k ≡ refuse (shared_grounds store n g) → (k ≡ 0 → ⊥) → Gives (refused k) old
  call_refused e f = refused_by (refuse-append (shared_grounds store n g) _ e f) f

  module _ (s : Store store n g) where
    pub call_short : own.0 ≡ true → (own.1 ≡ 0 → ⊥) → Gives (refused own.1) old
    call_short h f = refused_by (refuse-first 0 (own ∷ []) h ∙ sym (store_accepted store n g (own ∷ []) s)) f

    pub call_answered : numbered (own ∷ []) ≡ true → own.0 ≡ false → Gives (answered value) (new value)
    call_answered m h =
        let clear = store_accepted store n g (own ∷ []) s ∙ clear_refuse (own ∷ []) (h, tt) in
        let r = sym (answer-none grounds value (numbered-append (shared_grounds store n g) (own ∷ []) refl m) clear) in
        (r, ap (unless_refused old new) r)

-- ---- shortest path

-- with a path and without
cases : (t : Table) (path : List ℕ) (b : Bool)
    → (shortest_of (Ok (cond b (Some (shortest t)) None)) ≡ answered (path_found t b))
    × (cond b (overwrite (smallest_path t) path) path ≡ cond (eqb (path_found t b).found 1) (overwrite (smallest_path t) path) path)
cases t path true = (refl, refl)
cases t path false = (refl, refl)

module _ (store : List ℕ) (n g : ℕ) (path : List ℕ) where
  pub shortest-refused : (r : Refusal) → number r ≡ refuse (shared_grounds store n g) → CalledShortest store n g path (Err r) path
  unfolding shortest_grounds shortest_answer shortest_buffer
  shortest-refused r e = call_refused store n g _ _ path _ e (number_some r)

  module _ (s : Store store n g) where
    pub shortest-short : length path < max_states → CalledShortest store n g path (Err PathShort) path
    unfolding shortest_grounds shortest_answer shortest_buffer
    shortest-short l = call_short store n g _ _ path _ s (lt-ltb (length path) max_states l) (λ e. omega arith)

    pub shortest-found : {found : Option ℕ} {path' : List ℕ} → max_states ≤ length path
        → (found ≡ found_in (table_of store n g)) × (path' ≡ path_written (table_of store n g) path) → CalledShortest store n g path (Ok found) path'
    unfolding shortest_grounds shortest_answer shortest_buffer found_in path_written
    shortest-found l p =
        let told = cases (table_of store n g) path (has_path (table_of store n g)) in
        let gives = call_answered store n g _ _ path _ s refl (le-ltb (length path) max_states l) in
        (ap (λ (f : Option ℕ). shortest_of (Ok f)) p.0 ∙ told.0 ∙ gives.0, p.1 ∙ told.1 ∙ gives.1)

-- ---- within

module _ (store : List ℕ) (n g k : ℕ) where
  pub within-refused : (r : Refusal) → number r ≡ refuse (shared_grounds store n g) → CalledWithin store n g k (Err r)
  unfolding within_answer
  within-refused = answer_refused (λ yes. yes) (shared_grounds store n g) _

  pub within-answered : {b : Bool} → 0 ≡ refuse (shared_grounds store n g) → b ≡ is_within (table_of store n g) k → CalledWithin store n g k (Ok b)
  unfolding within_answer
  within-answered = answer_given (λ yes. yes) (shared_grounds store n g) _ _ refl
