-- The promises of the calls distances and within (specs/DistancePromises), by their contracts.
--
--   distance_is                        a distance is what DistanceIs says
--   overwrite-rest                     what lies past a front that was written over stays
--   Written, written                   what a call of distances that is answered gives
--   within-is                          WithinIs
--   promises                           DistancePromises
use Prim.Native.Nat.{ℕ, ◌+◌, ◌-◌, ◌≤◌, ◌<◌}
use native.Mathlib.Omega.{arith}
use mathlib.Core.Path.{◌≡◌, refl, sym, ap, ◌∙◌, subst}
use mathlib.Core.Logic.{◌↔◌}
use mathlib.Core.Bool.{true}
use mathlib.Core.List.{List, [], ◌∷◌}
use borrow.Author.Tests.{ltb-false}
use lib.Dec.{ltb}
use lib.ListN.{length, get_or}
use lib.Seq.{get_or-drop}
use Rattle.basics.specs.Bounds.{tabulate}
use Rattle.model.specs.Sets.{max_states, member}
use Rattle.model.specs.Tables.{Table}
use Rattle.model.specs.Paths.{leads, reaching, unreachable, distance, smallest_path}
use Rattle.basics.specs.Refusals.{Ground, answered, unless_refused}
use Rattle.model.specs.Stores.{table_of, shared_grounds}
use Rattle.model.specs.Calls.{overwrite}
use Rattle.basics.proofs.BoundLaws.{length-tabulate, get_or-tabulate}
use Rattle.model.proofs.ListsInParts.{get_or_behind, length-overwrite, overwrite_front}
use Rattle.model.proofs.SetsMembers.{in_first_states, first_states_in, in_meets, meets_in}
use Rattle.model.specs.WellFormed.{WellFormed}
use Rattle.model.proofs.PathLaws.{reaching-leads, leads-reaching, length-smallest, path_of, has_path_lem, smallest-is}
use Rattle.basics.proofs.RefusalLaws.{clear_refuse, refuse_clear, answer-none, answered_clear, answered-is, answered_value, refused-is}
use Rattle.model.proofs.StoresAccepted.{Store, accepted_store, store_accepted, well_formed}
use Rattle.model.proofs.StoresFirstWords.{same_call, same-buffer}
use Rattle.call_distances.specs.Distances.{distances_grounds, distances_answer, distances_buffer, distances_of, CalledDistances}
use Rattle.call_paths.specs.Within.{is_within, within_answer}
use Rattle.call_distances.specs.DistancePromises.{DistanceIs, Measured, WithinIs, DistancePromises}
use Rattle.core_refusals.specs.declared.Refusal.{Refusal}
use Rattle.std.specs.Prelude.{Result}
use Rattle.call_paths.proofs.Nearness.{within-some, some-within, reach_near, near_distance, within-reaching, within-shortest}

-- ---- one table

module _ {t : Table} (ok : WellFormed t) (small : t.n ≤ max_states) where
  distance_is : (s : ℕ) → s < t.n → DistanceIs t s (distance t s)
  distance_is s l =
      record {
        reached = λ f. let w = reaching-leads t (distance t s) (reach_near ok small s f) in (w.0, w.1, omega (arith, w.2, (near w.0 w.1).0));
        nearest = near;
      }
    where
      near : (xs : List ℕ) → leads t s xs ≡ true → (distance t s ≤ length xs) × (distance t s ≡ unreachable → ⊥)
      near xs e = near_distance ok small s (length xs) (leads-reaching ok xs (in_first_states (omega arith) l) e)

  within-is : (k : ℕ) → WithinIs t k (is_within t k)
  unfolding reaching
  within-is k =
      let is = within-shortest ok small k in
      record {
        path = (
          (λ y. (smallest_path t, path_of t (is.0 y).0, omega (arith, length-smallest t, (is.0 y).1))),
          (λ w.
              let some = has_path_lem ok w.0 w.1 in
              is.1 (some, omega (arith, length-smallest t, (smallest-is ok some).shortest w.0 w.1, w.2))),
        );
        at_zero = λ z. (
          (λ y. let w = meets_in (sym (within-reaching ok small 0) ∙ (rw z at y)) in (w.0, w.1.is, w.2.is)),
          (λ w. rw z (within-reaching ok small 0 ∙ in_meets (record { is = w.1 }) (record { is = w.2 }))),
        );
      }

-- ---- a call of distances

overwrite-rest : (xs old : List ℕ) (i : ℕ) → length xs ≤ i → get_or (overwrite xs old) i 0 ≡ get_or old i 0
unfolding overwrite
overwrite-rest xs old i l =
    let e : length xs + (i - length xs) ≡ i = omega arith in
    rw (← e) (get_or_behind xs _ (length xs) (i - length xs) 0 refl ∙ get_or-drop (length xs) old (i - length xs) 0)

record Written (store : List ℕ) (n g : ℕ) (before after : List ℕ) : Type 0 where
  held : Store store n g
  room : n ≤ length before
  is : after ≡ overwrite (tabulate n (distance (table_of store n g))) before

written : (store : List ℕ) (n g : ℕ) (before : List ℕ) (r : Result (Unit {0}) Refusal) (after : List ℕ) → CalledDistances store n g before r after
    → distances_of r ≡ answered tt → Written store n g before after
unfolding distances_grounds distances_answer distances_buffer
written store n g before r after c e =
    let grounds = distances_grounds store n g (length before) in
    let gives = sym c.0 ∙ e in
    let own : List Ground = (ltb (length before) n, 23) ∷ [] in
    let parts = accepted_store store n g own (clear_refuse grounds (answered_clear grounds tt gives)) in
    record {
      held = parts.0;
      room = ltb-false (length before) n (refuse_clear own [] refl parts.1).0.0;
      is = c.1 ∙ ap (unless_refused before _) gives;
    }

module _ (store : List ℕ) (n g : ℕ) (before after : List ℕ) (w : Written store n g before after) where
  place : (s : ℕ) → s < n → get_or after s 0 ≡ distance (table_of store n g) s
  place s l = rw w.is (overwrite_front _ before s 0 (rw length-tabulate l) ∙ get_or-tabulate _ n s 0 l)

  measured : Measured (table_of store n g) before after
  unfolding table_of
  measured =
      record {
        distances = λ s l. rw (place s l) (distance_is (well_formed store n g w.held) w.held.small s l);
        rest = λ i l. rw w.is (overwrite-rest _ before i (rw length-tabulate l));
        as_long = rw w.is (length-overwrite _ before (rw length-tabulate w.room));
      }

  agrees : (k : ℕ)
      → (is_within (table_of store n g) k ≡ true)
      ↔ ((s : ℕ) × (member (table_of store n g).initial s ≡ true) × (get_or after s 0 ≡ unreachable → ⊥) × (get_or after s 0 ≤ k))
  unfolding table_of
  agrees k = (
    (λ e. let f = within-some _ k e in let p = place f.0 (initial f.0 f.1.is) in (f.0, f.1.is, rw p f.2, rw p f.3)),
    (λ f. let p = place f.0 (initial f.0 f.1) in some-within _ k (f.0, record { is = f.1 }, rw p at f.2, rw p at f.3)),
  )
    where
      initial : (s : ℕ) → member (table_of store n g).initial s ≡ true → s < n
      initial s e = first_states_in ((well_formed store n g w.held).initial s (record { is = e }))

-- ---- the promises

pub promises : DistancePromises
unfolding distances_grounds distances_answer distances_buffer within_answer table_of
promises =
    record {
      refusal = λ store n g before r after k c e.
          let gives = sym c.0 ∙ e in
          (refused-is (distances_grounds store n g (length before)) tt gives, c.1 ∙ ap (unless_refused before _) gives);
      distances = λ store n g before r after c e. measured store n g before after (written store n g before r after c e);
      within-refusal = λ store n g k r j c e. refused-is (shared_grounds store n g) _ (sym c ∙ e);
      within = λ store n g k r yes c e.
          let grounds = shared_grounds store n g in
          let gives = sym c ∙ e in
          let held = (accepted_store store n g [] (clear_refuse grounds (answered_clear grounds _ gives))).0 in
          subst (WithinIs (table_of store n g) k) (sym (answered_value grounds _ gives)) (within-is (well_formed store n g held) held.small k);
      agree = λ store n g before r after k w c e v.
          let m = written store n g before r after c e in
          let gives = v ∙ answer-none (shared_grounds store n g) _ refl (store_accepted store n g [] m.held ∙ clear_refuse [] tt) in
          let both = agrees store n g before after m k in
          ((λ y. both.0 (answered-is (sym gives ∙ y))), (λ f. gives ∙ ap answered (both.1 f)));
      first-words = λ store other long long' e.
          record {
            distances = λ n g out. (
              same_call store other long long' e (λ t. tt) n g ((ltb (length out) n, 23) ∷ []) refl,
              same-buffer store other long long' e (λ t. tt) (λ t done. overwrite (tabulate n (distance t)) out) out n g ((ltb (length out) n, 23) ∷ []) refl,
            );
            within = λ n g k. same_call store other long long' e (λ t. is_within t k) n g [] refl;
          };
    }
