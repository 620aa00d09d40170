-- The states that stay in a set that has become smaller: those that step to none of the states that left it.
--
--   by_word            what the states of a set step to, word by word, is what each of them steps to
--   kept_word          `Leading::held_word`: a word from which no step leads to a state that left
--   leads_start, leads_again     what it asks for, at the first pass and at the next
use Prim.Native.Nat.{ℕ, ◌+◌, ◌*◌, ◌/◌, ◌%◌, ◌<◌}
use native.Mathlib.Omega.{arith}
use mathlib.Core.Path.{◌≡◌, refl, sym, ap, ◌∙◌}
use mathlib.Core.Logic.{inr, ⊎_elim}
use mathlib.Core.Bool.{true, false, ◌&&◌}
use mathlib.Core.List.{List, []}
use lib.ListN.{get_or}
use mir.Syntax.{w64}
use mir.Val.{Fits}
use Rattle.model.specs.Sets.{WORDS, max_states, Set, bit, member, union, difference, subset, meets, first_states}
use Rattle.model.specs.Promises.{IsLeast}
use Rattle.basics.proofs.BoundLaws.{and_true, and_intro, same_test, clash, get_or-tabulate}
use Rattle.model.proofs.SetsMembers.{In, in_bound, in_or_out, in_union, in_difference, ◌⊆◌, in_subset, ⊆-of-eq, member_at, in_meets, in_image}
use Rattle.core_state_set.proofs.SetsWords.{word_is}
use Rattle.core_state_set.proofs.SetsByWord.{in_word_set}
use Rattle.core_rows.specs.Rows.{row_in, successors_by, meet_hold}
use Rattle.core_fixpoints.specs.Steps.{forward_by, steps_by_word, Leads, Prepared}
use Rattle.core_fixpoints.proofs.Bridge.{meet_hold_in, cover_by-within, forward-closed}

-- ---- word by word

by_word : (rows : List ℕ) (X : Set) (s : ℕ) → In X s → row_in rows s ⊆ get_or (steps_by_word rows X) (s / 64) []
unfolding steps_by_word successors_by
by_word rows X s h u r =
    let here : s / 64 < WORDS = omega (arith, in_bound h) in
    let split : s ≡ 64 * (s / 64) + s % 64 = omega arith in
    let bits : bit (get_or X (s / 64) 0) (s % 64) ≡ true = sym (member_at X (s / 64) (s % 64) here (omega arith)) ∙ ap (member X) (sym split) ∙ h.is in
    ⊆-of-eq (sym (get_or-tabulate _ WORDS (s / 64) [] here)) u
    (in_image (row_in rows) _ max_states (in_bound h) (in_word_set (s / 64) _ (in_bound h) refl bits) r)

pub kept_word : (rows : List ℕ) (steps : List Set) (X before Y : Set) (w : ℕ) {gone : Set} → Leads rows steps X before → gone ≡ difference before Y → w < WORDS
    → Fits w64 (get_or X w 0) → meets (get_or steps w []) gone ≡ false → get_or X w 0 ≡ get_or (meet_hold rows X Y) w 0
unfolding meet_hold
kept_word rows steps X before Y w l g h f none =
    word_is (λ s. member X s && subset (row_in rows s) Y) w h _ f.fits
    (λ i b.
    sym (member_at X w i h b)
    ∙ same_test _ _ (λ m. and_intro _ _ m (in_subset (stays (64 * w + i) (omega arith) (record { is = m })))) (λ e. (and_true (member X (64 * w + i)) _ e).0))
  where
    stays : (s : ℕ) → s / 64 ≡ w → In X s → row_in rows s ⊆ Y
    stays s e m u r =
        ⊎_elim (λ y. y)
        (λ o.
        let found = ⊆-of-eq (ap (λ (v : ℕ). get_or steps v []) e) u (l.by_word s m u r) in
        absurd (clash (in_meets found (⊆-of-eq (sym g) u (in_difference (l.into s m u r) o))) none))
        (in_or_out Y u)

-- ---- from a pass to the next

pub leads_start : (rows : List ℕ) (steps cover : List Set) (initial Z : Set) {R entered : Set} → Prepared rows steps cover
    → IsLeast (forward_by rows cover initial Z) R → entered ≡ union initial (successors_by rows R) → Leads rows steps R entered
unfolding successors_by
leads_start rows steps cover initial Z {R} p l e =
    let within-n : R ⊆ first_states p.is-cover.n = λ s h.
    cover_by-within cover p.is-cover R s (⊆-of-eq (sym (forward-closed rows cover p.is-cover initial Z l)) s h) in
    record {
      into = λ s h u r. ⊆-of-eq (sym e) u (in_union (inr (in_image _ R max_states (in_bound h) h r)));
      by_word = λ s h u r. ⊆-of-eq (ap (λ (S : List Set). get_or S (s / 64) []) (sym p.steps_are)) u (by_word rows _ s (within-n s h) u r);
    }

pub leads_again : (rows : List ℕ) (steps : List Set) (X before Y : Set) {kept : Set} → Leads rows steps X before → kept ≡ meet_hold rows X Y
    → Leads rows steps kept Y
leads_again rows steps X before Y l k =
    record {
      into = λ s h. (meet_hold_in rows X Y (⊆-of-eq k s h)).1;
      by_word = λ s h. l.by_word s (meet_hold_in rows X Y (⊆-of-eq k s h)).0;
    }
