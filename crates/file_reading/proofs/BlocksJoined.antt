-- The blocks of an input, checked and joined.
--
--   Joining input site k old out    the first k blocks have no fault, and their contents are joined
--   joining_none, joining_more      before the first turn of a loop over the blocks; a turn that found no fault
--   joining_stop, joining_all       a turn that found one; when the loop is done
use Prim.Native.Nat.{ℕ, ◌+◌, ◌*◌, ◌-◌, ◌/◌, ◌≤◌, ◌<◌}
use native.Mathlib.Nat.{le_antisymm}
use native.Mathlib.Omega.{arith}
use mathlib.Core.Path.{◌≡◌, refl, sym, ap, ◌∙◌, subst}
use mathlib.Core.List.{List, []}
use Rattle.std.specs.Prelude.{Result, Ok}
use lib.ListN.{length, take, drop, take-append-drop}
use lib.Seq.{drop-drop}
use Rattle.basics.specs.Bounds.{concat}
use Rattle.basics.specs.Refusals.{Ground, refuse}
use Rattle.core_refusals.specs.declared.Refusal.{Refusal}
use Rattle.core_refusals.specs.Refusals.{number_of}
use Rattle.model.specs.Blocks.{block_bytes, content_bytes, content_at, part, contents_of, block_grounds}
use Rattle.model.specs.Calls.{overwrite, blocks_grounds}
use Rattle.basics.proofs.RefusalLaws.{Clear, clear_refuse, refuse_clear, clear_next, refuse_stop}
use Rattle.model.proofs.ListsInParts.{part_front}
use Rattle.model.proofs.BlockLaws.{length_part, contents_wide}
use Rattle.file_reading.specs.Reading.{Joined}
use Rattle.core_table.proofs.ListsOverwritten.{Over, parts_none, parts_more, parts_all, lent, back}

abbrev block_content : List ℕ → ℕ → List ℕ
block_content input k = take content_bytes (drop content_at (part input k))

abbrev grounds : List ℕ → ℕ → ℕ → List Ground
grounds input site k = block_grounds site (part input k) k

pub record Joining (input : List ℕ) (site k : ℕ) (old out : List ℕ) : Type 0 where
  pub within : k ≤ length input / block_bytes
  pub passed : Clear (concat k (grounds input site))
  pub over : Over (concat k (block_content input)) old out

pub joining_none : (input : List ℕ) (site : ℕ) (old : List ℕ) → Joining input site 0 old old
unfolding concat
joining_none input site old = record { within = omega arith; passed = tt; over = parts_none (block_content input) old }

-- the content as code copies it
content-part : (input : List ℕ) (k : ℕ) → k < length input / block_bytes → take content_bytes (drop (block_bytes * k + content_at) input) ≡ block_content input k
unfolding part
content-part input k h =
    let rest = drop (block_bytes * k) input in
    ap (take content_bytes) (sym (drop-drop content_at (block_bytes * k) input) ∙ ap (drop content_at) (sym (take-append-drop block_bytes rest)))
    ∙ part_front (part input k) (drop block_bytes rest) content_at content_bytes (omega (arith, length_part input k h))

module _ {input : List ℕ} {site k : ℕ} {old out : List ℕ} (so : Joining input site k old out) where
  module _ (h : k < length input / block_bytes) {number : ℕ}
      (e : number ≡ refuse (block_grounds site (take (block_bytes * k + block_bytes - block_bytes * k) (drop (block_bytes * k) input)) k)) where
    -- its own bytes are handed on
    own : number ≡ refuse (grounds input site k)
    unfolding part
    own =
        let whole : block_bytes * k + block_bytes - block_bytes * k ≡ block_bytes = omega arith in
        e ∙ ap (λ (m : ℕ). refuse (block_grounds site (take m (drop (block_bytes * k) input)) k)) whole

    pub joining_stop : (number ≡ 0 → ⊥) → {answer : Result (Unit {0}) Refusal} → number_of answer ≡ number → Joined input site answer old out
    unfolding blocks_grounds
    joining_stop x a = record { first_ground = a ∙ refuse_stop _ (length input / block_bytes) k h so.passed own x; joined = λ z. absurd (x (sym a ∙ z)) }

    pub joining_more : (rest : List ℕ) → number ≡ 0
        → rest ≡ overwrite (take content_bytes (drop (block_bytes * k + content_at) input)) (lent (content_bytes * k) out)
        → length (back (content_bytes * k) out rest) ≡ length out → Joining input site (k + 1) old (back (content_bytes * k) out rest)
    unfolding block_grounds
    joining_more rest z f long =
        record {
          within = omega arith;
          passed = clear_next (grounds input site) k so.passed (refuse_clear (grounds input site k) [] refl (sym own ∙ z)).0;
          over =
              parts_more (block_content input) old (λ j l. contents_wide input j (omega (arith, so.within))) so.over rest
              (f ∙ ap (λ xs. overwrite xs (lent (content_bytes * k) out)) (content-part input k h)) long;
        }

  pub joining_all : length input / block_bytes ≤ k → Joined input site (Ok tt) old out
  unfolding blocks_grounds contents_of
  joining_all h =
      record {
        first_ground = sym (clear_refuse _ (subst (λ (m : ℕ). Clear (concat m (grounds input site))) (le_antisymm so.within h) so.passed));
        joined = λ _. parts_all (block_content input) old out k (length input / block_bytes) so.within h so.over;
      }
