-- Laws of the chunks of a block, summed in lanes.
--
--   chunk_sum                              one chunk more: what two rows stand for, with the weighted sum of the bytes before the chunk
--   Chunked, chunk_none, -more, -all       the loop of `whole_chunks`, of which k chunks are left, and how great the lanes become
use Prim.Native.Nat.{ℕ, zero, suc, ◌+◌, ◌*◌, ◌-◌, ◌≤◌, ◌<◌}
use native.Mathlib.Nat.{add-zero, add-suc, mul-add, add-mul, le_refl}
use native.Mathlib.Omega.{arith}
use mathlib.Core.Path.{◌≡◌, refl, sym, ap, ap₂, ◌∙◌, subst}
use mathlib.Core.List.{List}
use lib.ListN.{get_or, take, drop, replicate}
use Rattle.model.specs.Blocks.{weighted}
use Rattle.file_blocks.specs.Lanes.{lanes, chunks, byte_most, lanes_sum, plus, Most}
use Rattle.file_blocks.proofs.Lanes.{get_or-plus, get_or-chunk, most_zero, most-plus}
use Rattle.file_blocks.proofs.Summing.{weighted-none}

abbrev chunk_at : List ℕ → ℕ → List ℕ
chunk_at block at = take lanes (drop at block)

-- lane n of a chunk, with the lanes before it
chunk_sum : (block sums turns : List ℕ) (at n : ℕ) → n ≤ lanes
    → weighted block at + lanes_sum at (plus sums (chunk_at block at)) (plus turns sums) n ≡ weighted block (at + n) + lanes_sum (at + lanes) sums turns n
unfolding weighted lanes_sum
chunk_sum block sums turns at zero h = ap (λ (m : ℕ). weighted block m + 0) (sym (add-zero at))
chunk_sum block sums turns at (suc n) h =
    let x = get_or sums n 0 in
    let y = get_or block (at + n) 0 in
    let place : at + lanes + n + 1 ≡ lanes + (at + n + 1) = omega arith in
    omega (
      arith,
      chunk_sum block sums turns at n (omega arith),
      ap (weighted block) (add-suc at n),
      get_or-plus turns sums n (omega arith),
      ap (λ (z : ℕ). (at + n + 1) * z) (get_or-plus sums (chunk_at block at) n (omega arith) ∙ ap (λ (z : ℕ). x + z) (get_or-chunk block at n (omega arith))),
      mul-add (at + n + 1) x y,
      ap (λ (z : ℕ). z * x) place ∙ add-mul lanes (at + n + 1) x,
    )

pub record Chunked (block sums turns : List ℕ) (k : ℕ) : Type 0 where
  pub within : k ≤ chunks
  pub is : weighted block (lanes * k) + lanes_sum (lanes * k) sums turns lanes ≡ weighted block (lanes * chunks)
  pub low : Most (byte_most * (chunks - k)) sums
  pub low_turns : Most (byte_most * chunks * (chunks - k)) turns

zeros_sum : lanes_sum (lanes * chunks) (replicate lanes 0) (replicate lanes 0) lanes ≡ 0
unfolding lanes_sum
zeros_sum = refl

pub chunk_none : (block : List ℕ) → Chunked block (replicate lanes 0) (replicate lanes 0) chunks
chunk_none block = record { within = omega arith; is = omega (arith, zeros_sum); low = most_zero; low_turns = most_zero }

module _ {block sums turns : List ℕ} {k : ℕ} (so : Chunked block sums turns k) where
  pub chunk_more : {sums' turns' : List ℕ} → let part = chunk_at block (lanes * (k - 1)) in
      0 < k → turns' ≡ plus turns sums → sums' ≡ plus sums part → Most byte_most part → Chunked block sums' turns' (k - 1)
  chunk_more h e f byte =
      let at = lanes * (k - 1) in
      let next : at + lanes ≡ lanes * k = omega arith in
      record {
        within = omega (arith, so.within);
        is =
            ap₂ (λ xs ys. weighted block at + lanes_sum at xs ys lanes) f e
            ∙ chunk_sum block sums turns at lanes (le_refl lanes)
            ∙ ap (λ (m : ℕ). weighted block m + lanes_sum m sums turns lanes) next
            ∙ so.is;
        low = subst (Most (byte_most * (chunks - (k - 1)))) (sym f) (most-plus so.low byte (omega (arith, so.within)));
        low_turns = subst (Most (byte_most * chunks * (chunks - (k - 1)))) (sym e) (most-plus so.low_turns so.low (omega (arith, so.within)));
      }

  pub chunk_all : k ≤ 0 → lanes_sum 0 sums turns lanes ≡ weighted block (lanes * chunks)
  chunk_all h =
      let first : lanes * k ≡ 0 = omega arith in
      omega (arith, weighted-none block, ap (λ (m : ℕ). weighted block m + lanes_sum m sums turns lanes) first, so.is)
