-- `put_sums`: whatever the seed, the buffer begins with the numbers passed.
use Rattle.std.proofs.Common.{length-set, rules}
use Rattle.call_generate.proofs.Numbers.{sum_more, fewer}
use Rattle.call_generate.proofs.put_sums.Goals as goal

pub loop-k-init : goal.loop-k-init
loop-k-init c = (search rules, search rules, search rules, search rules, λ seed e. e)

pub loop-k-preserved : goal.loop-k-preserved
loop-k-preserved c =
    let so = c.loop-k.invariant in
    (search rules, search rules, simp length-set (search rules), simp length-set (search rules), λ seed e. sum_more _ _ _ (so.4 seed e) (search rules) (search rules) c.wrapping_add_u32.ensures.value)

pub returns : goal.returns
returns c = λ seed e. fewer _ _ _ _ (c.loop-k.invariant.4 seed e) (search rules)
