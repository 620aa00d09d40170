-- Tables A to H, each figure by computation. Each line has a declaration of its own: one for all takes most of the steps that antt allows.
--
--   computes      names what has to unfold: to unfold it is to unfold all of that
--   a, .., g      the lines
--   worked        the fact
use mathlib.Core.Path.{refl}
use Rattle.basics.specs.Bounds.{any, all, first, filter, tabulate, concat}
use Rattle.model.specs.Sets.{bit, member, number, set_of, empty, union, meet, subset, same, meets, states, first_states, members, size, smallest, image}
use Rattle.model.specs.Tables.{is_dead_end, is_hang, hangs, post, hold, cover_of, cover, not_forbidden}
use Rattle.model.specs.Rounds.{iterate, forward_step, forward, backward_step, backward, round_of, first_round, next_round, is_safe, is_unsafe, settle, rounds, run, elimination_step, eliminated, backward_number}
use Rattle.model.specs.Paths.{reaching, shortest, walk, smallest_path}
use Rattle.basics.specs.Refusals.{refuse}
use Rattle.model.specs.Stores.{set_at, dialogue_of, table_of, layout, beyond, non_zero, bad_states}
use Rattle.model.specs.Blocks.{weighted, check_of, block_of}
use Rattle.model.specs.Contents.{set_bytes, sets, contents}
use Rattle.model.specs.Calls.{release, decision_of}
use Rattle.model.specs.Resting.{rested}
use Rattle.examples_tables.specs.Tables.{A, B, D, E, F, G, restingG}
use Rattle.examples_tables.specs.Worked.{LineA, LineB, LineC, LineD, LineE, LineF, LineG, Worked}
use Rattle.examples_tables.proofs.Decides.{zeros, fits, decides}

computes : Type 0
unfolding any all first filter tabulate bit member number set_of empty union meet subset same meets states first_states members size smallest image is_dead_end is_hang hangs post hold cover_of cover not_forbidden iterate forward_step forward backward_step backward round_of first_round next_round is_safe is_unsafe settle rounds run elimination_step eliminated backward_number reaching shortest walk smallest_path set_at dialogue_of table_of concat layout refuse beyond non_zero bad_states set_bytes sets contents weighted check_of block_of decision_of rested zeros fits
computes = Unit {0}

-- A pair by a call: what stands in a tuple itself is computed twice, which costs seconds for B and C.
both : {P Q : Type 0} → P → Q → P × Q
both p q = (p, q)

a : LineA
unfolding computes
a = decides A release refl refl refl

b : LineB
unfolding computes
b = both (decides B release refl refl refl) refl

c : LineC
unfolding computes
c = both (decides B 2 refl refl refl) (decides B 3 refl refl refl)

d : LineD
unfolding computes
d = both (decides D release refl refl refl) refl

e : LineE
unfolding computes
e = (decides E release refl refl refl, refl, refl, refl, refl)

f : LineF
unfolding computes
f = decides F release refl refl refl

g : LineG
unfolding computes
g = (decides G release refl refl refl, decides restingG release refl refl refl, refl)

pub worked : Worked
worked =
    record {
      line_A = a;
      line_B = b;
      line_C = c;
      line_D = d;
      line_E = e;
      line_F = f;
      line_G = g;
      line_H = (refl, refl, refl, refl, refl, refl, refl, refl);
    }
