-- The round trips of the calls, and what read makes of a block of another site: the model's, by the contracts of read and write.
use Prim.Native.Nat.{ℕ, ◌*◌, ◌/◌, ◌<◌}
use native.Mathlib.Omega.{arith}
use mathlib.Core.Path.{◌≡◌, sym, ap, ◌∙◌, subst}
use mathlib.Core.List.{List}
use lib.ListN.{length, take, drop, length-take, length-drop}
use Rattle.basics.specs.Refusals.{refuse, unless_refused}
use Rattle.basics.proofs.RefusalLaws.{refused-is}
use Rattle.model.specs.Blocks.{block_bytes, part, block_grounds}
use Rattle.model.specs.Calls.{read_grounds_as, read_answer_as, read_buffer_as, read_answer, read_buffer, write_answer, write_buffer}
use Rattle.model.proofs.BlockLaws.{length_part}
use Rattle.model.proofs.CallLaws.{written}
use Rattle.model.proofs.RoundTrips.{round_trips}
use Rattle.model.proofs.PromisesKept.{untouched}
use Rattle.model.proofs.SiteLaws.{sites}
use Rattle.theorems_round_trip.specs.RoundTripCalls.{CallsRoundTrip, CallsForeign, CallsRefused}

pub calls_round_trip : CallsRoundTrip
calls_round_trip =
    record {
      write_read = λ store n g site out w out' l other r other' cw e words cr long.
          let file = ap (take l) cw.1 in
          let back = round_trips.write_read store n g site out other l words long (sym cw.0 ∙ e) in (
            cr.0 ∙ ap (λ (f : List ℕ). read_answer f site (length other)) file ∙ back.answer,
            cr.1 ∙ ap (λ (f : List ℕ). read_buffer f site other) file ∙ back.buffer,
          );
      read-write = λ input site store r store' a out w out' cr e bytes cw long.
          let back = round_trips.read-write input site store out a bytes long (sym cr.0 ∙ e) in (
            cw.0 ∙ ap (λ (xs : List ℕ). write_answer xs a.n a.g site (length out)) cr.1 ∙ back.answer,
            cw.1 ∙ ap (λ (xs : List ℕ). write_buffer xs a.n a.g site out) cr.1 ∙ back.buffer,
          );
    }

-- a block of the first l bytes that is whole ends among them
whole_block : (l : ℕ) (bytes : List ℕ) (k : ℕ) → length (part (take l bytes) k) ≡ block_bytes → k < l / block_bytes
unfolding part
whole_block l bytes k e = omega (arith, length-take block_bytes (drop (block_bytes * k) (take l bytes)), length-drop (block_bytes * k) (take l bytes), length-take l bytes)

pub calls_foreign : CallsForeign
calls_foreign =
    record {
      write_read = λ store n g a out w out' l input b other r other' k cw e cr inside same fits known apart whole before.
          let given = sym cw.0 ∙ e in
          let block : part input k ≡ part (take l (write_buffer store n g a out)) k = same ∙ ap (λ (xs : List ℕ). part (take l xs) k) cw.1 in
          let there = whole_block l (write_buffer store n g a out) k (ap (λ (xs : List ℕ). length xs) (sym block) ∙ length_part input k inside) in
          let own = subst (λ (xs : List ℕ). refuse (block_grounds a xs k) ≡ 0) (sym block) (sites.own_block store n g a out l k given there) in
          let far = (written store n g a (length out) given).0.known in
          let number = sites.foreign_block a b far known apart input (length other) k fits whole inside before own in
          (cr.0 ∙ number, cr.1 ∙ (untouched.read input b other 13 number).1);
    }

pub calls-refused : CallsRefused
unfolding read_answer_as read_buffer_as
calls-refused =
    record {
      read = λ form input site store r store' k c f.
          let so = sym c.0 ∙ f in
          (refused-is (read_grounds_as form input site (length store)) _ so, c.1 ∙ ap (unless_refused store _) so);
      write = λ store n g site out w out' k c f. let so = untouched.write store n g site out k (sym c.0 ∙ f) in (so.0, c.1 ∙ so.1);
    }
