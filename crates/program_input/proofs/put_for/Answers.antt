-- `put_for`: a text lies within the room, and what the call puts for it is what is asked; for no text nothing is.
use borrow.Author.Rules.{rules}
use Rattle.program_input.proofs.Counting.{text-within, put_bytes, put_nothing}
use Rattle.program_input.proofs.put_for.Goals as goal

pub slice_bounds-put-end : goal.slice_bounds-put-end
slice_bounds-put-end g c = (text-within c.args.read c.args.room.now c.text_of.ensures c.requires.within c.in_ok-length.was).1

pub returns-in_err-length : goal.returns-in_err-length
returns-in_err-length g c = rw c.from_residual.ensures (put_nothing c.args.read c.args.room.now c.text_of.ensures _ c.in_err-length.was)

pub returns : goal.returns
returns g c =
    put_bytes c.args.read c.args.room.now c.text_of.ensures _ c.in_ok-length.was
    (record { shown = _; lent = _; left = _; gave = c.put.ensures; shows = search rules; lends = search rules; leaves = search rules })
