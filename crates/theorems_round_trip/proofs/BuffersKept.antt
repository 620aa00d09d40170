-- The proof of specs/Buffers.
--
--   Fronted          a buffer filled at its front: what is there, what is past it, and its length; fronted: of every overwrite
use Prim.Native.Nat.{ℕ, ◌≤◌}
use mathlib.Core.Path.{◌≡◌, refl, sym, ap, ◌∙◌, subst}
use mathlib.Core.List.{List}
use lib.ListN.{length, take, drop}
use Rattle.basics.specs.Refusals.{Answered, refused, answered, unless_refused}
use Rattle.model.specs.Stores.{store_words, dialogue_of, layout}
use Rattle.model.specs.Blocks.{contents_of}
use Rattle.model.specs.Contents.{Form, new_form, dialogue_in}
use Rattle.model.specs.Files.{file_of, file_length}
use Rattle.model.specs.Calls.{overwrite, TableRead as ReadAnswer, read_answer_as, read_buffer_as, write_answer, write_buffer}
use Rattle.basics.proofs.BoundLaws.{length-tabulate}
use Rattle.model.proofs.ListsInParts.{length-overwrite, take-overwrite, drop-overwrite}
use Rattle.model.proofs.StoresTables.{length-layout}
use Rattle.model.proofs.CallLaws.{written, write-buffer, readable, read_none}
use Rattle.model.proofs.RoundTrips.{laid, file_sizes}
use Rattle.theorems_round_trip.specs.Buffers.{CallsFill}

record Fronted (m : ℕ) (xs before after : List ℕ) : Type 0 where
  front : take m after ≡ xs
  past : drop m after ≡ drop m before
  long : length after ≡ length before

fronted : (m : ℕ) (xs before : List ℕ) → length xs ≡ m → m ≤ length before → Fronted m xs before (overwrite xs before)
fronted m xs before size fits =
    record {
      front = take-overwrite xs before m size;
      past = drop-overwrite xs before m size;
      long = length-overwrite xs before (subst (λ (k : ℕ). k ≤ length before) (sym size) fits);
    }

-- ---- read

module _ (form : Form) (input : List ℕ) (site : ℕ) (store : List ℕ) where
  abbrev words : ReadAnswer → List ℕ
  words a = layout (dialogue_in form (contents_of input) a.n a.g)

  words_long : (a : ReadAnswer) → length (words a) ≡ store_words
  words_long a = length-layout (dialogue_in form (contents_of input) a.n a.g) (laid form input a.n a.g)

  read_fills : (a : ReadAnswer) → read_answer_as form input site (length store) ≡ answered a
      → Fronted store_words (words a) store (read_buffer_as form input site store)
  unfolding read_buffer_as
  read_fills a e =
      subst (λ xs. Fronted store_words (words a) store xs) (ap (unless_refused store (λ (b : ReadAnswer). overwrite (words b) store)) (sym e))
      (fronted store_words (words a) store (words_long a) (readable form input site (length store) (read_none form input site (length store) e).0).0)

  read_keeps : (d : Answered ReadAnswer) → read_answer_as form input site (length store) ≡ d
      → let after = read_buffer_as form input site store in
      (drop store_words after ≡ drop store_words store) × (length after ≡ length store)
  unfolding read_buffer_as
  read_keeps (refused k) e =
      let same = ap (unless_refused store (λ (b : ReadAnswer). overwrite (words b) store)) e in
      (ap (drop store_words) same, ap length same)
  read_keeps (answered a) e = let f = read_fills a e in (f.past, f.long)

-- ---- write

module _ (store : List ℕ) (n g site : ℕ) (out : List ℕ) (l : ℕ) (e : write_answer store n g site (length out) ≡ answered l) where
  abbrev file : List ℕ
  file = file_of new_form site (dialogue_of store n g)

  file-long : length file ≡ l
  unfolding dialogue_of
  file-long =
      file_sizes.file-long new_form site (dialogue_of store n g)
      ∙ ap (file_length new_form n) (length-tabulate _ g)
      ∙ sym (written store n g site (length out) e).1

  write_fills : Fronted l file out (write_buffer store n g site out)
  write_fills =
      let w = written store n g site (length out) e in
      subst (λ xs. Fronted l file out xs) (sym (write-buffer store n g site out w.0))
      (fronted l file out file-long (subst (λ (k : ℕ). k ≤ length out) (sym w.1) w.0.fits))

-- ---- the calls

pub calls_fill : CallsFill
calls_fill =
    record {
      read = λ form input site store r store' a c e.
          (words_long form input site store a, ap (take store_words) c.1 ∙ (read_fills form input site store a (sym c.0 ∙ e)).front);
      read_past = λ form input site store r store' c.
          let kept = read_keeps form input site store _ refl in
          (ap (drop store_words) c.1 ∙ kept.0, ap length c.1 ∙ kept.1);
      write = λ store n g site out w out' l c e.
          let given = sym c.0 ∙ e in
          (file-long store n g site out l given, ap (take l) c.1 ∙ (write_fills store n g site out l given).front);
      write-past = λ store n g site out w out' l c e.
          let f = write_fills store n g site out l (sym c.0 ∙ e) in
          (ap (drop l) c.1 ∙ f.past, ap length c.1 ∙ f.long);
    }
