-- Laws that the functions of `write` cite.
--
--   block_front, block_written            a block up to its check, and with it
--   held                                 where no shared ground holds, n and g are in bounds
--   refused-short, refused_site, refused-shared, draft-written, refused-room, written       the contract of `write` in each case
use Rattle.std.specs.Prelude.{Ok, Err}
use Prim.Native.Nat.{ℕ, ◌+◌, ◌*◌, ◌≤◌, ◌<◌}
use native.Mathlib.Omega.{arith}
use mathlib.Core.Path.{◌≡◌, sym, ap, ◌∙◌}
use mathlib.Core.List.{List, [], ◌∷◌, ◌++◌}
use borrow.Author.Tests.{lt-ltb}
use lib.ListN.{length, take, drop, length-drop}
use lib.Seq.{length-take-le, get_or-take, get_or-drop}
use Rattle.basics.specs.Bounds.{concat}
use Rattle.basics.specs.Refusals.{refuse, answered}
use Rattle.model.specs.Sets.{max_states}
use Rattle.model.specs.Stores.{store_words, max_groups, dialogue_of, shared_grounds}
use Rattle.model.specs.Blocks.{block_bytes, content_bytes, check_at, max_site, le16, blocks_for, check_of, block_of}
use Rattle.model.specs.Contents.{new_form, contents, content_length}
use Rattle.model.specs.Files.{block_file, file_of, file_length}
use Rattle.model.specs.Calls.{overwrite, output_ground, write_grounds, write_buffer}
use Rattle.basics.proofs.BoundLaws.{length-tabulate}
use Rattle.model.proofs.ListsInParts.{overwrite_front}
use Rattle.basics.proofs.RefusalLaws.{refuse-first, refuse-append}
use Rattle.model.proofs.BlockLaws.{check_of_cong, block_unique, framed_is, block_of-is}
use Rattle.model.proofs.ContentLaws.{length-contents}
use Rattle.model.proofs.FileLaws.{file-draft, file-blocks, length-draft, length-blocks}
use Rattle.model.proofs.CallLaws.{Writable, write_over, write_behind, write-refused, write-answer, write-buffer}
use Rattle.model.proofs.StoresAccepted.{Store, accepted_store, store_accepted}
use Rattle.core_refusals.specs.declared.Refusal.{Refusal}
use Rattle.core_refusals.specs.declared.Refusal.TheVariants.{StoreShort, OutputShort, Site}
use Rattle.core_refusals.specs.Refusals.{number}
use Rattle.core_refusals.proofs.RefusalNumbers.{number_some}
use Rattle.file_writing.specs.WriteAnswers.{CalledWrite}

-- ---- a block

module _ (bytes : List ℕ) (k : ℕ) (inside : content_bytes * k + content_bytes ≤ length bytes) where
  abbrev rest : List ℕ
  rest = drop (content_bytes * k) bytes

  abbrev block_front : List ℕ
  block_front = le16 k ++ take content_bytes rest

  length-content : length (take content_bytes rest) ≡ content_bytes
  length-content = length-take-le content_bytes rest (omega (arith, length-drop (content_bytes * k) bytes))

  pub length_block_front : length block_front ≡ check_at
  length_block_front = omega (arith, length-content)

  block_front_is : (site : ℕ) → block_front ++ le16 (check_of site block_front) ≡ block_of site bytes k
  block_front_is site =
      block_unique
      (framed_is site bytes k (take content_bytes rest) length-content (λ i h. get_or-take content_bytes rest i 0 h ∙ get_or-drop (content_bytes * k) bytes i 0))
      (block_of-is site bytes k)

  -- with the check taken of the buffer
  pub block_written : (site : ℕ) (old out : List ℕ) (check : ℕ) → out ≡ overwrite block_front old → check ≡ check_of site out
      → overwrite (block_front ++ le16 check) old ≡ overwrite (block_of site bytes k) old
  block_written site old out check e f =
      let same : check_of site out ≡ check_of site block_front =
      ap (check_of site) e ∙ check_of_cong site (overwrite block_front old) block_front (λ i h. overwrite_front block_front old i 0 (omega (arith, length_block_front))) in
      ap (λ (x : ℕ). overwrite (block_front ++ le16 x) old) (f ∙ same) ∙ ap (λ xs. overwrite xs old) (block_front_is site)

-- ---- the call

-- no ground that the calls share holds
pub held : (store : List ℕ) (n g k : ℕ) → k ≡ refuse (shared_grounds store n g) → k ≡ 0 → (n ≤ max_states) × (g ≤ max_groups)
held store n g k e z = let s = (accepted_store store n g [] (sym e ∙ z)).0 in (s.small, s.few)

module _ (store : List ℕ) (n g site : ℕ) (out : List ℕ) where
  -- a ground holds, and r is its refusal
  refuses : (r : Refusal) → refuse (write_grounds store n g site (length out)) ≡ number r → CalledWrite store n g site out (Err r) out
  unfolding write_buffer
  refuses r e = let no = write-refused store n g site (length out) e (number_some r) in (sym no, rw no)

  -- none holds, and l bytes are written
  accepted : {l : ℕ} {after : List ℕ} → Writable store n g site (length out) → l ≡ file_length new_form n g → after ≡ overwrite (file_of new_form site (dialogue_of store n g)) out
      → CalledWrite store n g site out (Ok l) after
  accepted w e f =
      (ap answered e ∙ sym (write-answer store n g site (length out) w), f ∙ sym (write-buffer store n g site out w))

  pub refused-short : length store < store_words → CalledWrite store n g site out (Err StoreShort) out
  unfolding write_grounds
  refused-short h = refuses StoreShort (sym (refuse-first 0 _ (lt-ltb (length store) store_words h)))

  pub refused_site : store_words ≤ length store → max_site < site → CalledWrite store n g site out (Err Site) out
  refused_site long h = refuses Site (write_over store n g site (length out) long h)

  -- k is the first of the grounds that the calls share, or 0
  module _ (long : store_words ≤ length store) (known : site ≤ max_site) (k : ℕ) (e : k ≡ refuse (shared_grounds store n g)) where
    behind : refuse (write_grounds store n g site (length out)) ≡ refuse (shared_grounds store n g ++ (output_ground n g (length out) ∷ []))
    behind = write_behind store n g site (length out) long known

    pub refused-shared : (r : Refusal) → number r ≡ k → CalledWrite store n g site out (Err r) out
    refused-shared r f = refuses r (behind ∙ sym (f ∙ refuse-append (shared_grounds store n g) _ e (λ z. number_some r (f ∙ z))))

    module _ (z : k ≡ 0) where
      table-held : Store store n g
      table-held = (accepted_store store n g [] (sym e ∙ z)).0

      pub draft-written : n ≡ 0 → CalledWrite store n g site out (Ok 0) out
      unfolding overwrite dialogue_of
      draft-written d =
          let none = length-draft new_form n g d in
          accepted (record { held = table-held; known = known; fits = omega (arith, none) }) (sym none)
          (ap (λ xs. overwrite xs out) (sym (file-draft new_form site (dialogue_of store n g) d)))

      module _ (some : n ≡ 0 → ⊥) (blocks : ℕ) (b : blocks ≡ blocks_for (content_length new_form n g)) where
        size : file_length new_form n g ≡ block_bytes * blocks
        size = length-blocks new_form n g some ∙ ap (λ (m : ℕ). block_bytes * m) (sym b)

        pub refused-room : length out < block_bytes * blocks → CalledWrite store n g site out (Err OutputShort) out
        refused-room h =
            refuses OutputShort
            (behind ∙ store_accepted store n g _ table-held ∙ sym (refuse-first 0 _ (lt-ltb (length out) (file_length new_form n g) (omega (arith, size)))))

        pub written : (after : List ℕ) → block_bytes * blocks ≤ length out → after ≡ overwrite (concat blocks (block_of site (contents new_form (dialogue_of store n g)))) out
            → CalledWrite store n g site out (Ok (block_bytes * blocks)) after
        unfolding block_file dialogue_of
        written after h w =
            let t = dialogue_of store n g in
            let many = ap (λ (l : ℕ). blocks_for l) (length-contents new_form t (length-tabulate _ g)) in
            accepted (record { held = table-held; known = known; fits = omega (arith, size) }) (sym size)
            (w
            ∙ ap (λ (m : ℕ). overwrite (concat m (block_of site (contents new_form t))) out) (b ∙ sym many)
            ∙ ap (λ xs. overwrite xs out) (sym (file-blocks new_form site t some)))
