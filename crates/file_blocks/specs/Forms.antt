-- What reading and writing share: the form of a file as code has it, and the room of its contents.
--
--   form_of form    the model's form
--   joined_room     the content bytes of the largest file, which is the room that contents are joined in
use Rattle.std.specs.Prelude.{ℕ, ◌*◌}
use Rattle.model.specs.Sets.{max_states}
use Rattle.model.specs.Stores.{max_groups}
use Rattle.model.specs.Blocks.{content_bytes, blocks_for}
use Rattle.model.specs.Contents.{Form as FileForm, old_form, new_form, content_length}
use Rattle.file_blocks.specs.declared.Form.{Form}
use Rattle.file_blocks.specs.declared.Form.TheVariants.{Old, New}

abbrev pub form_of : Form → FileForm
form_of Old = old_form
form_of New = new_form

abbrev pub joined_room : ℕ
joined_room = content_bytes * blocks_for (content_length new_form max_states max_groups)
