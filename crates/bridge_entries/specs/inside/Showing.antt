-- The program's records of entries that the native kernel gave. (The form is this project's own.)
use Rattle.std.specs.Prelude.{◌≡◌, ℕ, List}
use Rattle.std.specs.List.{flat_map}
use Rattle.kernel_model.specs.ContentRows.{Entry, fitting, position_after}
use Rattle.o32_model.specs.Entries.{EntryForm, entry_form, entry64_form}
use Rattle.bridge_entries.specs.declared.records.Form.{Form}
use Rattle.bridge_entries.specs.declared.records.Form.TheVariants.{Narrow, Wide}
use Rattle.bridge_entries.specs.declared.showing.Shown.{Shown}

abbrev pub form_of : Form → EntryForm
form_of Narrow = entry_form
form_of Wide = entry64_form

-- those that fit into so many bytes
abbrev pub fitting_in : Form → ℕ → List Entry → List Entry
fitting_in form size entries = fitting (form_of form).records size entries

-- their records stand one behind the other, and the cookie is the position after them
pub record IsShown (form : Form) (size position : ℕ) (entries : List Entry) (shown : Shown) : Type 0 where
  pub bytes : shown.bytes.items ≡ flat_map (form_of form).bytes (fitting_in form size entries)
  pub cookie : shown.cookie ≡ position_after position (fitting_in form size entries)
