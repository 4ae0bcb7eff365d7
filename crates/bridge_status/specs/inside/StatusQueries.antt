-- What the calls on the status of a path ask for, by their words. (The form is this project's own.)
use Rattle.std.specs.Prelude.{ℕ}
use Rattle.o32_model.specs.PathArguments.{working}
use Rattle.o32_model.specs.Words.{argument}
use Rattle.o32_model.specs.declared.call_words.CallWords.{CallWords}
use Rattle.bridge_status.specs.declared.status.StatusQuery.{StatusQuery}
use Rattle.bridge_status.specs.declared.structures.Form.{Form}
use Rattle.bridge_status.specs.declared.structures.Form.TheVariants.{Wide}

-- a path that begins at the working directory
abbrev pub from_working : CallWords → ℕ → Form → StatusQuery
from_working words flags form = record {
  directory = working;
  address = argument words 0;
  flags = flags;
  to = record { address = argument words 1; form = form };
}

-- a path that begins at a directory of the call, as fstatat64 has it
abbrev pub from_directory : CallWords → StatusQuery
from_directory words = record {
  directory = argument words 0;
  address = argument words 1;
  flags = argument words 3;
  to = record { address = argument words 2; form = Wide };
}
