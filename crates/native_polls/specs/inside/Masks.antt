-- The last argument of pselect(2) in code. (The form is this project's own.)
use Rattle.native_calls.specs.Polls as polls
use Rattle.native_polls.specs.declared.masks.MaskArgument.{MaskArgument}

abbrev pub mask_of : MaskArgument → polls.MaskArgument
mask_of argument = record { mask = argument.mask; size = argument.size }
