-- What a call comes to, by what it was shown and answered. (The form is this project's own.)
use Rattle.std.specs.Prelude.{ℕ, pos, negsuc, Option, Some, None}
use Rattle.guest_space.specs.Memory.{Memory}
use Rattle.kernel_core.specs.declared.error.Errno.TheVariants.{EINVAL}
use Rattle.kernel_core.specs.declared.reply.Reply.{Reply}
use Rattle.kernel_core.specs.declared.reply.Reply.TheVariants as replies
use Rattle.o32_model.specs.declared.call_words.CallWords.{CallWords}
use Rattle.bridge_log.specs.Outcomes.{outcome_of}
use Rattle.bridge_log.specs.Storing.{Ending, ending, fails, stores, stores_unless_null}
use Rattle.bridge_timer.specs.declared.shown.Shown.{Shown}
use Rattle.bridge_timer.specs.inside.Shown.{shown_bytes}

-- getitimer(2), by what the timer shows
abbrev pub shown_ending : Memory → ℕ → Option Shown → Ending
shown_ending memory address None = fails memory EINVAL
shown_ending memory address (Some shown) = stores memory address (shown_bytes shown) 0

-- setitimer(2), by what the timer showed and how it was set; a pointer that is null stores nothing
abbrev pub set_ending : CallWords → Memory → ℕ → Shown → Reply → Ending
set_ending words memory address shown (replies.Done (pos number)) =
    stores_unless_null memory address (shown_bytes shown) 0
set_ending words memory address shown (replies.Done (negsuc number)) = ending (outcome_of words (replies.Done (negsuc number))) memory
set_ending words memory address shown (replies.Sleep wake) = ending (outcome_of words (replies.Sleep wake)) memory
