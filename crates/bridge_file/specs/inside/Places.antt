-- Outcomes of calls that tell a place in a result of 32 bits (lseek(2)).
use Rattle.std.specs.Prelude.{ℕ, pos, negsuc, List, nat_lt, if◌then◌else◌}
use Rattle.kernel_core.specs.declared.error.Errno.TheVariants.{EOVERFLOW}
use Rattle.kernel_core.specs.declared.reply.Reply.{Reply}
use Rattle.kernel_core.specs.declared.reply.Reply.TheVariants as replies
use Rattle.o32_model.specs.Transfers.{small_file_limit}
use Rattle.o32_model.specs.declared.call_words.CallWords.{CallWords}
use Rattle.o32_model.specs.declared.outcome.Outcome.{Outcome}
use Rattle.o32_model.specs.declared.outcome.Outcome.TheVariants as outcomes
use Rattle.bridge_paths.specs.Passed.{outcome_of}

-- a place past the greatest one is EOVERFLOW
abbrev pub outcome_of_place : CallWords → Reply → Outcome
outcome_of_place words (replies.Done (pos place)) =
    if nat_lt small_file_limit place then outcomes.Error EOVERFLOW else outcome_of words (replies.Done (pos place))
outcome_of_place words (replies.Done (negsuc number)) = outcome_of words (replies.Done (negsuc number))
outcome_of_place words (replies.Sleep wake) = outcome_of words (replies.Sleep wake)

-- whatever host memory is afterwards
abbrev pub told_place : CallWords → List ℕ → Reply → Outcome
told_place words memory reply = outcome_of_place words reply
