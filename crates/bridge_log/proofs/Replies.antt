-- A native reply, as an outcome, is what the row came to.
use Rattle.std.proofs.Common.{◌≡◌, ℕ, ◌<◌, ◌%◌, ◌^◌, refl, ap, arith}
use Rattle.std.specs.Prelude.{List, length, ◌≤◌}
use Rattle.kernel_core.specs.declared.error.Errno.{Errno}
use Rattle.kernel_core.specs.declared.error.Errno.TheVariants.{EPERM}
use Rattle.kernel_core.specs.declared.reply.Reply.{Reply}
use Rattle.kernel_core.specs.declared.reply.Wake.{Wake}
use Rattle.kernel_model.specs.Came.{Came, Done, Refused, Waits}
use Rattle.native_calls.specs.Step as native
use Rattle.o32_model.specs.Step as o32
use Rattle.o32_model.specs.declared.call_words.CallWords.{CallWords}
use Rattle.o32_model.specs.declared.outcome.Outcome.{Outcome}
use Rattle.o32_model.specs.declared.outcome.Outcome.TheVariants as outcomes
use Rattle.bridge_log.specs.Bounds.{Bounded}
use Rattle.bridge_log.specs.Outcomes.{outcome_of, wait_for}

pub outcome_of_failure : (words : CallWords) (error : Errno) → outcome_of words (native.failure error) ≡ o32.failure error
outcome_of_failure words EPERM = refl
outcome_of_failure words _ = refl

pub word_stays : (number : ℕ) → number < 2 ^ 32 → number % 2 ^ 32 ≡ number
word_stays number fits = omega arith

pub outcome_of_value : (words : CallWords) (number : ℕ) → number < 2 ^ 32 → outcome_of words (native.value number) ≡ o32.value number
outcome_of_value words number fits = ap outcomes.Value (word_stays number fits)

pub outcome_of_wake : (words : CallWords) (wake : Wake) → wake.done < 2 ^ 32 → outcomes.Sleep (wait_for words wake) ≡ outcomes.Sleep (o32.wait_of words wake)
outcome_of_wake words wake fits = ap (λ (done : ℕ). outcomes.Sleep (record (o32.wait_of words wake) { done = done })) (word_stays wake.done fits)

pub outcome_of_came : {V : Type 0} (words : CallWords) (reply_of : V → Reply) (of_value : V → Outcome) (came : Came V) → Bounded (λ found. outcome_of words (reply_of found) ≡ of_value found) came
    → outcome_of words (native.reply_to reply_of came) ≡ o32.outcome_of of_value words came
outcome_of_came words reply_of of_value (Done found) values = values
outcome_of_came words reply_of of_value (Refused error) values = outcome_of_failure words error
outcome_of_came words reply_of of_value (Waits wake) values = outcome_of_wake words wake values

pub bounded_map : {V : Type 0} (P Q : V → Type 0) (came : Came V) → ((found : V) → P found → Q found) → Bounded P came → Bounded Q came
bounded_map P Q (Done found) each bounded = each found bounded
bounded_map P Q (Refused error) each bounded = tt
bounded_map P Q (Waits wake) each bounded = bounded

-- a number that a row gives fits a register
abbrev pub Fits : Came ℕ → Type 0
Fits came = Bounded (λ number. number < 2 ^ 32) came

pub outcome_of_given : (words : CallWords) (came : Came ℕ) → Fits came → outcome_of words (native.reply_to native.value came) ≡ o32.outcome_of o32.value words came
outcome_of_given words came fits =
    outcome_of_came words native.value o32.value came
    (bounded_map (λ number. number < 2 ^ 32) (λ number. outcome_of words (native.value number) ≡ o32.value number) came (λ number small. outcome_of_value words number small) fits)

pub outcome_of_bytes : (words : CallWords) (room : ℕ) (came : Came (List ℕ)) → room < 2 ^ 32 → Bounded (λ bytes. length bytes ≤ room) came
    → outcome_of words (native.reply_to (λ bytes. native.value (length bytes)) came) ≡ o32.outcome_of (λ bytes. o32.value (length bytes)) words came
outcome_of_bytes words room came small fits =
    outcome_of_came words (λ bytes. native.value (length bytes)) (λ bytes. o32.value (length bytes)) came
    (bounded_map (λ bytes. length bytes ≤ room) (λ bytes. outcome_of words (native.value (length bytes)) ≡ o32.value (length bytes)) came
    (λ bytes within. outcome_of_value words (length bytes) (omega arith)) fits)
