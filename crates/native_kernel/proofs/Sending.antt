-- What a write is as a call.
use Rattle.std.proofs.Common.{◌≡◌, ℕ, List, [], Option, Some, None, Result, Ok, Err, ℤ, refl, sym, ap, subst, ◌∙◌, append-nil}
use Rattle.kernel_core.specs.declared.core_error.CoreError.{CoreError}
use Rattle.kernel_core.specs.declared.core_error.CoreError.TheVariants as errors
use Rattle.kernel_core.specs.declared.core_error.Stop.{Stop}
use Rattle.kernel_core.specs.declared.core_error.Stop.TheVariants as stops
use Rattle.kernel_core.specs.declared.error.Errno.TheVariants.{EPIPE}
use Rattle.kernel_core.specs.declared.reply.Reply.{Reply}
use Rattle.kernel_model.specs.Came.{Came, Done, Refused, Waits, Did, Given}
use Rattle.kernel_model.specs.Clock as clock
use Rattle.kernel_model.specs.State.{Kernel, Files}
use Rattle.kernel_model.specs.Transfers.{Writing, write}
use Rattle.kernel_model.specs.Whole.{with_files, with_sigpipe, with_writing, kernel_write}
use Rattle.native_calls.specs.Step.{reply_to, value}
use Rattle.native_calls.specs.Transfers.{after_write}
use Rattle.native_files.specs.Answers.{HasWritten, WriteStops, WritesSo, moved}
use Rattle.native_files.specs.declared.progress.Progress.{Progress}
use Rattle.native_files.specs.declared.progress.Progress.TheVariants as progress
use Rattle.native_kernel.specs.inside.Moving.{HasSent, HasSentPart, Sends, after_came, settled}
use Rattle.outside.specs.Output.{GainsText, GainsBetween}

-- what was added is a first part of itself
all_of_it : (before after : Option (List ℕ)) (text : List ℕ) → GainsText before after text → GainsBetween before after [] text
all_of_it before after text gained = record {
  more = text;
  at_least = record { rest = text; whole = refl };
  at_most = record { rest = []; whole = append-nil text };
  gained = gained;
}

sent_as : (memory left : List ℕ) (kernel : Kernel) (did : Did Writing ℕ) (came : Came ℕ) (files : Files)
    (out_before out_after err_before err_after : Option (List ℕ))
    → HasWritten did came files out_before out_after err_before err_after
    → HasSent (after_write memory (with_writing kernel did) left) (reply_to value came) (with_sigpipe (with_files kernel files) came) memory left
    out_before out_after err_before err_after
sent_as memory left kernel did came files out_before out_after err_before err_after written = record {
  answered = ap (λ (c : Came ℕ). reply_to value c) written.answered;
  became = ap (λ (f : Files). with_sigpipe (with_files kernel f) came) written.became
      ∙ ap (λ (c : Came ℕ). with_sigpipe (with_files kernel did.state.files) c) written.answered;
  stored = refl;
  rest = refl;
  to_out = written.to_out;
  to_err = written.to_err;
}

-- a write as the end of a call, once SIGPIPE is posted where it has to be
pub sent_by : (memory left : List ℕ) (kernel : Kernel) (did : Did Writing ℕ) (came : Result Progress CoreError) (files : Files)
    (out_before out_after err_before err_after : Option (List ℕ))
    → WritesSo did (moved came) files out_before out_after err_before err_after
    → Sends (after_write memory (with_writing kernel did) left) (settled came) (after_came (with_files kernel files) (moved came)) memory left
    out_before out_after err_before err_after
sent_by memory left kernel did (Ok (progress.Done count)) files out_before out_after err_before err_after written =
    sent_as memory left kernel did (Done count) files out_before out_after err_before err_after written
sent_by memory left kernel did (Ok (progress.Waits wake)) files out_before out_after err_before err_after written =
    sent_as memory left kernel did (Waits wake) files out_before out_after err_before err_after written
sent_by memory left kernel did (Err (errors.Refused error)) files out_before out_after err_before err_after written =
    sent_as memory left kernel did (Refused error) files out_before out_after err_before err_after written
sent_by memory left kernel did (Err (errors.Stop stop)) files out_before out_after err_before err_after written =
    record { to_out = written.to_out; to_err = written.to_err }

part_as : (memory left : List ℕ) (kernel : Kernel) (did : Did Writing ℕ) (came : Came ℕ) (files : Files)
    (out_before out_after err_before err_after : Option (List ℕ))
    → HasWritten did came files out_before out_after err_before err_after
    → HasSentPart (after_write memory (with_writing kernel did) left) out_before out_after err_before err_after
part_as memory left kernel did came files out_before out_after err_before err_after written = record {
  to_out = all_of_it out_before out_after did.state.sent.out written.to_out;
  to_err = all_of_it err_before err_after did.state.sent.err written.to_err;
}

-- a write after which SIGPIPE could not be posted
pub sent_in_vain : (memory left : List ℕ) (kernel : Kernel) (did : Did Writing ℕ) (came : Result Progress CoreError) (files : Files)
    (out_before out_after err_before err_after : Option (List ℕ))
    → WritesSo did (moved came) files out_before out_after err_before err_after
    → HasSentPart (after_write memory (with_writing kernel did) left) out_before out_after err_before err_after
sent_in_vain memory left kernel did (Ok (progress.Done count)) files out_before out_after err_before err_after written =
    part_as memory left kernel did (Done count) files out_before out_after err_before err_after written
sent_in_vain memory left kernel did (Ok (progress.Waits wake)) files out_before out_after err_before err_after written =
    part_as memory left kernel did (Waits wake) files out_before out_after err_before err_after written
sent_in_vain memory left kernel did (Err (errors.Refused error)) files out_before out_after err_before err_after written =
    part_as memory left kernel did (Refused error) files out_before out_after err_before err_after written
sent_in_vain memory left kernel did (Err (errors.Stop stop)) files out_before out_after err_before err_after written =
    record { to_out = written.to_out; to_err = written.to_err }

written_here : (kernel : Kernel) (held files : Files) (bytes : List ℕ) (now : ℤ) (fd : ℕ) (asked : Given ℕ) (came : Result Progress CoreError)
    (out_before out_after err_before err_after : Option (List ℕ))
    → WritesSo (write held None now fd asked bytes) (moved came) files out_before out_after err_before err_after
    → held ≡ kernel.files → now ≡ clock.now kernel
    → WritesSo (write kernel.files None (clock.now kernel) fd asked bytes) (moved came) files out_before out_after err_before err_after
written_here kernel held files bytes now fd asked came out_before out_after err_before err_after written same time =
    subst (λ (f : Files). WritesSo (write f None (clock.now kernel) fd asked bytes) (moved came) files out_before out_after err_before err_after) same
    (subst (λ (t : ℤ). WritesSo (write held None t fd asked bytes) (moved came) files out_before out_after err_before err_after) time written)

-- write(2) and writev(2) as a call, once SIGPIPE was posted where it has to be
pub send_is : (kernel mid after : Kernel) (held files : Files) (memory left bytes : List ℕ) (now : ℤ) (fd : ℕ) (asked : Given ℕ)
    (came : Result Progress CoreError) (result : Result Reply Stop) (out_before out_after err_before err_after : Option (List ℕ))
    → WritesSo (write held None now fd asked bytes) (moved came) files out_before out_after err_before err_after
    → held ≡ kernel.files → now ≡ clock.now kernel → mid ≡ with_files kernel files → after ≡ after_came mid (moved came) → result ≡ settled came
    → Sends (after_write memory (kernel_write kernel None fd asked bytes) left) result after memory left out_before out_after err_before err_after
unfolding kernel_write
send_is kernel mid after held files memory left bytes now fd asked came result out_before out_after err_before err_after written same time became posted end =
    let did = write kernel.files None (clock.now kernel) fd asked bytes in
    let here = written_here kernel held files bytes now fd asked came out_before out_after err_before err_after written same time in
    let last : after ≡ after_came (with_files kernel files) (moved came) = posted ∙ ap (λ (k : Kernel). after_came k (moved came)) became in
    subst (λ (r : Result Reply Stop). Sends (after_write memory (with_writing kernel did) left) r after memory left out_before out_after err_before err_after) (sym end)
    (subst (λ (k : Kernel). Sends (after_write memory (with_writing kernel did) left) (settled came) k memory left out_before out_after err_before err_after) (sym last)
    (sent_by memory left kernel did came files out_before out_after err_before err_after here))

-- and where it could not be posted
pub send_vain : (kernel : Kernel) (held files : Files) (memory left bytes : List ℕ) (now : ℤ) (fd : ℕ) (asked : Given ℕ)
    (came : Result Progress CoreError) (out_before out_after err_before err_after : Option (List ℕ))
    → WritesSo (write held None now fd asked bytes) (moved came) files out_before out_after err_before err_after
    → held ≡ kernel.files → now ≡ clock.now kernel
    → HasSentPart (after_write memory (kernel_write kernel None fd asked bytes) left) out_before out_after err_before err_after
unfolding kernel_write
send_vain kernel held files memory left bytes now fd asked came out_before out_after err_before err_after written same time =
    sent_in_vain memory left kernel (write kernel.files None (clock.now kernel) fd asked bytes) came files out_before out_after err_before err_after
    (written_here kernel held files bytes now fd asked came out_before out_after err_before err_after written same time)

-- no output counted a fault in a write that came to EPIPE
pub vain_stops : (came : Result Progress CoreError) (out_before out_after err_before err_after : ℕ) → moved came ≡ Some (Refused EPIPE)
    → WriteStops came out_before out_after err_before err_after → (out_after ≡ out_before) × (err_after ≡ err_before)
vain_stops (Ok (progress.Done count)) out_before out_after err_before err_after broken stops = stops
vain_stops (Ok (progress.Waits wake)) out_before out_after err_before err_after broken stops = stops
vain_stops (Err (errors.Refused error)) out_before out_after err_before err_after broken stops = stops
vain_stops (Err (errors.Stop stops.NoMemory)) out_before out_after err_before err_after broken same = same
vain_stops (Err (errors.Stop stops.ReadFault)) out_before out_after err_before err_after broken never = absurd never
vain_stops (Err (errors.Stop stops.WriteFault)) out_before out_after err_before err_after broken rose = absurd cc
