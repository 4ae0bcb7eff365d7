-- A call that reaches no stream is a call over devices.
use Rattle.std.proofs.Common.{◌≡◌, ℕ, List, [], Option, Some, None, Result, refl, sym, ap, subst, ◌∙◌, inl, append-nil, Ok, Err}
use Rattle.kernel_core.specs.declared.core_error.Stop.{Stop}
use Rattle.kernel_core.specs.declared.reply.Reply.{Reply}
use Rattle.kernel_model.specs.Pipes.{Sent}
use Rattle.kernel_model.specs.State.{Kernel}
use Rattle.native_calls.specs.Answered.{Answers, Stopped, IsCall}
use Rattle.native_calls.specs.Step.{NativeStep}
use Rattle.native_kernel.specs.inside.Moving.{Takes, IsReading, HasSentPart, Sends, IsWriting}
use Rattle.native_kernel.specs.inside.Quiet.{IsQuiet}
use Rattle.outside.specs.Output.{GainsText, GainsBetween}
use Rattle.outside.specs.Streams.{Contents}

pub gains_nothing : (text : Option (List ℕ)) → GainsText text text []
gains_nothing None = record { after = refl }
gains_nothing (Some text) = record { after = ap (λ (t : List ℕ). Some t) (sym (append-nil text)) }

pub gains_none_of : (text : Option (List ℕ)) (sent : List ℕ) → sent ≡ [] → GainsText text text sent
gains_none_of text sent e = rw e (gains_nothing text)

pub none_of_sent : (text : Option (List ℕ)) (sent : List ℕ) → GainsBetween text text [] sent
none_of_sent text sent = record {
  more = [];
  at_least = record { rest = []; whole = refl };
  at_most = record { rest = sent; whole = refl };
  gained = gains_nothing text;
}

pub call_is : (step : List ℕ → NativeStep) (reply : Reply) (kernel : Kernel) (memory : List ℕ) (contents : Contents)
    → IsQuiet step reply kernel memory → IsCall step (Ok reply) kernel memory contents contents
call_is step reply kernel memory contents quiet left told =
    let q = quiet left in
    record {
      answered = q.answered;
      became = q.became;
      stored = q.stored;
      rest = told ∙ ap (λ (l : List ℕ). Some l) (sym q.rest);
      to_out = gains_none_of contents.out (step left).sent.out (ap (λ (s : Sent). s.out) q.sent);
      to_err = gains_none_of contents.err (step left).sent.err (ap (λ (s : Sent). s.err) q.sent);
    }

pub stopped_first : (step : NativeStep) (contents : Contents) → Stopped step contents contents
stopped_first step contents = record {
  rest = inl refl;
  to_out = none_of_sent contents.out step.sent.out;
  to_err = none_of_sent contents.err step.sent.err;
}

pub sent_nothing : (step : NativeStep) (out err : Option (List ℕ)) → HasSentPart step out out err err
sent_nothing step out err = record {
  to_out = none_of_sent out step.sent.out;
  to_err = none_of_sent err step.sent.err;
}

-- A call that may read the input is one over devices.

taken_is : (step : NativeStep) (result : Result Reply Stop) (kernel : Kernel) (memory : List ℕ) (before after out err : Option (List ℕ))
    → Takes step result kernel memory before after
    → Answers step result kernel memory (record { left = before; out = out; err = err }) (record { left = after; out = out; err = err })
taken_is step (Ok reply) kernel memory before after out err taken = record {
  answered = taken.answered;
  became = taken.became;
  stored = taken.stored;
  rest = taken.rest;
  to_out = gains_none_of out step.sent.out (ap (λ (s : Sent). s.out) taken.sent);
  to_err = gains_none_of err step.sent.err (ap (λ (s : Sent). s.err) taken.sent);
}
taken_is step (Err stop) kernel memory before after out err taken = record {
  rest = inl taken;
  to_out = none_of_sent out step.sent.out;
  to_err = none_of_sent err step.sent.err;
}

pub reading_is : (step : List ℕ → NativeStep) (result : Result Reply Stop) (kernel : Kernel) (memory : List ℕ) (before after out err : Option (List ℕ))
    → IsReading step result kernel memory before after
    → IsCall step result kernel memory (record { left = before; out = out; err = err }) (record { left = after; out = out; err = err })
reading_is step result kernel memory before after out err reading left told =
    taken_is (step left) result kernel memory before after out err (reading left told)

-- A call that may write to the outputs is one over devices.

sent_is : (step : NativeStep) (result : Result Reply Stop) (kernel : Kernel) (memory left : List ℕ) (out_before out_after err_before err_after : Option (List ℕ))
    → Sends step result kernel memory left out_before out_after err_before err_after
    → Answers step result kernel memory (record { left = Some left; out = out_before; err = err_before }) (record { left = Some left; out = out_after; err = err_after })
sent_is step (Ok reply) kernel memory left out_before out_after err_before err_after sent = record {
  answered = sent.answered;
  became = sent.became;
  stored = sent.stored;
  rest = ap (λ (l : List ℕ). Some l) (sym sent.rest);
  to_out = sent.to_out;
  to_err = sent.to_err;
}
sent_is step (Err stop) kernel memory left out_before out_after err_before err_after sent = record {
  rest = inl refl;
  to_out = sent.to_out;
  to_err = sent.to_err;
}

pub writing_is : (step : List ℕ → NativeStep) (result : Result Reply Stop) (kernel : Kernel) (memory : List ℕ) (before out_before out_after err_before err_after : Option (List ℕ))
    → IsWriting step result kernel memory out_before out_after err_before err_after
    → IsCall step result kernel memory (record { left = before; out = out_before; err = err_before }) (record { left = before; out = out_after; err = err_after })
writing_is step result kernel memory before out_before out_after err_before err_after writing left told =
    subst (λ (l : Option (List ℕ)). Answers (step left) result kernel memory (record { left = l; out = out_before; err = err_before }) (record { left = l; out = out_after; err = err_after }))
    (sym told) (sent_is (step left) result kernel memory left out_before out_after err_before err_after (writing left))

pub ruleset over_devices = (call_is, reading_is, writing_is, stopped_first)
