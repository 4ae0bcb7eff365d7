-- Parts of a turn, one after the other.
use Rattle.std.proofs.Common.{◌≡◌, ℕ, Bool, true, false, List, refl, sym, ap, ◌∙◌, Option, Some, None, Result, Ok, Err, OnOk}
use Rattle.std.specs.Prelude.{if◌then◌else◌, unwrap_or}
use Rattle.bridge_delivery.specs.inside.Frames.{framed, has_room, plain, with_info}
use Rattle.bridge_delivery.specs.inside.Standings as standings
use Rattle.bridge_delivery.specs.inside.Standings.{keeping, kept_of}
use Rattle.bridge_ends.specs.Ended.{ended_wait}
use Rattle.bridge_ends.specs.Passed.{Acted}
use Rattle.guest_space.specs.Bytes.{copied_out}
use Rattle.guest_space.specs.Memory.{Memory}
use Rattle.kernel_core.specs.declared.core_error.Stop.{Stop}
use Rattle.kernel_model.specs.Shared.{Info}
use Rattle.kernel_model.specs.SignalSets.{SignalSet}
use Rattle.kernel_model.specs.State.{Kernel}
use Rattle.kernel_model.specs.declared.signal.Action.{Action}
use Rattle.kernel_model.specs.declared.signal.SigStack.{SigStack}
use Rattle.mips_exec.specs.Processor.{Processor}
use Rattle.o32_model.specs.Logs.{Kept}
use Rattle.o32_model.specs.declared.wait.Cause.TheVariants.{Handler}
use Rattle.o32_model.specs.declared.wait.Wait.{Wait}
use Rattle.o32_turns.specs.Closing.{whole_end}
use Rattle.o32_turns.specs.Going.{Carries, Standing, within_of}
use Rattle.o32_turns.specs.Handling.{Framed, begun, entered_by, entering, frame_for, handling, is_segv, not_entered, saved_or, wait_left_by}
use Rattle.o32_turns.specs.Machine.{Within}
use Rattle.outside.specs.Streams.{Contents}
use Rattle.schedule.specs.declared.events.Due.{Due}
use Rattle.signal_frames.specs.Entering.{entered}

pub on_ok : {A : Type 0} (result : Result A Stop) (P Q : Type 0) → (P → Q) → OnOk result P → OnOk result Q
on_ok (Ok found) P Q f p = f p
on_ok (Err stop) P Q f p = p

-- what was done, where the input told what is left of it
abbrev pub Carried : (Within → Within) → (List Due → ℕ → Within) → (List Due → ℕ → Within) → Contents → Contents → Type 0
Carried part before after contents became =
    (became ≡ contents) × ((coming : List Due) (idle : ℕ) → after coming idle ≡ part (before coming idle))

-- a part, and the rest behind it
pub carried_then : {A : Type 0} (result : Result A Stop) (first rest whole : Within → Within) (before between after : List Due → ℕ → Within) (contents middle became : Contents) (left : List ℕ)
    → ((within : Within) → rest (first within) ≡ whole within) → contents.left ≡ Some left
    → Carried first before between contents middle → Carries rest result between after middle became
    → (became ≡ contents) × OnOk result ((coming : List Due) (idle : ℕ) → after coming idle ≡ whole (before coming idle))
carried_then result first rest whole before between after contents middle became left same told done carries =
    let later = carries left (ap (λ (c : Contents). c.left) done.0 ∙ told) in (
      later.0 ∙ done.0,
      on_ok result _ _ (λ (is : (coming : List Due) (idle : ℕ) → after coming idle ≡ rest (between coming idle)). λ (coming : List Due) (idle : ℕ).
          is coming idle ∙ ap rest (done.1 coming idle) ∙ same (before coming idle)) later.1,
    )

-- The wait that a handler ends

pub wait_left : (action : Action) (restarts : Bool) → restarts ≡ action.flags.restart → (wait : Option Wait) (within : Within)
    → ended_wait restarts Handler (record within { saved = kept_of wait within.saved }) wait ≡ wait_left_by whole_end action wait within
wait_left action restarts is None within = refl
wait_left action restarts is (Some wait) within =
    ap (λ (b : Bool). ended_wait b Handler (record within { saved = kept_of (Some wait) within.saved }) (Some wait)) is

-- A call that sets something

pub acted_becomes : {A : Type 0} (next : Kernel → Kernel) (result : Result A Stop) (kernel became : Kernel) (before after : Contents) (left : List ℕ) (old new : Kept)
    → Acted (λ _ became. became ≡ next kernel) result kernel became before after left old new → (after ≡ before) × OnOk result (became ≡ next kernel)
acted_becomes next (Ok found) kernel became before after left old new acted = (acted.1.rest, acted.0)
acted_becomes next (Err stop) kernel became before after left old new acted = (acted, tt)

-- A frame and its handler

frame_is : (kernel : Kernel) (processor : Processor) (info : Info) (action : Action) (mask : SignalSet)
    → frame_for kernel processor info action mask ≡ framed kernel.signals.stack processor info action mask
unfolding plain with_info
frame_is kernel processor info action mask = refl

saved_is : (saved : Option SignalSet) (mask : SignalSet) → unwrap_or saved mask ≡ saved_or saved mask
saved_is None mask = refl
saved_is (Some saved) mask = refl

pick : {A B : Type 0} (f : A → B) (test : Bool) (one other : A) → f (if test then one else other) ≡ (if test then f one else f other)
pick f true one other = refl
pick f false one other = refl

module _ (standing : Standing) (processor : Processor) (memory : Memory) (kernel : Kernel) (info : Info) (action : Action) (coming : List Due) (idle : ℕ) where
  abbrev within : Within
  within = within_of standing processor memory kernel coming idle

  not_entered_is : within_of (standings.not_entered info.sig standing) processor memory kernel coming idle ≡ not_entered info within
  not_entered_is =
      pick (λ (s : Standing). within_of s processor memory kernel coming idle) (is_segv info.sig) (standings.killed info.sig standing) (standings.unframed standing)

  -- what stands then, where the frame was written or not
  begun_is : (frame : Framed) (written : Bool)
      → within_of (standings.begun written info.sig standing) (if written then entered processor frame.entry else processor)
      (if written then copied_out memory frame.entry.frame frame.bytes else memory) (if written then handling kernel info.sig action else kernel) coming idle
      ≡ (if written then entering within info action frame else not_entered info within)
  begun_is frame true = refl
  begun_is frame false = not_entered_is

  pub begins : (blocked kept : SignalSet) (stack : SigStack) (written : Bool) (going : Standing) (became : Processor) (stored : Memory) (after : Kernel)
      → blocked ≡ kernel.signals.mask → stack ≡ kernel.signals.stack → kept ≡ unwrap_or standing.saved blocked
      → written ≡ has_room (framed stack processor info action kept) memory
      → became ≡ (if written then entered processor (framed stack processor info action kept).entry else processor)
      → stored ≡ (if written then copied_out memory (framed stack processor info action kept).entry.frame (framed stack processor info action kept).bytes else memory)
      → going ≡ standings.begun written info.sig standing → after ≡ (if written then handling kernel info.sig action else kernel)
      → within_of going became stored after coming idle ≡ begun within info action
  begins blocked kept stack written going became stored after mask alternate keeps room processor_is memory_is standing_is kernel_is =
      let frame = framed stack processor info action kept in
      let same : frame ≡ frame_for kernel processor info action (saved_or standing.saved kernel.signals.mask) =
      ap (λ (s : SigStack). framed s processor info action kept) alternate
      ∙ ap (λ (m : SignalSet). framed kernel.signals.stack processor info action m) (keeps ∙ saved_is standing.saved blocked ∙ ap (saved_or standing.saved) mask)
      ∙ sym (frame_is kernel processor info action (saved_or standing.saved kernel.signals.mask)) in
      (λ i. within_of (standing_is i) (processor_is i) (memory_is i) (kernel_is i) coming idle)
      ∙ begun_is frame written
      ∙ ap (λ (b : Bool). if b then entering within info action frame else not_entered info within) room
      ∙ ap (λ (f : Framed). entered_by within info action f) same
