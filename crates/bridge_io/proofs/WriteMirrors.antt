-- Writes as native calls.
use Rattle.std.proofs.Common.{◌≡◌, ◌⊎◌, ℕ, ◌<◌, ◌%◌, ◌^◌, List, [], ◌∷◌, length, take, Option, Some, None, refl, sym, ap, subst, ◌∙◌, arith, inl, inr, Ok, Err, lit<, lit≤, Result, IsErr}
use Rattle.std.specs.Prelude.{min, Bool, true, false, ◌==◌, if◌then◌else◌, option_and_then}
use Rattle.guest_space.proofs.ByteLemmas.{length-bytes_at}
use Rattle.guest_space.proofs.Uses.{readable_prefix-le}
use Rattle.guest_space.specs.Access.{readable_prefix}
use Rattle.guest_space.specs.Memory.{Memory}
use Rattle.host_mem.specs.Memory.{room_from}
use Rattle.kernel_core.specs.declared.core_error.Stop.{Stop}
use Rattle.kernel_core.specs.declared.error.Errno.{Errno}
use Rattle.kernel_core.specs.declared.error.Errno.TheVariants.{EPERM, EBADF, EFAULT, EFBIG}
use Rattle.kernel_core.specs.declared.reply.Reply.{Reply}
use Rattle.kernel_model.specs.Came.{Came, Done, Refused, Waits, Did}
use Rattle.kernel_model.specs.Clock.{now}
use Rattle.kernel_model.specs.Descriptions.{opened, output_of, output_at}
use Rattle.kernel_model.specs.Pipes.{Sent, nothing}
use Rattle.kernel_model.specs.State.{Kernel, Files}
use Rattle.kernel_model.specs.Transfers.{writing, write}
use Rattle.kernel_model.specs.Whole.{KernelWriting, kernel_write, with_writing, with_sigpipe}
use Rattle.kernel_model.specs.declared.descriptor.Description.{Description}
use Rattle.kernel_model.specs.declared.descriptor.Object.{Object}
use Rattle.kernel_model.specs.declared.descriptor.Object.TheVariants as objects
use Rattle.kernel_model.specs.declared.stream.Stream.TheVariants as streams
use Rattle.mips_exec.specs.Processor.{Processor}
use Rattle.native_calls.specs.Answered as native_answered
use Rattle.native_calls.specs.History.{moment, opening}
use Rattle.native_calls.specs.HostBytes as host
use Rattle.native_calls.specs.Step as native_step
use Rattle.native_calls.specs.Step.{NativeStep}
use Rattle.native_calls.specs.Table.{native_call}
use Rattle.native_calls.specs.Transfers as native
use Rattle.o32_model.specs.Answered as o32_answered
use Rattle.o32_model.specs.Effects.{Effected}
use Rattle.o32_model.specs.GuestBytes.{loadable}
use Rattle.o32_model.specs.Logs.{Kept}
use Rattle.o32_model.specs.Step as o32_step
use Rattle.o32_model.specs.Step.{Guest, O32Step}
use Rattle.o32_model.specs.Transfers as o32
use Rattle.o32_model.specs.Transfers.{small_file_limit}
use Rattle.o32_model.specs.declared.outcome.Outcome.{Outcome}
use Rattle.o32_model.specs.declared.outcome.Outcome.TheVariants.{Value, Error}
use Rattle.outside.specs.Streams.{Contents}
use Rattle.bridge_log.proofs.Ends.{Alike, Still, called_alike, keeps}
use Rattle.bridge_log.proofs.Replies.{Fits, outcome_of_given}
use Rattle.bridge_log.specs.Fills.{bytes_back}
use Rattle.bridge_log.specs.Keeping.{Keeps, Logged, reached}
use Rattle.bridge_log.specs.Mirrors.{Mirrors}
use Rattle.bridge_log.specs.Outcomes.{by_reply, outcome_of}
use Rattle.bridge_log.specs.Sending.{sent_by}
use Rattle.bridge_io.proofs.Limits.{room_for_write, past_for_write, write_of_those}
use Rattle.bridge_io.proofs.Writes.{kernel_write_fits, kernel_write_sends, kernel_write_quiet}
use Rattle.bridge_io.specs.inside.Rooms.{HasRoom, IsPast, LargeRoom, ObjectRoom, SmallRoom, past_came, past_outcome}
use Rattle.bridge_io.specs.inside.Written.{write_of, count_done}

-- The bytes of host memory that a native write finds

pub loadable_is : (memory : List ℕ) (count : ℕ) → host.loadable memory 65536 count ≡ take (min count (length memory)) memory
loadable_is memory count =
    let there : room_from memory 65536 ≡ length memory = omega arith in
    ap (λ (n : ℕ). take (min count n) memory) there

found_same : (kernel : Kernel) (memory : List ℕ) (first third fd count : ℕ) → first ≡ fd → third ≡ count → fd < 2 ^ 32
    → kernel_write kernel None (first % 2 ^ 32) (Ok third) (host.loadable memory 65536 third) ≡ kernel_write kernel None fd (Ok count) memory
unfolding kernel_write
found_same kernel memory first third fd count first_is third_is word =
    let is : first % 2 ^ 32 ≡ fd = omega arith in
    ap (λ (n : ℕ). with_writing kernel (write kernel.files None (now kernel) n (Ok third) (host.loadable memory 65536 third))) is
    ∙ ap (λ (n : ℕ). with_writing kernel (write kernel.files None (now kernel) fd (Ok n) (host.loadable memory 65536 n))) third_is
    ∙ ap (λ (bytes : List ℕ). with_writing kernel (write kernel.files None (now kernel) fd (Ok count) bytes)) (loadable_is memory count)
    ∙ ap (with_writing kernel) (write_of_those kernel.files None (now kernel) fd count memory)

room_same : (kernel : Kernel) (memory : List ℕ) (fd count room : ℕ) → 0 < room → HasRoom kernel.files small_file_limit room (λ d. d.position) (opened kernel.files fd)
    → kernel_write kernel None fd (Ok (min count room)) memory ≡ kernel_write kernel (Some small_file_limit) fd (Ok count) memory
unfolding kernel_write
room_same kernel memory fd count room some fits =
    ap (with_writing kernel) (sym (room_for_write kernel.files small_file_limit room (now kernel) fd count memory some fits))

-- A write that sends nothing

pub after_mirrors : (guest : Guest) (memory left : List ℕ) (did : Did KernelWriting ℕ) → did.state.sent ≡ nothing → Fits did.came
    → Mirrors guest (by_reply guest.words) (native.after_write memory did left) (o32.after_write guest did left)
after_mirrors guest memory left did quiet fits = record {
  kernel = refl;
  left = refl;
  native_sends = quiet;
  sends = quiet;
  stored = refl;
  set = refl;
  came = sym (outcome_of_given guest.words did.came fits);
}

pub write_mirrors : (guest : Guest) (kernel : Kernel) (memory left : List ℕ) (first third fd count room : ℕ) → first ≡ fd → third ≡ min room count → fd < 2 ^ 32 → output_of kernel.files fd ≡ None
    → 0 < room → HasRoom kernel.files small_file_limit room (λ d. d.position) (opened kernel.files fd)
    → Mirrors guest (by_reply guest.words) (native_call 64 (first ∷ 65536 ∷ third ∷ 0 ∷ 0 ∷ 0 ∷ []) kernel memory left) (write_of kernel guest fd count memory left)
unfolding native.write_row
write_mirrors guest kernel memory left first third fd count room first_is third_is word to some fits =
    let odid = kernel_write kernel (Some small_file_limit) fd (Ok count) memory in
    let fewer : third ≡ min count room = omega arith in
    let same = found_same kernel memory first third fd (min count room) first_is fewer word ∙ room_same kernel memory fd count room some fits in
    subst (λ (d : Did KernelWriting ℕ). Mirrors guest (by_reply guest.words) (native.after_write memory d left) (o32.after_write guest odid left)) (sym same)
    (after_mirrors guest memory left odid (kernel_write_quiet kernel (Some small_file_limit) fd (Ok count) memory to) (kernel_write_fits kernel (Some small_file_limit) fd (Ok count) memory))

-- A write that begins past the limit: nothing is done

past_did : (kernel : Kernel) (memory : List ℕ) (fd count : ℕ) (writable file : Bool) → IsPast kernel.files small_file_limit (λ d. d.position) writable file (opened kernel.files fd)
    → kernel_write kernel (Some small_file_limit) fd (Ok count) memory ≡ with_writing kernel (record { state = writing kernel.files; came = past_came writable file count (length memory) })
unfolding kernel_write
past_did kernel memory fd count writable file past = ap (with_writing kernel) (past_for_write kernel.files small_file_limit (now kernel) fd count writable file memory past)

abbrev past_of : Bool → Bool → Bool → Bool → Came ℕ
past_of false none unreachable file = Refused EBADF
past_of true none unreachable file =
    if none then Done 0
    else (if unreachable then Refused EFAULT
    else (if file then Refused EFBIG else Refused EBADF))

past_by : (writable file : Bool) (count there : ℕ) → past_came writable file count there ≡ past_of writable (count == 0) (there == 0) file
past_by false file count there = refl
past_by true file count there = refl

past_stays : (kernel : Kernel) (writable file : Bool) (count there : ℕ) → with_sigpipe kernel (past_came writable file count there) ≡ kernel
past_stays kernel writable file count there = ap (with_sigpipe kernel) (past_by writable file count there) ∙ by writable (count == 0) (there == 0) file where
  by : (writable none unreachable file : Bool) → with_sigpipe kernel (past_of writable none unreachable file) ≡ kernel
  by false none unreachable file = refl
  by true true unreachable file = refl
  by true false true file = refl
  by true false false true = refl
  by true false false false = refl

pub past_value : (guest : Guest) (writable file : Bool) (count there : ℕ) → o32_step.outcome_of o32_step.value guest.words (past_came writable file count there) ≡ past_outcome writable file count there
past_value guest writable file count there = ap (o32_step.outcome_of o32_step.value guest.words) (past_by writable file count there) ∙ by writable (count == 0) (there == 0) file where
  by : (writable none unreachable file : Bool) → o32_step.outcome_of o32_step.value guest.words (past_of writable none unreachable file)
      ≡ (if writable then (if none then Value 0 else (if unreachable then Error EFAULT else (if file then Error EFBIG else Error EBADF))) else Error EBADF)
  by false none unreachable file = refl
  by true true unreachable file = refl
  by true false true file = refl
  by true false false true = refl
  by true false false false = refl

pub past_still : (guest : Guest) (kernel : Kernel) (left memory : List ℕ) (fd count : ℕ) (writable file : Bool) → IsPast kernel.files small_file_limit (λ d. d.position) writable file (opened kernel.files fd)
    → Still guest kernel left (past_outcome writable file count (length memory)) (write_of kernel guest fd count memory left)
past_still guest kernel left memory fd count writable file past =
    subst (λ (d : Did KernelWriting ℕ). Still guest kernel left (past_outcome writable file count (length memory)) (o32.after_write guest d left)) (sym (past_did kernel memory fd count writable file past))
    (record { kernel_stays = past_stays kernel writable file count (length memory); left_stays = refl; sends = refl; stored = refl; set = refl; came = past_value guest writable file count (length memory) })

-- A write to an output

output_either : (object : Object) (stream : ℕ) → output_at object ≡ Some stream → (stream ≡ 1) ⊎ (stream ≡ 2)
output_either (objects.Stream streams.Input) stream is = absurd cc
output_either (objects.Stream streams.Out) stream is = inl (sym (some_is is)) where
  some_is : Some 1 ≡ Some stream → 1 ≡ stream
  some_is same = cc
output_either (objects.Stream streams.Err) stream is = inr (sym (some_is is)) where
  some_is : Some 2 ≡ Some stream → 2 ≡ stream
  some_is same = cc
output_either (objects.ReadEnd pipe) stream is = absurd cc
output_either (objects.WriteEnd pipe) stream is = absurd cc
output_either (objects.Node node) stream is = absurd cc

pub output_is : (files : Files) (fd stream : ℕ) → output_of files fd ≡ Some stream → (stream ≡ 1) ⊎ (stream ≡ 2)
output_is files fd stream is = by (opened files fd) is where
  by : (there : Option Description) → option_and_then (λ d. output_at d.object) there ≡ Some stream → (stream ≡ 1) ⊎ (stream ≡ 2)
  by None is = absurd cc
  by (Some d) is = output_either d.object stream is

back_of_failure : (memory : List ℕ) (error : Errno) → bytes_back memory (native_step.failure error) ≡ []
back_of_failure memory EPERM = refl
back_of_failure memory _ = refl

back_of_write : (memory : List ℕ) (came : Came ℕ) → bytes_back memory (native_step.reply_to native_step.value came) ≡ take (count_done came) memory
back_of_write memory (Done count) = refl
back_of_write memory (Refused error) = back_of_failure memory error ∙ sym (none_of memory) where
  none_of : (list : List ℕ) → take 0 list ≡ []
  none_of [] = refl
  none_of (byte ∷ list) = refl
back_of_write memory (Waits wake) = none_of memory where
  none_of : (list : List ℕ) → [] ≡ take 0 list
  none_of [] = refl
  none_of (byte ∷ list) = refl

-- The native call and the o32 call do the same, the outcome is that of the reply, and what is sent are the bytes that the reply counts.
pub record SendsBack (guest : Guest) (stream : ℕ) (memory : List ℕ) (native : NativeStep) (step : O32Step) : Type 0 where
  pub alike : Alike native step
  pub stays : native.memory ≡ memory
  pub stored : step.memory ≡ guest.memory
  pub set : step.processor ≡ guest.processor
  pub came : step.outcome ≡ by_reply guest.words memory native.reply
  pub sent : step.sent ≡ sent_by stream (bytes_back memory native.reply)

after_sends : (guest : Guest) (stream : ℕ) (memory left : List ℕ) (did : Did KernelWriting ℕ) → did.state.sent ≡ sent_by stream (take (count_done did.came) memory) → Fits did.came
    → SendsBack guest stream memory (native.after_write memory did left) (o32.after_write guest did left)
after_sends guest stream memory left did sent fits = record {
  alike = record { kernel = refl; left = refl; sent = refl };
  stays = refl;
  stored = refl;
  set = refl;
  came = sym (outcome_of_given guest.words did.came fits);
  sent = sent ∙ ap (sent_by stream) (sym (back_of_write memory did.came));
}

-- an output has no size

stream_room : (files : Files) (append : Bool) (at stream : ℕ) (object : Object) → output_at object ≡ Some stream → ObjectRoom files.nodes small_file_limit (2 ^ 32) append at object
stream_room files append at stream (objects.Stream which) is = lit≤ tt
stream_room files append at stream (objects.ReadEnd pipe) is = lit≤ tt
stream_room files append at stream (objects.WriteEnd pipe) is = lit≤ tt
stream_room files append at stream (objects.Node node) is = absurd cc

output_has_room : (files : Files) (stream : ℕ) (there : Option Description) → option_and_then (λ d. output_at d.object) there ≡ Some stream → HasRoom files small_file_limit (2 ^ 32) (λ d. d.position) there
output_has_room files stream None is = tt
output_has_room files stream (Some d) is = by d.flags.largefile refl where
  by : (large : Bool) → d.flags.largefile ≡ large → LargeRoom (2 ^ 32) d ⊎ SmallRoom files.nodes small_file_limit (2 ^ 32) d d.position
  by true same = inl (record { large = same; all = lit≤ tt })
  by false same = inr (record { small = same; rest = stream_room files d.flags.append d.position stream d.object is })

output_room : (kernel : Kernel) (memory : List ℕ) (fd stream count : ℕ) → output_of kernel.files fd ≡ Some stream → count < 2 ^ 32 → kernel_write kernel None fd (Ok count) memory ≡ kernel_write kernel (Some small_file_limit) fd (Ok count) memory
output_room kernel memory fd stream count to word =
    let all : min count (2 ^ 32) ≡ count = omega arith in
    ap (λ (n : ℕ). kernel_write kernel None fd (Ok n) memory) (sym all)
    ∙ room_same kernel memory fd count (2 ^ 32) (lit< tt) (output_has_room kernel.files stream (opened kernel.files fd) to)

pub write_sends : (guest : Guest) (kernel : Kernel) (memory left : List ℕ) (first third fd stream count : ℕ) → first ≡ fd → third ≡ count → fd < 2 ^ 32 → count < 2 ^ 32 → output_of kernel.files fd ≡ Some stream
    → SendsBack guest stream memory (native_call 64 (first ∷ 65536 ∷ third ∷ 0 ∷ 0 ∷ 0 ∷ []) kernel memory left) (write_of kernel guest fd count memory left)
unfolding native.write_row
write_sends guest kernel memory left first third fd stream count first_is third_is word few to =
    let odid = kernel_write kernel (Some small_file_limit) fd (Ok count) memory in
    let same = found_same kernel memory first third fd count first_is third_is word ∙ output_room kernel memory fd stream count to few in
    subst (λ (d : Did KernelWriting ℕ). SendsBack guest stream memory (native.after_write memory d left) (o32.after_write guest odid left)) (sym same)
    (after_sends guest stream memory left odid (kernel_write_sends kernel (Some small_file_limit) fd stream (Ok count) memory to) (kernel_write_fits kernel (Some small_file_limit) fd (Ok count) memory))

pub sends_called : (outcome : Outcome) {guest : Guest} {stream : ℕ} {memory : List ℕ} {nstep : NativeStep} {ostep : O32Step} {reply : Reply} {kernel : Kernel} {room : List ℕ} {before after : Contents} → SendsBack guest stream memory nstep ostep
    → native_answered.Called nstep reply kernel room before after → outcome ≡ outcome_of guest.words reply → o32_answered.Called ostep outcome kernel guest.memory guest.processor before after
sends_called outcome {guest} s called is = called_alike s.alike called (is ∙ ap (outcome_of guest.words) called.answered ∙ sym s.came) (sym s.stored) (sym s.set)

pub sends_keeps : {guest : Guest} {stream : ℕ} {memory : List ℕ} {nstep : NativeStep} {ostep : O32Step} {reply : Reply} {became : Kernel} {room : List ℕ} {before after : Contents} (kernel : Kernel) (left : List ℕ) (old new : Kept) → SendsBack guest stream memory nstep ostep
    → native_answered.Called nstep reply became room before after → Logged old.native new.native (opening kernel left) (moment nstep.kernel nstep.left nstep.sent)
    → Effected old.effects new.effects (reached guest.processor guest.memory.pages nothing) (reached guest.processor guest.memory.pages (sent_by stream (bytes_back room reply)))
    → Keeps ostep kernel left guest old new
sends_keeps {guest} {stream} {memory} {nstep} {ostep} {reply} {room = room} kernel left old new s called logged effected =
    let back : sent_by stream (bytes_back room reply) ≡ ostep.sent =
    ap (λ (m : List ℕ). sent_by stream (bytes_back m reply)) (called.stored ∙ s.stays) ∙ ap (λ (r : Reply). sent_by stream (bytes_back memory r)) called.answered ∙ sym s.sent in
    keeps s.alike logged
    (subst (λ (m : Memory). Effected old.effects new.effects (reached guest.processor guest.memory.pages nothing) (reached guest.processor m.pages ostep.sent)) (sym s.stored)
    (subst (λ (x : Sent). Effected old.effects new.effects (reached guest.processor guest.memory.pages nothing) (reached guest.processor guest.memory.pages x)) back effected))

-- an early stop, before the call or after it
pub fails_with : (ostep : O32Step) (result : Result Outcome Stop) (kernel : Kernel) (memory : Memory) (processor : Processor) (before after : Contents) → IsErr result → o32_answered.Stopped ostep before after → o32_answered.Answers ostep result kernel memory processor before after
fails_with ostep (Ok outcome) kernel memory processor before after failed stopped = absurd cc
fails_with ostep (Err stop) kernel memory processor before after failed stopped = stopped

-- The row

pub write_is : (kernel : Kernel) (guest : Guest) (space : Memory) (fd buffer count : ℕ) (bytes left : List ℕ) → guest.memory ≡ space → bytes ≡ loadable space buffer count → write_of kernel guest fd count bytes left ≡ o32.write_row kernel guest fd buffer count left
unfolding o32.write_row
write_is kernel guest space fd buffer count bytes left same is =
    ap (λ (b : List ℕ). write_of kernel guest fd count b left) (is ∙ ap (λ (m : Memory). loadable m buffer count) (sym same))

pub loadable_short : (space : Memory) (buffer count : ℕ) (bytes : List ℕ) → count < 2 ^ 32 → bytes ≡ loadable space buffer count → length bytes < 2 ^ 32
loadable_short space buffer count bytes small is =
    let there = readable_prefix space.pages buffer count in
    let long : length bytes ≡ there = ap length is ∙ length-bytes_at space.pages there buffer in
    omega (arith, readable_prefix-le space.pages count buffer)
