-- getrandom(2) as a native call that fills a buffer.
use Rattle.std.proofs.Common.{◌≡◌, ℕ, zero, suc, ◌+◌, ◌<◌, ◌≤◌, ◌%◌, ◌^◌, List, [], ◌∷◌, length, replicate, refl, sym, ap, subst, ◌∙◌, arith, Ok}
use Rattle.std.proofs.lemmas.List.{length-replicate}
use Rattle.std.specs.Prelude.{not}
use Rattle.guest_space.specs.Access.{writable_prefix}
use Rattle.guest_space.specs.Bytes.{copied_out}
use Rattle.guest_space.proofs.Uses.{writable_prefix-le}
use Rattle.host_mem.specs.Memory.{first_address, written}
use Rattle.kernel_core.specs.declared.error.Errno.TheVariants.{EINVAL}
use Rattle.kernel_model.specs.Came.{Did, done}
use Rattle.kernel_model.specs.State.{Kernel}
use Rattle.kernel_model.specs.System.{after_chance, are_random_flags, random_bytes, round}
use Rattle.native_calls.specs.HostBytes as host
use Rattle.native_calls.specs.Step as native_step
use Rattle.native_calls.specs.System as native
use Rattle.native_calls.specs.Table.{native_call}
use Rattle.o32_model.specs.Small as o32
use Rattle.o32_model.specs.Step as o32_step
use Rattle.o32_model.specs.Step.{Guest}
use Rattle.bridge_io.specs.Passed.{Bounded}
use Rattle.bridge_io.specs.Passed.{Fills}
use Rattle.bridge_io.proofs.Fitting.{bounded_if, bounded_transferring}
use Rattle.bridge_io.proofs.ReadFills.{room_is}

length-round : (bytes : List ℕ) (count at : ℕ) → length (round bytes at count) ≡ count
unfolding round
length-round bytes zero at = refl
length-round bytes (suc count) at = ap suc (length-round bytes count (at + 1))

random_within : (kernel : Kernel) (asked room flags : ℕ) → Bounded (λ bytes. length bytes ≤ room) (random_bytes kernel asked room flags).came
unfolding random_bytes
random_within kernel asked room flags =
    bounded_if (λ bytes. length bytes ≤ room) (not (are_random_flags flags)) EINVAL kernel _
    (bounded_transferring (λ bytes. length bytes ≤ room) kernel (Ok asked) room []
    (λ count. done (record kernel { chance = after_chance kernel.chance count }) (round kernel.chance.bytes kernel.chance.at count)) (omega arith)
    (λ most less. omega (arith, length-round kernel.chance.bytes most kernel.chance.at)))

alike : (guest : Guest) (buffer : ℕ) (room left : List ℕ) (did : Did Kernel (List ℕ)) → Bounded (λ bytes. length bytes ≤ length room) did.came
    → Fills guest buffer room (native_step.fills (written room first_address) room did left) (o32_step.fills (copied_out guest.memory buffer) guest did left)
alike guest buffer room left did within = record {
  came = did.came;
  bounded = within;
  kernel = refl;
  left = refl;
  native_sends = refl;
  sends = refl;
  room_after = refl;
  stored = refl;
  set = refl;
  replied = refl;
  outcome = refl;
}

pub random_fills : (guest : Guest) (kernel : Kernel) (left : List ℕ) (second third buffer count flags : ℕ) → second ≡ count → third ≡ flags → flags < 2 ^ 32
    → (let room = replicate {A = ℕ} (writable_prefix guest.memory.pages buffer count) 0 in
    Fills guest buffer room (native_call 278 (65536 ∷ second ∷ third ∷ 0 ∷ 0 ∷ 0 ∷ []) kernel room left) (o32.getrandom_row kernel guest buffer count flags left))
unfolding native.getrandom_row o32.getrandom_row
random_fills guest kernel left second third buffer count flags second_is third_is word =
    let size = writable_prefix guest.memory.pages buffer count in
    let room = replicate {A = ℕ} size 0 in
    let odid = random_bytes kernel count size flags in
    let e2 : host.accessible room 65536 second ≡ size = room_is size second (omega (arith, writable_prefix-le guest.memory.pages count buffer)) in
    let e3 : third % 2 ^ 32 ≡ flags = omega arith in
    let same : random_bytes kernel second (host.accessible room 65536 second) (third % 2 ^ 32) ≡ odid =
    ap (λ (n : ℕ). random_bytes kernel second n (third % 2 ^ 32)) e2
    ∙ ap (λ (n : ℕ). random_bytes kernel n size (third % 2 ^ 32)) second_is
    ∙ ap (λ (n : ℕ). random_bytes kernel count size n) e3 in
    let within : Bounded (λ bytes. length bytes ≤ length room) odid.came = rw (length-replicate {A = ℕ} size 0) (random_within kernel count size flags) in
    subst (λ (d : Did Kernel (List ℕ)). Fills guest buffer room (native_step.fills (written room first_address) room d left) (o32_step.fills (copied_out guest.memory buffer) guest odid left)) (sym same)
    (alike guest buffer room left odid within)
