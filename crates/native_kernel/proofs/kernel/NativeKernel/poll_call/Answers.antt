use Rattle.std.proofs.Common.{◌≡◌, [], Ok, rules, arith, w32, to_z, of_z, ap}
use Rattle.std.proofs.lemmas.Bool.Decides.{nat_tests}
use Rattle.std.proofs.lemmas.Int.{to_z-of_z}
use Rattle.kernel_model.specs.State.{Kernel}
use Rattle.native_calls.specs.Arguments.{word, signed_word}
use Rattle.native_calls.specs.Polls.{poll_calls}
use Rattle.native_kernel.proofs.OtherNumbers.{later_call, no_call}
use Rattle.native_kernel.proofs.PollCall.{poll_call, select_call}
use Rattle.native_kernel.proofs.kernel.NativeKernel.poll_call.Goals as goal

pub returns-in-72 : goal.returns-in-72
returns-in-72 c =
    let count : to_z w32 (of_z w32 c.cast_signed-count.result) ≡ signed_word c.args.args 0 = first_of (search rules, grind (arith, to_z-of_z)) in
    select_call c.args.nr c.args.args c.args.self.now c.args.mem.now c.pselect.new.mem c.self.inside.files c.self.inside.clock
    (to_z w32 (of_z w32 c.cast_signed-count.result)) c.pselect.result c.in-72.is count
    (ap (λ (k : Kernel). k.files) c.self.view_is) (ap (λ (k : Kernel). k.clock) c.self.view_is) c.pselect.ensures

pub returns-in-73 : goal.returns-in-73
returns-in-73 c =
    let count : c.low_word-in-73.result ≡ word c.args.args 1 = cc in
    poll_call c.args.nr c.args.args c.args.self.now c.args.mem.now c.ppoll.new.mem c.self.inside.files c.self.inside.clock
    c.low_word-in-73.result c.ppoll.result c.in-73.is count
    (ap (λ (k : Kernel). k.files) c.self.view_is) (ap (λ (k : Kernel). k.clock) c.self.view_is) c.ppoll.ensures

pub returns-in_default : goal.returns-in_default
returns-in_default c =
    later_call c.args.nr poll_calls [] c.args.args c.args.self.now c.args.self.now c.args.mem.now c.args.mem.now (Ok c.failure.result)
    (λ e. grind (arith, nat_tests), (λ e. grind (arith, nat_tests), tt))
    (no_call c.args.nr c.args.args c.args.self.now c.args.mem.now c.failure.result c.failure.ensures)
