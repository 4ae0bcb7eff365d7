use Rattle.std.proofs.Common.{◌≡◌, to_z, of_z, ap, ◌∙◌, arith}
use Rattle.std.proofs.lemmas.Int.{ints}
use mir.Syntax.{w128}
use Rattle.kernel_model.specs.State.{Kernel}
use Rattle.kernel_model.specs.Whole.{with_files}
use Rattle.native_kernel.proofs.Sending.{send_is, send_vain}
use Rattle.native_kernel.proofs.kernel.NativeKernel.send.Goals as goal

pub returns-in-Ok-clause-row : goal.returns-in-Ok-clause-row
returns-in-Ok-clause-row g c = λ memory left.
    let same : to_z w128 (of_z w128 c.real_time-now.result) ≡ c.real_time-now.result = omega (arith, ints) in
    send_is c.args.self.now _ c.post_if_broken.new.self c.self.inside.files c.write-came.new.self memory left c.args.bytes.now (to_z w128 (of_z w128 c.real_time-now.result)) c.args.fd c.args.asked
    c.write-came.result c.settled.result _ _ _ _ c.write-came.ensures.row
    (ap (λ (k : Kernel). k.files) c.self.view_is) (same ∙ c.real_time-now.ensures.time)
    (ap (λ (k : Kernel). with_files k c.write-came.new.self) c.self.view_is)
    c.in-Ok.ensures.row c.settled.ensures

pub returns-in-Err-clause-row : goal.returns-in-Err-clause-row
returns-in-Err-clause-row g c = λ memory left.
    let same : to_z w128 (of_z w128 c.real_time-now.result) ≡ c.real_time-now.result = omega (arith, ints) in
    send_vain c.args.self.now c.self.inside.files c.write-came.new.self memory left c.args.bytes.now (to_z w128 (of_z w128 c.real_time-now.result)) c.args.fd c.args.asked
    c.write-came.result _ _ _ _ c.write-came.ensures.row
    (ap (λ (k : Kernel). k.files) c.self.view_is) (same ∙ c.real_time-now.ensures.time)
