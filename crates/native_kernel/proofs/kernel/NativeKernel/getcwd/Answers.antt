use Rattle.std.proofs.Common.{◌≡◌, ap, sym, ◌∙◌}
use Rattle.kernel_model.specs.NodeRows.{working_directory}
use Rattle.kernel_model.specs.State.{Files, Kernel}
use Rattle.native_calls.specs.Nodes.{getcwd_row, with_nul}
use Rattle.native_kernel.proofs.Storing.{counts_told}
use Rattle.native_kernel.proofs.kernel.NativeKernel.getcwd.Goals as goal

pub returns-in_ok-bytes-in-Ok : goal.returns-in_ok-bytes-in-Ok
unfolding getcwd_row
returns-in_ok-bytes-in-Ok c = λ left.
    let files : c.self.inside.files ≡ c.args.self.now.files = ap (λ (k : Kernel). k.files) c.self.view_is in
    let same = ap (λ (f : Files). working_directory f c.args.size) files in
    counts_told with_nul c.args.self.now (working_directory c.args.self.now.files c.args.size) c.in-Ok.path c.args.buffer c.store_counted.result
    c.args.mem.now c.store_counted.new.mem c.as_slice.result.now left
    (sym (ap (λ d. d.came) same) ∙ c.in-Ok.ensures.row.0)
    (sym files ∙ c.in-Ok.ensures.row.1 ∙ ap (λ d. d.state) same)
    (c.as_slice.ensures.value ∙ c.in_ok-bytes-in-Ok.ensures) c.store_counted.ensures.reply c.store_counted.ensures.written
