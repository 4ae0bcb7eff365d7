use Rattle.std.proofs.Common.{◌≡◌, ap, sym, ◌∙◌}
use Rattle.kernel_model.specs.ContentRows.{terminal_settings}
use Rattle.kernel_model.specs.State.{Files, Kernel}
use Rattle.native_calls.specs.Terminal.{settings_bytes}
use Rattle.native_kernel.proofs.Storing.{stores_told}
use Rattle.native_kernel.proofs.kernel.NativeKernel.settings.Goals as goal

pub returns-in-Ok : goal.returns-in-Ok
returns-in-Ok c =
    let files : c.self.inside.files ≡ c.args.self.now.files = ap (λ (k : Kernel). k.files) c.self.view_is in
    let same = ap (λ (f : Files). terminal_settings f c.args.fd) files in
    stores_told settings_bytes c.args.self.now (terminal_settings c.args.self.now.files c.args.fd) c.in-Ok.settings c.args.address c.store.result
    c.args.mem.now c.store.new.mem c.settings_bytes.result
    (c.in-Ok.ensures.came ∙ ap (λ d. d.came) same)
    (ap (λ d. d.state) (sym same) ∙ c.in-Ok.ensures.state ∙ files)
    c.settings_bytes.ensures c.store.ensures.reply c.store.ensures.written
