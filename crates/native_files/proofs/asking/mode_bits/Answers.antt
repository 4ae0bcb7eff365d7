use Rattle.std.proofs.Common.{◌≡◌, ℕ, ◌+◌, ◌%◌, ◌≤◌, ap, ◌∙◌, arith}
use Rattle.kernel_core.specs.NodeCalls.{type_bits}
use Rattle.kernel_core.specs.Nodes.{NodeContent, File, Directory, Link}
use Rattle.native_files.proofs.asking.mode_bits.Goals as goal
use Rattle.native_vfs.specs.Keyed.{number_at}

-- the type stands above the mode bits
below_type : (content : NodeContent) (mode : ℕ) → mode ≤ 4095 → (type_bits content + mode) % 4096 ≡ mode
below_type (File content) mode small = omega (arith, small)
below_type (Directory listing) mode small = omega (arith, small)
below_type (Link target) mode small = omega (arith, small)

pub returns : goal.returns
returns c =
    let told = c.status.ensures in
    let live = c.requires.valid.each (number_at c.args.vfs.now c.args.key) told.0 told.1 in
    (told.0, told.1, ap (λ s. s.mode % 4096) told.2 ∙ below_type told.0.content told.0.mode live.mode)
