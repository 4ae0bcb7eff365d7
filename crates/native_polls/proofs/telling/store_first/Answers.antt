use Rattle.std.proofs.Common.{◌≡◌, ◌+◌, ◌-◌, ◌*◌, false, take, drop, ap, ◌∙◌, arith}
use Rattle.std.specs.Prelude.{ℕ, List}
use Rattle.host_mem.specs.Memory.{written}
use Rattle.kernel_model.specs.Shared.{PollSet}
use Rattle.layouts.specs.Number.{bytes_of}
use Rattle.native_polls.specs.inside.Entries.{entry_bytes, told_in}
use Rattle.number_tables.specs.PollNumbers.{native_poll}
use Rattle.native_polls.proofs.telling.store_first.Goals as goal

pub returns : goal.returns
returns g c =
    let size : c.args.address - 65536 + c.args.count * 8 - (c.args.address - 65536) ≡ c.args.count * 8 = omega arith in
    let told : c.told_in-told.result ≡ told_in (g.F.Readiness.files c.args.files.now) (entry_bytes c.args.mem.now c.args.address c.args.count) =
    c.told_in-told.ensures
    ∙ ap (λ (n : ℕ). told_in (g.F.Readiness.files c.args.files.now) (take n (drop (c.args.address - 65536) c.as_slice.result.now))) size
    ∙ ap (λ (m : List ℕ). told_in (g.F.Readiness.files c.args.files.now) (take (c.args.count * 8) (drop (c.args.address - 65536) m))) c.as_slice.ensures in
    c.write-there.ensures.written
    ∙ ap (λ (bs : List ℕ). written c.args.mem.now (c.args.address + 6) bs)
    (c.number_bytes.ensures ∙ ap (λ (e : PollSet). bytes_of false 2 (native_poll e)) told)
