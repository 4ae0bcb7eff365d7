-- One entry after the other
use Rattle.std.proofs.Common.{◌≡◌, ℕ, ◌+◌, ◌-◌, ◌*◌, ◌≤◌, ◌++◌, List, ap, sym, ◌∙◌, arith, append-nil}
use Rattle.guest_space.proofs.Prefixes.{none_denied-within}
use Rattle.guest_space.specs.Access.{user_end}
use Rattle.guest_space.specs.Bytes.{bytes_at}
use Rattle.guest_space.specs.declared.access.Access.TheVariants.{Load}
use Rattle.bridge_poll.proofs.Loads.{one_loads}
use Rattle.bridge_poll.proofs.Pushing.{pushed_aligned, pushed_from, pushed_none, pushed_one}
use Rattle.bridge_poll.specs.inside.Entries.{native_entry}
use Rattle.bridge_poll.proofs.entries.push_entries.Goals as goal

pub overflow_add-entries : goal.overflow_add-entries
overflow_add-entries c =
    let within : c.args.entries.address + c.args.entries.count * 8 ≤ user_end = none_denied-within Load c.args.space.now.pages (c.args.entries.count * 8) c.args.entries.address c.requires.there (omega arith) in
    omega arith

pub loop-done-preserved : goal.loop-done-preserved
loop-done-preserved c =
    let pages = c.args.space.now.pages in
    let at = c.args.entries.address + c.loop-done.done * 8 in
    let there = one_loads pages c.args.entries.address c.args.entries.count c.loop-done.done c.loop-done-test.true c.requires.there in
    let made : c.native_entry-entry.result ≡ native_entry (bytes_at pages at 8) = c.native_entry-entry.ensures ∙ ap native_entry (c.entry_at.ensures there) in
    record {
      all =
          pushed_one pages c.args.entries.address c.args.entries.count c.loop-done.done c.args.mem.now c.loop-done.mem c.push.new.self c.native_entry-entry.result
          (c.args.mem.now ++ pushed_from pages c.args.entries.address c.args.entries.count) c.loop-done-test.true c.loop-done.invariant.aligned made c.in_ok-push.ensures.ok c.loop-done.invariant.all;
      aligned = pushed_aligned c.loop-done.mem c.push.new.self c.native_entry-entry.result (bytes_at pages at 8) c.loop-done.invariant.aligned made c.in_ok-push.ensures.ok;
    }

pub returns : goal.returns
returns c =
    let pages = c.args.space.now.pages in
    let at = c.args.entries.address + c.loop-done.done * 8 in
    let none : c.args.entries.count - c.loop-done.done ≡ 0 = omega arith in
    sym (append-nil c.loop-done.mem)
    ∙ ap (λ (l : List ℕ). c.loop-done.mem ++ l) (sym (ap (pushed_from pages at) none ∙ pushed_none pages at))
    ∙ c.loop-done.invariant.all
