-- The post is told.
use Rattle.std.proofs.Common.{◌≡◌, ◌∙◌, ℤ, ℕ, List, ap, arith, of_z, to_z, w32}
use Rattle.std.proofs.lemmas.Int.{ints}
use Rattle.kernel_core.specs.declared.log_entry.LogEntry.TheVariants.{Post}
use Rattle.native_log.proofs.Telling.{on_ok, post_told}
use Rattle.native_log.specs.inside.Entries.{with_entry}
use Rattle.native_log.proofs.native_log.NativeLog.tell_post.Goals as goal

pub returns-clause-leads : goal.returns-clause-leads
returns-clause-leads c =
    let info = c.args.info.now in
    let code : to_z w32 (of_z w32 info.code) ≡ info.code = omega (arith, ints) in
    on_ok c.keep.result _ _ (λ (is : c.keep.new.self ≡ with_entry (Post info.sig (to_z w32 (of_z w32 info.code)) info.value) c.args.self.now). λ kernel became left sent follows.
    post_told c.args.self.now c.keep.new.self info.sig info.code info.value kernel became left sent (is ∙ ap (λ (z : ℤ). with_entry (Post info.sig z info.value) c.args.self.now) code) follows) c.keep.ensures.kept
