use Rattle.std.proofs.Common.{◌≡◌, ℕ, length, take, Option, Some, None, IsSome, IfSome, sym, subst, ◌∙◌}
use Rattle.std.specs.Int.{w128}
use Rattle.std.specs.Prelude.{Result, Ok, Err, IfOk, IfErr}
use Rattle.std.proofs.Math.Facts.{to_z-of_z}
use Rattle.kernel_core.specs.FileContent.{FileContent}
use Rattle.kernel_core.specs.NodeCalls.{write_length, write_refusal, after_write}
use Rattle.kernel_core.specs.Nodes.{Nodes, file_at}
use Rattle.kernel_core.specs.declared.core_error.CoreError.{CoreError}
use Rattle.native_vfs.specs.Answers.{IsAnswer, LeavesWritten}
use Rattle.native_vfs.specs.Keyed.{number_at}
use Rattle.native_vfs.specs.inside.Steps.{IsFileStep, LeavesPart, file_written}
use Rattle.native_vfs.specs.inside.Stored.{nodes_of, keyed_of, number_of_key, IsKept}
use Rattle.native_vfs.proofs.contents.FileKept.{IsSomeStep, written-step, whole-file, kept-at, seen-at, file-valid, after-written, leaves-seen}
use Rattle.native_vfs.proofs.tables.Kept.{whole-of, kept-of, IsWhole, live-seen, nodes-stepped, keys-stepped, valid-view, are-keys-view}
use Rattle.native_vfs.proofs.tables.HeldKeys.{held-step}
use Rattle.native_vfs.proofs.vfs.Vfs.write.Goals as goal

ok_from : (r : Result ℕ CoreError) (P Q : ℕ → Type 0) → ((n : ℕ) → P n → Q n) → IfOk r P → IfOk r Q
ok_from (Ok n) P Q f h = f n h
ok_from (Err e) P Q f h = h

err_from : (r : Result ℕ CoreError) (P Q : CoreError → Type 0) → ((e : CoreError) → P e → Q e) → IfErr r P → IfErr r Q
err_from (Ok n) P Q f h = h
err_from (Err e) P Q f h = f e h

some_from : (o : Option FileContent) (P Q : FileContent → Type 0) → ((c : FileContent) → P c → Q c) → IfSome o P → IfSome o Q
some_from None P Q f h = h
some_from (Some c) P Q f h = f c h

pub write_file-requires-clause-live : goal.write_file-requires-clause-live
write_file-requires-clause-live c = live-seen c.self.inside.inodes.table c.args.self.now c.self.view_is c.args.node c.requires.live

pub write_file-requires-clause-file : goal.write_file-requires-clause-file
write_file-requires-clause-file c = (kept-at c.self.inside.inodes.table c.args.self.now c.self.view_is c.args.node (λ nodes n. IsSome (file_at nodes n)) c.requires.file)

pub write_file-requires-clause-content : goal.write_file-requires-clause-content
write_file-requires-clause-content c = file-valid (nodes_of c.self.inside.inodes.table) (number_of_key c.self.inside.inodes.table c.args.node) c.self.invariant.sound.system

ok : (c : goal.After-write_file) → IfOk c.write_file.result (λ n. IsFileStep c.self.inside.inodes.table c.write_file.new.inodes.table c.args.node (file_written c.args.at (take n c.args.bytes.now) c.args.now))
ok c = subst (λ t. IfOk c.write_file.result (λ n. IsFileStep c.self.inside.inodes.table c.write_file.new.inodes.table c.args.node (file_written c.args.at (take n c.args.bytes.now) t)))
    (to_z-of_z {w = w128} {z = c.args.now} c.ranges.now) c.write_file.ensures.ok

step : (c : goal.After-write_file) → IsSomeStep c.self.inside.inodes.table c.write_file.new.inodes.table c.args.node
step c =
    written-step c.self.inside.inodes.table c.write_file.new.inodes.table c.args.node c.args.at c.args.bytes.now c.args.now
    (λ content. write_length (nodes_of c.self.inside.inodes.table) content c.args.at (length c.args.bytes.now)) c.requires.time
    (file_at (nodes_of c.self.inside.inodes.table) (number_of_key c.self.inside.inodes.table c.args.node))
    (kept-at c.self.inside.inodes.table c.args.self.now c.self.view_is c.args.node (λ nodes n. IsSome (file_at nodes n)) c.requires.file)
    c.write_file.result (ok c) c.write_file.ensures.err

whole : (c : goal.After-write_file) → IsWhole c.write_file.new.inodes.table c.self.inside.inodes.numbers c.self.inside.inodes.entries c.write_file.new.inodes.blocks c.self.inside.root
whole c =
    let s = step c in
    whole-file c.self.inside.inodes.table c.write_file.new.inodes.table c.args.node s.change s.step s.only c.self.inside.inodes.numbers c.self.inside.inodes.entries c.self.inside.inodes.blocks c.write_file.new.inodes.blocks
    c.self.inside.root (whole-of c.self.inside.inodes c.self.inside.root c.self.invariant) (kept-at c.self.inside.inodes.table c.args.self.now c.self.view_is c.args.node (λ nodes n. IsSome (file_at nodes n)) c.requires.file) c.write_file.new.inodes.block_total

pub invariant_of-self : goal.invariant_of-self
invariant_of-self c = subst (λ n. IsKept c.write_file.new.inodes.table n c.self.inside.root) (sym c.write_file.ensures.entries) (kept-of _ _ _ _ _ (whole c))

pub returns-clause-answer : goal.returns-clause-answer
returns-clause-answer c =
    seen-at c.self.inside.inodes.table c.args.self.now c.self.view_is c.args.node
    (λ nodes n. IfSome (file_at nodes n) (λ content. IsAnswer (write_refusal nodes content c.args.at (length c.args.bytes.now)) c.write_file.result)) c.write_file.ensures.answer

pub returns-clause-count : goal.returns-clause-count
returns-clause-count c =
    seen-at c.self.inside.inodes.table c.args.self.now c.self.view_is c.args.node
    (λ nodes n. IfSome (file_at nodes n) (λ content. IfOk c.write_file.result (λ k. k ≡ write_length nodes content c.args.at (length c.args.bytes.now)))) c.write_file.ensures.count

pub returns-clause-ok : goal.returns-clause-ok
returns-clause-ok c =
    ok_from c.write_file.result
    (λ n. IsFileStep c.self.inside.inodes.table c.write_file.new.inodes.table c.args.node (file_written c.args.at (take n c.args.bytes.now) c.args.now))
    (λ n. (keyed_of c.write_file.new.inodes.table).nodes ≡ after_write c.args.self.now.nodes (number_at c.args.self.now c.args.node) c.args.at (take n c.args.bytes.now) c.args.now)
    (λ n s.
    nodes-stepped c.self.inside.inodes.table c.write_file.new.inodes.table c.args.node (file_written c.args.at (take n c.args.bytes.now) c.args.now) s.step c.args.self.now c.self.view_is
    ∙ after-written c.args.self.now.nodes (number_at c.args.self.now c.args.node) c.args.at (take n c.args.bytes.now) c.args.now)
    (ok c)

pub returns-clause-same : goal.returns-clause-same
returns-clause-same c = let s = step c in keys-stepped c.self.inside.inodes.table c.write_file.new.inodes.table c.args.node s.change s.step.step c.args.self.now c.self.view_is

pub returns-clause-err : goal.returns-clause-err
returns-clause-err c =
    let most : Nodes → FileContent → ℕ = λ nodes content. write_length nodes content c.args.at (length c.args.bytes.now) in
    some_from (file_at c.args.self.now.nodes (number_at c.args.self.now c.args.node))
    (λ content. IfErr c.write_file.result (λ e. LeavesPart e c.self.inside.inodes.table c.write_file.new.inodes.table c.args.node c.args.at c.args.bytes.now (most c.args.self.now.nodes content)))
    (λ content. IfErr c.write_file.result (λ e. LeavesWritten e c.args.self.now (keyed_of c.write_file.new.inodes.table) (number_at c.args.self.now c.args.node) c.args.at c.args.bytes.now (most c.args.self.now.nodes content)))
    (λ content h. err_from c.write_file.result
    (λ e. LeavesPart e c.self.inside.inodes.table c.write_file.new.inodes.table c.args.node c.args.at c.args.bytes.now (most c.args.self.now.nodes content))
    (λ e. LeavesWritten e c.args.self.now (keyed_of c.write_file.new.inodes.table) (number_at c.args.self.now c.args.node) c.args.at c.args.bytes.now (most c.args.self.now.nodes content))
    (leaves-seen c.self.inside.inodes.table c.write_file.new.inodes.table c.args.node c.args.at (most c.args.self.now.nodes content) c.args.bytes.now c.args.self.now c.self.view_is) h)
    (seen-at c.self.inside.inodes.table c.args.self.now c.self.view_is c.args.node
    (λ nodes n. IfSome (file_at nodes n) (λ content. IfErr c.write_file.result (λ e. LeavesPart e c.self.inside.inodes.table c.write_file.new.inodes.table c.args.node c.args.at c.args.bytes.now (most nodes content))))
    c.write_file.ensures.err)

pub returns-clause-valid : goal.returns-clause-valid
returns-clause-valid c = valid-view _ _ _ _ _ (whole c)

pub returns-clause-keys : goal.returns-clause-keys
returns-clause-keys c = are-keys-view _ _ _ _ _ (whole c)

pub returns-clause-held : goal.returns-clause-held
returns-clause-held c = let s = step c in held-step c.self.inside.inodes.table c.write_file.new.inodes.table c.args.node c.args.self.now c.self.view_is s.change s.step.step s.only
