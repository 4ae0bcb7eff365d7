use Rattle.std.proofs.Common.{◌≡◌, false, ap, ◌∙◌, arith}
use Rattle.kernel_model.specs.Begin.{first_files}
use Rattle.kernel_model.specs.State.{Files}
use Rattle.kernel_model.specs.Table.{inserted, slot}
use Rattle.native_files.proofs.FirstFiles.{after_one, after_two, first-inserted, first-table, first-three-free, one-free, second-inserted, two-free}
use Rattle.native_files.proofs.files.Files.new.Goals as goal

pub insert-requires-clause-free : goal.insert-requires-clause-free
insert-requires-clause-free c = ap (λ (f : Files). slot f.table.fds 0) c.in_ok-files.ensures ∙ first-three-free 0 (omega arith)

pub insert-requires-2-clause-free : goal.insert-requires-2-clause-free
insert-requires-2-clause-free c =
    let first = c.stream_description.result in
    let one : c.insert.new.self.table ≡ after_one first =
    ap (λ (f : Files). f.table) c.in_ok-insert.ensures ∙ ap (λ (f : Files). inserted f.table 0 first false) c.in_ok-files.ensures ∙ first-inserted first in
    ap (λ t. slot t.fds 1) one ∙ one-free first

pub insert-requires-3-clause-free : goal.insert-requires-3-clause-free
insert-requires-3-clause-free c =
    let first = c.stream_description.result in
    let second = c.stream_description-2.result in
    let one : c.insert.new.self.table ≡ after_one first =
    ap (λ (f : Files). f.table) c.in_ok-insert.ensures ∙ ap (λ (f : Files). inserted f.table 0 first false) c.in_ok-files.ensures ∙ first-inserted first in
    let two : c.insert-2.new.self.table ≡ after_two first second =
    ap (λ (f : Files). f.table) c.in_ok-insert-2.ensures ∙ ap (λ t. inserted t 1 second false) one ∙ second-inserted first second in
    ap (λ t. slot t.fds 2) two ∙ two-free first second

pub returns : goal.returns
returns c =
    let first = c.stream_description.result in
    let second = c.stream_description-2.result in
    let third = c.stream_description-3.result in
    record {
      first =
          c.in_ok-insert-3.ensures
          ∙ ap (λ (f : Files). record f { table = inserted f.table 2 third false })
          (c.in_ok-insert-2.ensures
          ∙ ap (λ (f : Files). record f { table = inserted f.table 1 second false })
          (c.in_ok-insert.ensures ∙ ap (λ (f : Files). record f { table = inserted f.table 0 first false }) c.in_ok-files.ensures))
          ∙ ap (λ t. record (first_files c.args.tree c.args.terminal) { table = t })
          (first-table first second third c.stream_description.ensures c.stream_description-2.ensures c.stream_description-3.ensures);
    }
