-- Writes to a node and to a stream, as rows.
use Rattle.std.proofs.Common.{◌≡◌, ℕ, ◌+◌, ℤ, Bool, true, false, List, [], length, take, Option, None, Some, Result, Ok, Err, refl, sym, ap, subst, ◌∙◌}
use Rattle.std.specs.Prelude.{⊤}
use Rattle.kernel_core.specs.FileContent.{FileContent}
use Rattle.kernel_core.specs.NodeCalls.{after_write, write_length}
use Rattle.kernel_core.specs.Nodes.{Nodes}
use Rattle.kernel_core.specs.declared.core_error.CoreError.{CoreError}
use Rattle.kernel_core.specs.declared.core_error.CoreError.TheVariants as errors
use Rattle.kernel_core.specs.declared.core_error.Stop.TheVariants as stops
use Rattle.kernel_core.specs.declared.error.Errno.{Errno}
use Rattle.kernel_core.specs.declared.error.Errno.TheVariants.{EBADF, EFBIG}
use Rattle.kernel_model.specs.Came.{Came, Did, Done, Refused, done, refused_by, refused_if, widened}
use Rattle.kernel_model.specs.State.{Files}
use Rattle.kernel_model.specs.Transfers.{Writing, cut_to, limit_for, starts_past, write_bytes, write_content, write_place, writing}
use Rattle.kernel_model.specs.declared.descriptor.Description.{Description}
use Rattle.native_files.specs.Answers.{Answers, HasWritten, MovesWithin, WritesSo, moved}
use Rattle.native_files.specs.declared.nodes.Written.{Written}
use Rattle.native_files.specs.declared.progress.Progress.{Progress}
use Rattle.native_files.specs.declared.progress.Progress.TheVariants as progress
use Rattle.native_files.specs.inside.Contents.{AnswersCount, HasTaken, WritesFile, WritesNode}
use Rattle.outside.proofs.OutputLemmas.{GainsBetween-nothing, GainsText-nothing}

-- what a write says of its row, by what it took; `nodes` are those after it
abbrev pub WroteSo : Did Files ℕ → Result Written CoreError → Files → Nodes → (Files → ℕ → Files) → Type 0
WroteSo step (Ok written) files nodes after = (step.came ≡ Done written.count) × (step.state ≡ after (record files { nodes = nodes }) written.end)
WroteSo step (Err (errors.Refused error)) files nodes after = (step.came ≡ Refused error) × (step.state ≡ files) × (nodes ≡ files.nodes)
WroteSo step (Err (errors.Stop stops.NoMemory)) files nodes after = ⊤
WroteSo step (Err (errors.Stop stops.ReadFault)) files nodes after = ⊥
WroteSo step (Err (errors.Stop stops.WriteFault)) files nodes after = ⊥

no_limit : (large : Bool) → limit_for None large ≡ None
no_limit true = refl
no_limit false = refl

module _ (files : Files) (now : ℤ) (description : Description) (node at : ℕ) (bytes : List ℕ) (after : Files → ℕ → Files) (nodes : Nodes) where
  module _ (content : FileContent) where
    abbrev bounded : Option ℕ → Did Files ℕ
    bounded bound =
        refused_if (starts_past bound (write_place description.flags.append at content)) EFBIG files (
        write_bytes files now node (write_place description.flags.append at content) (cut_to bound (write_place description.flags.append at content) bytes)
        (λ files count. after files (write_place description.flags.append at content + count)) content)

    abbrev whole : Did Files ℕ
    whole =
        write_bytes files now node (write_place description.flags.append at content) bytes (λ files count. after files (write_place description.flags.append at content + count)) content

    whole-is : bounded (limit_for None description.flags.largefile) ≡ whole
    whole-is = ap bounded (no_limit description.flags.largefile)

    abbrev by_refusal : Option Errno → Did Files ℕ
    by_refusal refusal =
        let count = write_length files.nodes content (write_place description.flags.append at content) (length bytes) in
        refused_by refusal files (
        done (after (record files { nodes = after_write files.nodes node (write_place description.flags.append at content) (take count bytes) now }) (write_place description.flags.append at content + count)) count)

    taken : (written : Written) → HasTaken files.nodes now node (write_place description.flags.append at content) bytes content written nodes
        → WroteSo whole (Ok written) files nodes after
    taken written has =
        let came : whole ≡ by_refusal None = ap by_refusal has.allowed in
        let nodes_are : after_write files.nodes node (write_place description.flags.append at content) (take (write_length files.nodes content (write_place description.flags.append at content) (length bytes)) bytes) now ≡ nodes
        = ap (λ n. after_write files.nodes node (write_place description.flags.append at content) (take n bytes) now) (sym has.count) ∙ sym has.became in
        let end_is : write_place description.flags.append at content + write_length files.nodes content (write_place description.flags.append at content) (length bytes) ≡ written.end
        = ap (λ n. write_place description.flags.append at content + n) (sym has.count) ∙ sym has.end in (
          ap (λ s. s.came) came ∙ ap Done (sym has.count),
          ap (λ s. s.state) came ∙ (λ i. after (record files { nodes = nodes_are i }) (end_is i)),
        )

    file_written : (result : Result Written CoreError) → WritesFile files.nodes now node (write_place description.flags.append at content) bytes content result nodes → WroteSo whole result files nodes after
    file_written (Ok written) has = taken written has
    file_written (Err (errors.Refused error)) has =
        let came : whole ≡ by_refusal (Some error) = ap by_refusal has.0 in
        (ap (λ s. s.came) came, ap (λ s. s.state) came, has.1)
    file_written (Err (errors.Stop stops.NoMemory)) has = tt
    file_written (Err (errors.Stop stops.ReadFault)) has = has
    file_written (Err (errors.Stop stops.WriteFault)) has = has

  none_written : (result : Result Written CoreError) → result ≡ Err (errors.Refused EBADF) → nodes ≡ files.nodes
      → WroteSo (write_content files None now description node at bytes after None) result files nodes after
  none_written result is same = subst (λ r. WroteSo (write_content files None now description node at bytes after None) r files nodes after) (sym is) (refl, refl, same)

  pub content-written : (o : Option FileContent) (result : Result Written CoreError) → WritesNode files.nodes now node description.flags.append at bytes o result nodes
      → WroteSo (write_content files None now description node at bytes after o) result files nodes after
  content-written None result has = none_written result has.0 has.1
  content-written (Some content) result has = subst (λ step. WroteSo step result files nodes after) (sym (whole-is content)) (file_written content result has)

-- what it says where it ends with an error: `state` are the files then

same_files : (files state : Files) (nodes : Nodes) → state ≡ record files { nodes = nodes } → nodes ≡ files.nodes → state ≡ files
same_files files state nodes became same = became ∙ ap (λ n. record files { nodes = n }) same

module _ (step : Did Files ℕ) (files state : Files) (nodes : Nodes) (after : Files → ℕ → Files) (became : state ≡ record files { nodes = nodes }) where
  pub count-err : (error : CoreError) → WroteSo step (Err error) files nodes after → AnswersCount step (Err error) state
  count-err (errors.Refused error) has = (has.0, same_files files state nodes became has.2 ∙ sym has.1)
  count-err (errors.Stop stops.NoMemory) has = tt
  count-err (errors.Stop stops.ReadFault) has = has
  count-err (errors.Stop stops.WriteFault) has = has

  pub answers-err : (error : CoreError) → WroteSo step (Err error) files nodes after → Answers {V = ℕ} step (Err error) state
  answers-err (errors.Refused error) has = (has.0, same_files files state nodes became has.2 ∙ sym has.1)
  answers-err (errors.Stop stops.NoMemory) has = tt
  answers-err (errors.Stop stops.ReadFault) has = has
  answers-err (errors.Stop stops.WriteFault) has = has

pub err-within : (error : CoreError) (most : ℕ) → MovesWithin most (moved (Err error))
err-within (errors.Refused error) most = tt
err-within (errors.Stop stop) most = tt

-- A row that sends nothing

pub node-writes : (step : Did Files ℕ) (result : Result Progress CoreError) (state : Files) (out err : Option (List ℕ)) → AnswersCount step result state
    → WritesSo (widened writing step) (moved result) state out out err err
node-writes step (Ok (progress.Done count)) state out err has =
    record { answered = sym has.0; became = has.1; to_out = GainsText-nothing out; to_err = GainsText-nothing err }
node-writes step (Ok (progress.Waits wake)) state out err has = absurd has
node-writes step (Err (errors.Refused error)) state out err has =
    record { answered = sym has.0; became = has.1; to_out = GainsText-nothing out; to_err = GainsText-nothing err }
node-writes step (Err (errors.Stop stop)) state out err has = record { to_out = GainsBetween-nothing out []; to_err = GainsBetween-nothing err [] }

pub untouched : (files : Files) (step : Did Writing ℕ) (came : Came ℕ) (out err : Option (List ℕ)) → step ≡ record { state = writing files; came = came }
    → HasWritten step came files out out err err
untouched files step came out err is =
    subst (λ s. HasWritten s came files out out err err) (sym is)
    (record { answered = refl; became = refl; to_out = GainsText-nothing out; to_err = GainsText-nothing err })
