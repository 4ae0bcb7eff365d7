-- A call that makes a node gives it the number that rows give.
use Rattle.std.proofs.Common.{◌≡◌, ℕ, Option, Some, ap, sym, ◌∙◌}
use Rattle.std.specs.FinMap.{get}
use Rattle.std.specs.Prelude.{Result, Ok, Err, IfOk, OnOk, OnErr, is_some, unwrap_or}
use Rattle.kernel_core.specs.Nodes.{Nodes}
use Rattle.kernel_core.specs.Queries.{new_number}
use Rattle.kernel_core.specs.declared.core_error.CoreError.{CoreError}
use Rattle.kernel_core.specs.declared.core_error.CoreError.TheVariants as errors
use Rattle.kernel_core.specs.declared.core_error.Stop.TheVariants as stops
use Rattle.kernel_core.specs.declared.error.Errno.{Errno}
use Rattle.file_system_laws.proofs.Lookups.{get-insert_same}
use Rattle.file_system_laws.proofs.NewNumbers.{new_number_is_new, one_new_number}
use Rattle.native_vfs.specs.Answers.{IsAnswer, Makes, with_node}
use Rattle.native_vfs.specs.Keyed.{Keyed, number_at}
use Rattle.native_files.specs.inside.Changes.{Changes}
use Rattle.native_files.specs.inside.Openings.{Opens, unless_refused}

pub made-as_new : (old new : Keyed) (key : ℕ) (after : ℕ → Nodes) (made : Makes old new key after) → made.number ≡ new_number old.nodes
made-as_new old new key after made = one_new_number old.nodes made.number (new_number old.nodes) made.least (new_number_is_new old.nodes)

pub made-nodes : (old new : Keyed) (key : ℕ) (after : ℕ → Nodes) → Makes old new key after → new.nodes ≡ after (new_number old.nodes)
made-nodes old new key after made = made.nodes ∙ ap after (made-as_new old new key after made)

pub made-changes : (old new : Keyed) (refusal : Option Errno) (after : ℕ → Nodes) (result : Result (Unit {0}) CoreError)
    → IsAnswer refusal result → OnOk result ((key : ℕ) × Makes old new key after) → OnErr result (new ≡ old) → Changes old.nodes refusal (after (new_number old.nodes)) result new.nodes
made-changes old new refusal after (Ok value) answer made kept = (answer, made-nodes old new made.0 after made.1)
made-changes old new refusal after (Err (errors.Refused error)) answer made kept = (answer, ap (λ k. k.nodes) kept)
made-changes old new refusal after (Err (errors.Stop stops.NoMemory)) answer made kept = tt
made-changes old new refusal after (Err (errors.Stop stops.ReadFault)) answer made kept = answer
made-changes old new refusal after (Err (errors.Stop stops.WriteFault)) answer made kept = answer

-- a call at a name that is there
pub moved-changes : (old new : Keyed) (refusal : Option Errno) (at : Option ℕ) (number : ℕ) → at ≡ Some number → (after : ℕ → Nodes) (result : Result (Unit {0}) CoreError)
    → IsAnswer refusal result → OnOk result (new.nodes ≡ with_node at old.nodes after) → OnErr result (new ≡ old) → Changes old.nodes refusal (after number) result new.nodes
moved-changes old new refusal at number is after (Ok value) answer became kept = (answer, became ∙ ap (λ o. with_node o old.nodes after) is)
moved-changes old new refusal at number is after (Err (errors.Refused error)) answer became kept = (answer, ap (λ k. k.nodes) kept)
moved-changes old new refusal at number is after (Err (errors.Stop stops.NoMemory)) answer became kept = tt
moved-changes old new refusal at number is after (Err (errors.Stop stops.ReadFault)) answer became kept = answer
moved-changes old new refusal at number is after (Err (errors.Stop stops.WriteFault)) answer became kept = answer

-- the same of a call whose node is opened

made-key : (old new : Keyed) (key : ℕ) (after : ℕ → Nodes) (made : Makes old new key after) → get new.keys key ≡ Some (new_number old.nodes)
made-key old new key after made =
    ap (λ k. get k key) made.keys ∙ get-insert_same old.keys key made.number ∙ ap Some (made-as_new old new key after made)

pub made-opens : (old new : Keyed) (refusal : Option Errno) (after : ℕ → Nodes) (result : Result ℕ CoreError)
    → IsAnswer refusal result → IfOk result (λ key. Makes old new key after) → OnErr result (new ≡ old)
    → Opens old.nodes (unless_refused refusal (record { nodes = after (new_number old.nodes); node = new_number old.nodes })) result new
made-opens old new refusal after (Ok key) answer made kept =
    let nodes = made-nodes old new key after made in
    let number : number_at new key ≡ new_number old.nodes = ap (λ o. unwrap_or o 0) (made-key old new key after made) in (
      ap (λ r. unless_refused r (record { nodes = after (new_number old.nodes); node = new_number old.nodes })) answer ∙ (λ i. Ok (record { nodes = sym nodes i; node = sym number i })),
      ap (λ o. is_some o) (made-key old new key after made),
    )
made-opens old new refusal after (Err (errors.Refused error)) answer made kept =
    (ap (λ r. unless_refused r (record { nodes = after (new_number old.nodes); node = new_number old.nodes })) answer, ap (λ k. k.nodes) kept)
made-opens old new refusal after (Err (errors.Stop stops.NoMemory)) answer made kept = tt
made-opens old new refusal after (Err (errors.Stop stops.ReadFault)) answer made kept = answer
made-opens old new refusal after (Err (errors.Stop stops.WriteFault)) answer made kept = answer
