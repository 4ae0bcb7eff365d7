-- The two descriptors of a new pipe.
use Rattle.std.proofs.Common.{◌≡◌, ℕ, ◌+◌, ◌<◌, ◌≤◌, Bool, Some, None, ◌∙◌, arith}
use Rattle.std.proofs.lemmas.List.{get_or-set_other}
use Rattle.kernel_model.specs.Always.{IsTable}
use Rattle.kernel_model.specs.State.{Descriptors}
use Rattle.kernel_model.specs.Table.{slot, lowest_free, new_place, inserted}
use Rattle.kernel_model.proofs.LeastFree.{least_free}

module _ {A : Type 0} (table : Descriptors A) (valid : IsTable table) (from fd : ℕ) (lowest : lowest_free table.fds from ≡ Some fd) where
  pub lowest-within : fd < 1024
  lowest-within = let l = least_free table.fds from fd lowest in omega (arith, l.within, valid.fds)

  pub lowest-free : slot table.fds fd ≡ None
  lowest-free = (least_free table.fds from fd lowest).free

  pub lowest-from : from ≤ fd
  lowest-from = (least_free table.fds from fd lowest).from_there

  -- a lower descriptor is opened first
  pub still-free : (lower : ℕ) (item : A) (cloexec : Bool) → lower + 1 ≡ from → slot (inserted table lower item cloexec).fds fd ≡ None
  still-free lower item cloexec before =
      get_or-set_other table.fds lower fd (Some (record { number = new_place table.live; cloexec = cloexec })) None (λ same. absurd (omega (arith, same, before, lowest-from)))
      ∙ lowest-free
