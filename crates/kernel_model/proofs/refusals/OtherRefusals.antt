-- Other refused rows.
use Rattle.kernel_core.specs.declared.resource.Resource.{Resource}
use Rattle.kernel_model.proofs.refusals.Checks.{stays}
use Rattle.kernel_model.proofs.refusals.ClockRefusals.{until_stays}
use Rattle.kernel_model.specs.Came.{Given}
use Rattle.kernel_model.specs.Laws.{StaysUnlessDone}
use Rattle.kernel_model.specs.Readiness.{PollEntry, Sets, poll, select}
use Rattle.kernel_model.specs.State.{Kernel}
use Rattle.kernel_model.specs.System.{random_bytes, set_limit, set_limit_to}
use Rattle.kernel_model.specs.declared.limit.Limit.{Limit}
use Rattle.std.specs.Prelude.{List, None, Option, Some, ℕ, ℤ}

limit_to_stays : (kernel : Kernel) (resource : Resource) (limit : Option Limit) → StaysUnlessDone kernel (set_limit_to kernel resource limit)
limit_to_stays kernel resource None = search stays
limit_to_stays kernel resource (Some limit) = search stays

pub poll_stays : (kernel : Kernel) (wait : Given (Option ℕ)) (count : ℕ) (entries : Given (List PollEntry)) → StaysUnlessDone kernel (poll kernel wait count entries)
unfolding poll
poll_stays kernel wait count entries = search (stays, until_stays) depth 14

pub select_stays : (kernel : Kernel) (wait : Given (Option ℕ)) (count : ℤ) (sets : Given Sets) → StaysUnlessDone kernel (select kernel wait count sets)
unfolding select
select_stays kernel wait count sets = search (stays, until_stays) depth 14

pub set_limit_stays : (kernel : Kernel) (pid : ℤ) (resource : Option Resource) (limit : Option (Given Limit)) → StaysUnlessDone kernel (set_limit kernel pid resource limit)
unfolding set_limit
set_limit_stays kernel pid resource limit = search (stays, limit_to_stays) depth 14

pub random_bytes_stays : (kernel : Kernel) (asked : ℕ) (room : ℕ) (flags : ℕ) → StaysUnlessDone kernel (random_bytes kernel asked room flags)
unfolding random_bytes
random_bytes_stays kernel asked room flags = search stays depth 14
