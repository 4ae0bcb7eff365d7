-- The rows on time, readiness, limits and chance keep the kernel.
use Rattle.std.proofs.Common.{◌≡◌, ◌≢◌, ℕ, ◌+◌, ◌%◌, ◌^◌, ◌<◌, ◌≤◌, List, length, get_or, set, Bool, true, false, ◌&&◌, refl, sym, ◌∙◌, ap, subst, arith}
use Rattle.std.specs.Prelude.{Option, Some, None, Ok, Err, nat_lt, ◌==◌, ℤ, unwrap_or, if◌then◌else◌}
use Rattle.std.proofs.lemmas.Bool.{leb-false, eqb-true}
use Rattle.std.proofs.lemmas.List.{length-set, get_or-set_same, get_or-set_other}
use Rattle.std.proofs.lemmas.List.Elements.{All-set}
use Rattle.kernel_core.specs.declared.resource.Resource.{Resource}
use Rattle.kernel_core.specs.declared.resource.Resource.TheVariants as resources
use Rattle.kernel_laws.proofs.Keeps.{Keeps, keeps, done_keeps, transferring_keeps}
use Rattle.kernel_laws.proofs.KernelParts.{with_chance_kept, with_limits_kept, with_timer_kept}
use Rattle.kernel_laws.proofs.SignalsKept.{until_keeps}
use Rattle.kernel_laws.specs.Arguments.{WhereGiven}
use Rattle.kernel_model.specs.Always.{IsKernel, IsLimit, IsTimer}
use Rattle.kernel_model.specs.Came.{Given, given_or_none}
use Rattle.kernel_model.specs.Clock.{TimerSetting, alarm, arm_timer, armed, capped, read_clock, read_timer, resolution, sleep, unarmed}
use Rattle.kernel_model.specs.Readiness.{PollEntry, Sets, poll, select}
use Rattle.kernel_model.specs.State.{Kernel}
use Rattle.kernel_model.specs.System.{is_nofile, random_bytes, resource_place, set_limit, set_limit_to, unlimited}
use Rattle.kernel_model.specs.Table.{descriptor_limit}
use Rattle.kernel_model.specs.declared.limit.Limit.{Limit}
use Rattle.kernel_model.specs.declared.time.TimeSpec.{TimeSpec}

-- The interval timer

pub unarmed_is : IsTimer unarmed
unarmed_is = (λ h. refl, omega arith, λ time h. absurd cc)

armed_is : (clock length period : ℕ) → IsTimer (armed clock length period)
armed_is clock length period = by (length == 0) where
  by : (b : Bool) → IsTimer (if b then unarmed else record { due = Some (capped (clock + length)); period = capped period })
  by true = unarmed_is
  by false = (λ h. absurd cc, omega arith, λ at h. let same : capped (clock + length) ≡ at = ap (λ o. unwrap_or o at) h in omega (arith, same))

pub place_low : (resource : Resource) → resource_place resource < 16
place_low resources.Cpu = omega arith
place_low resources.Fsize = omega arith
place_low resources.Data = omega arith
place_low resources.Stack = omega arith
place_low resources.Core = omega arith
place_low resources.Nofile = omega arith
place_low resources.As = omega arith
place_low resources.Rss = omega arith
place_low resources.Nproc = omega arith
place_low resources.Memlock = omega arith
place_low resources.Locks = omega arith
place_low resources.Sigpending = omega arith
place_low resources.Msgqueue = omega arith
place_low resources.Nice = omega arith
place_low resources.Rtprio = omega arith
place_low resources.Rttime = omega arith

module _ (kernel : Kernel) (is : IsKernel kernel) where
  armed_kept : (length period : ℕ) → IsKernel (record kernel { timer = armed kernel.clock length period })
  armed_kept length period = with_timer_kept kernel is _ (armed_is kernel.clock length period)

  pub arm_timer_keeps : (which : ℕ) (setting : Option (Given TimerSetting)) → Keeps IsKernel (arm_timer kernel which setting)
  unfolding arm_timer
  arm_timer_keeps which None = search (keeps, with_timer_kept kernel is unarmed unarmed_is, is) depth 14
  arm_timer_keeps which (Some setting) = search (keeps, armed_kept, is) depth 14

  pub alarm_keeps : (seconds : ℕ) → Keeps IsKernel (alarm kernel seconds)
  unfolding alarm
  alarm_keeps seconds = search (keeps, armed_kept, is) depth 14

  pub read_clock_keeps : (quanta id : ℕ) → Keeps IsKernel (read_clock kernel quanta id)
  unfolding read_clock
  read_clock_keeps quanta id = search (keeps, is) depth 14

  pub resolution_keeps : (id : ℕ) → Keeps IsKernel (resolution kernel id)
  unfolding resolution
  resolution_keeps id = search (keeps, is) depth 14

  pub read_timer_keeps : (which : ℕ) → Keeps IsKernel (read_timer kernel which)
  unfolding read_timer
  read_timer_keeps which = search (keeps, is) depth 14

  pub sleep_keeps : (id : ℕ) (absolute : Option Bool) (time : Given TimeSpec) → Keeps IsKernel (sleep kernel id absolute time)
  unfolding sleep
  sleep_keeps id absolute time = search (keeps, until_keeps, is) depth 14

  -- Readiness

  pub poll_keeps : (wait : Given (Option ℕ)) (count : ℕ) (entries : Given (List PollEntry)) → Keeps IsKernel (poll kernel wait count entries)
  unfolding poll
  poll_keeps wait count entries = search (keeps, until_keeps, is) depth 14

  pub select_keeps : (wait : Given (Option ℕ)) (count : ℤ) (sets : Given Sets) → Keeps IsKernel (select kernel wait count sets)
  unfolding select
  select_keeps wait count sets = search (keeps, until_keeps, is) depth 14

  -- Limits

  module _ (resource : Resource) (limit : Limit) (ordered : nat_lt limit.hard limit.soft ≡ false) (bounded : (is_nofile resource && nat_lt descriptor_limit limit.hard) ≡ false)
      (fits : limit.hard < 2 ^ 64) where
    limit_is : IsLimit limit
    limit_is = (omega (arith, leb-false _ _ ordered), fits)

    nofile_is : (b c : Bool) → is_nofile resource ≡ b → nat_lt descriptor_limit limit.hard ≡ c → (b && c) ≡ false
        → (get_or (set kernel.limits (resource_place resource) limit) 5 unlimited).hard ≤ descriptor_limit
    nofile_is true true e f h = absurd cc
    nofile_is true false e f h =
        let at : resource_place resource ≡ 5 = eqb-true _ _ e in
        let same : get_or (set kernel.limits (resource_place resource) limit) 5 unlimited ≡ limit
        = ap (λ n. get_or (set kernel.limits n limit) 5 unlimited) at ∙ get_or-set_same kernel.limits 5 limit unlimited (omega (arith, is.limits)) in
        let low : limit.hard ≤ descriptor_limit = omega (arith, leb-false _ _ f) in
        subst (λ l. l.hard ≤ descriptor_limit) (sym same) low
    nofile_is false c e f h =
        let other : 5 ≢ resource_place resource = grind (arith, e) in
        subst (λ l. l.hard ≤ descriptor_limit) (sym (get_or-set_other kernel.limits (resource_place resource) 5 limit unlimited other)) is.nofile

    with_limit_kept : IsKernel (record kernel { limits = set kernel.limits (resource_place resource) limit })
    with_limit_kept =
        with_limits_kept kernel is _ (length-set kernel.limits (resource_place resource) limit ∙ is.limits)
        (All-set IsLimit kernel.limits (resource_place resource) limit limit_is is.each_limit) (nofile_is _ _ refl refl bounded)

  limit_to_keeps : (resource : Resource) (given : Option (Given Limit)) → WhereGiven (λ l. l.hard < 2 ^ 64) given → (limit : Option Limit) → given_or_none given ≡ Ok limit
      → Keeps IsKernel (set_limit_to kernel resource limit)
  limit_to_keeps resource given fits None e = done_keeps IsKernel _ _ is
  limit_to_keeps resource None fits (Some limit) e = absurd cc
  limit_to_keeps resource (Some (Err error)) fits (Some limit) e = absurd cc
  limit_to_keeps resource (Some (Ok other)) fits (Some limit) e =
      let same : other ≡ limit = cc in
      let small : limit.hard < 2 ^ 64 = subst (λ l. l.hard < 2 ^ 64) same fits in
      search (keeps, with_limit_kept, is, small) depth 14

  pub set_limit_keeps : (pid : ℤ) (resource : Option Resource) (limit : Option (Given Limit)) → WhereGiven (λ l. l.hard < 2 ^ 64) limit
      → Keeps IsKernel (set_limit kernel pid resource limit)
  unfolding set_limit
  set_limit_keeps pid resource limit fits = search (keeps, limit_to_keeps, is, fits) depth 14

  -- Chance

  chance_kept : (count : ℕ) → IsKernel (record kernel { chance = record kernel.chance { at = (kernel.chance.at + count) % length kernel.chance.bytes } })
  chance_kept count = with_chance_kept kernel is _ (let low = is.chance in omega (arith, low))

  pub random_bytes_keeps : (asked room flags : ℕ) → Keeps IsKernel (random_bytes kernel asked room flags)
  unfolding random_bytes
  random_bytes_keeps asked room flags = search (keeps, transferring_keeps, chance_kept, is) depth 14
