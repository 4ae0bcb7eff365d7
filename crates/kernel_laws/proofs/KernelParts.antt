-- A kernel of which one part is another stays a kernel.
use Rattle.std.proofs.Common.{◌≡◌, ℕ, ◌<◌, ◌≤◌, length, List}
use Rattle.std.specs.Prelude.{All}
use Rattle.kernel_core.specs.declared.resource.Resource.TheVariants as resources
use Rattle.kernel_model.specs.Always.{AreSignals, IsFiles, IsKernel, IsLimit, IsTimer}
use Rattle.kernel_model.specs.State.{Files, Kernel, Signals, Timer}
use Rattle.kernel_model.specs.System.{limit_at}
use Rattle.kernel_model.specs.Table.{descriptor_limit}
use Rattle.kernel_model.specs.declared.limit.Limit.{Limit}

module _ (kernel : Kernel) (is : IsKernel kernel) where
  pub with_files_kept : (files : Files) → IsFiles files → IsKernel (record kernel { files = files })
  with_files_kept files new = record {
    files = new;
    timer = is.timer;
    signals = is.signals;
    limits = is.limits;
    each_limit = is.each_limit;
    nofile = is.nofile;
    chance = is.chance;
    chance_bytes = is.chance_bytes;
  }

  pub with_timer_kept : (timer : Timer) → IsTimer timer → IsKernel (record kernel { timer = timer })
  with_timer_kept timer new = record {
    files = is.files;
    timer = new;
    signals = is.signals;
    limits = is.limits;
    each_limit = is.each_limit;
    nofile = is.nofile;
    chance = is.chance;
    chance_bytes = is.chance_bytes;
  }

  pub with_signals_kept : (signals : Signals) → AreSignals signals → IsKernel (record kernel { signals = signals })
  with_signals_kept signals new = record {
    files = is.files;
    timer = is.timer;
    signals = new;
    limits = is.limits;
    each_limit = is.each_limit;
    nofile = is.nofile;
    chance = is.chance;
    chance_bytes = is.chance_bytes;
  }

  pub with_limits_kept : (limits : List Limit) → length limits ≡ 16 → All IsLimit limits
      → (limit_at (record kernel { limits = limits }) resources.Nofile).hard ≤ descriptor_limit → IsKernel (record kernel { limits = limits })
  with_limits_kept limits long each nofile = record {
    files = is.files;
    timer = is.timer;
    signals = is.signals;
    limits = long;
    each_limit = each;
    nofile = nofile;
    chance = is.chance;
    chance_bytes = is.chance_bytes;
  }

  pub with_chance_kept : (at : ℕ) → at < length kernel.chance.bytes → IsKernel (record kernel { chance = record kernel.chance { at = at } })
  with_chance_kept at low = record {
    files = is.files;
    timer = is.timer;
    signals = is.signals;
    limits = is.limits;
    each_limit = is.each_limit;
    nofile = is.nofile;
    chance = low;
    chance_bytes = is.chance_bytes;
  }
