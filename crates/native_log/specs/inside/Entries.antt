-- What a log is with one entry more, and with the calls of a part of a turn. (The form is this project's own.)
use Rattle.std.specs.Prelude.{ℕ, ◌==◌, List, [], ◌∷◌, if◌then◌else◌}
use Rattle.kernel_core.specs.declared.log_entry.LogEntry.{LogEntry}
use Rattle.kernel_core.specs.declared.log_entry.LogEntry.TheVariants.{Clock}
use Rattle.native_log.specs.NativeLog.{NativeLog}
use Rattle.o32_model.specs.Logs.{with_more}

abbrev pub with_entry : LogEntry → NativeLog → NativeLog
with_entry entry log = record log { entries = with_more log.entries (entry ∷ []) }

abbrev pub with_time : ℕ → NativeLog → NativeLog
with_time clock log = record { entries = with_more log.entries (Clock clock ∷ []); told = clock }

-- behind the time at which they were made
abbrev pub in_time : ℕ → NativeLog → NativeLog
in_time clock log = if log.told == clock then log else with_time clock log

abbrev pub with_calls : ℕ → List LogEntry → NativeLog → NativeLog
with_calls clock [] log = log
with_calls clock (call ∷ calls) log = record (in_time clock log) { entries = with_more (in_time clock log).entries (call ∷ calls) }
