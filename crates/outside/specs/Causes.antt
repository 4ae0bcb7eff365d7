-- When a device may answer that it failed: only in a call in which its own count rose, which rises in no other; and what a count is after a call of a device that counts just its failures. This project's own.
use Rattle.std.specs.Prelude.{◌≡◌, ℕ, Result, Ok, Err}
use Rattle.outside.specs.Count.{Rose, next_count}
use Rattle.outside.specs.declared.errors.DevError.{DevError}
use Rattle.outside.specs.declared.errors.DevError.TheVariants as puts
use Rattle.outside.specs.declared.errors.LoadError.{LoadError}
use Rattle.outside.specs.declared.errors.LoadError.TheVariants as loads

-- of `put`, `create` and `append`: any other answer leaves the count as it was
abbrev pub FailsOnlyIfRose : {T : Type 0} → Result T DevError → ℕ → ℕ → Type 0
FailsOnlyIfRose (Err puts.Failed) before now = Rose before now
FailsOnlyIfRose (Err puts.NoMemory) before now = now ≡ before
FailsOnlyIfRose (Ok done) before now = now ≡ before

-- of `load`: any other answer leaves the count as it was; a file that is missing or too long is no fault
abbrev pub LoadFailsOnlyIfRose : {T : Type 0} → Result T LoadError → ℕ → ℕ → Type 0
LoadFailsOnlyIfRose (Err loads.Failed) before now = Rose before now
LoadFailsOnlyIfRose (Err loads.Missing) before now = now ≡ before
LoadFailsOnlyIfRose (Err loads.TooLong) before now = now ≡ before
LoadFailsOnlyIfRose (Err loads.NoMemory) before now = now ≡ before
LoadFailsOnlyIfRose (Ok done) before now = now ≡ before

-- the count after `put`, `create` or `append`, where each failure adds one and nothing else adds any
abbrev pub faults_after : {T : Type 0} → Result T DevError → ℕ → ℕ
faults_after (Err puts.Failed) before = next_count before
faults_after (Err puts.NoMemory) before = before
faults_after (Ok done) before = before

-- the same after `load`
abbrev pub load_faults_after : {T : Type 0} → Result T LoadError → ℕ → ℕ
load_faults_after (Err loads.Failed) before = next_count before
load_faults_after (Err loads.Missing) before = before
load_faults_after (Err loads.TooLong) before = before
load_faults_after (Err loads.NoMemory) before = before
load_faults_after (Ok done) before = before
