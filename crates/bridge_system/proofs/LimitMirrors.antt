-- The calls on names and limits, as native calls.
use Rattle.std.proofs.Common.{◌≡◌, ℕ, ◌<◌, ◌%◌, ◌^◌, List, [], ◌∷◌, length, replicate, Option, Some, None, refl, sym, ap, subst, ◌∙◌, ◌≤◌, inl, inr, arith, lit<, Ok}
use Rattle.std.proofs.lemmas.Bool.{cases_lt}
use Rattle.std.proofs.lemmas.Bool.Decides.{nat_tests}
use Rattle.std.proofs.lemmas.List.{get_or_past}
use Rattle.std.specs.Int.{w32, cast_signed}
use Rattle.std.specs.Prelude.{ℤ, pos, Bool, true, false, ◌==◌, ◌&&◌, ◌||◌, not, nat_lt, option_map, unwrap_or, slice_index_or, All, ◌⊎◌, if◌then◌else◌}
use Rattle.guest_space.specs.Memory.{Memory}
use Rattle.host_mem.specs.Memory.{written}
use Rattle.kernel_core.specs.declared.error.Errno.TheVariants.{EINVAL, EPERM, ESRCH}
use Rattle.kernel_core.specs.declared.resource.Resource.{Resource}
use Rattle.kernel_core.specs.declared.resource.Resource.TheVariants as resources
use Rattle.kernel_model.specs.Came.{Came, Done, Refused, Waits, Did, Given, done, given_or_none, told_as}
use Rattle.kernel_model.specs.SignalRows.{own_id, is_id}
use Rattle.kernel_model.specs.State.{Kernel}
use Rattle.kernel_model.specs.System.{is_nofile, limit_at, resource_place, set_limit, set_limit_to, unlimited}
use Rattle.kernel_model.specs.Table.{descriptor_limit}
use Rattle.kernel_model.specs.declared.limit.Limit.{Limit}
use Rattle.layouts.proofs.RecordLaws.{record_bytes-read_back}
use Rattle.layouts.proofs.SoundTables.{sound_from_test}
use Rattle.layouts.specs.Native as native_layouts
use Rattle.layouts.specs.Shape.{are_in_range}
use Rattle.native_calls.specs.HostBytes as host
use Rattle.native_calls.specs.Step as native_step
use Rattle.native_calls.specs.Step.{NativeStep}
use Rattle.native_calls.specs.System as native
use Rattle.native_calls.specs.Table.{native_call}
use Rattle.number_tables.specs.Resources.{native_resource, resource_of_native, resource_of_o32}
use Rattle.o32_model.specs.GuestBytes as guest
use Rattle.o32_model.specs.Small as o32
use Rattle.o32_model.specs.Step as o32_step
use Rattle.o32_model.specs.Step.{Guest, O32Step}
use Rattle.bridge_io.proofs.Fitting.{bounded_given, bounded_if, bounded_some}
use Rattle.bridge_io.proofs.Passed.{bounded_map, outcome_of_failure, outcome_of_wake}
use Rattle.bridge_io.specs.Passed.{Bounded}
use Rattle.bridge_io.specs.Passed.{Mirrors}
use Rattle.bridge_io.specs.Passed.{by_reply}
use Rattle.bridge_system.proofs.TellMirrors.{Same, row_tells, whole_written}
use Rattle.bridge_system.specs.declared.telling.Told.TheVariants.{Names, Limits, WideLimits}
use Rattle.bridge_system.specs.inside.Limits.{native_number}
use Rattle.bridge_system.specs.inside.Tells.{IsTaken, Tells}

-- uname(2)

names_alike : (guest : Guest) (kernel : Kernel) (address : ℕ) (room bytes left : List ℕ) → length bytes ≡ length room
    → Tells guest address Names (native_step.stores room 65536 (done kernel bytes) left) (o32_step.stores guest address (done kernel bytes) left)
names_alike guest kernel address room bytes left long =
    row_tells guest kernel address Names room (λ (b : List ℕ). b) (λ (b : List ℕ). b) left (Done bytes) (record { long = long; says = refl })

pub uname_tells : (guest : Guest) (kernel : Kernel) (left : List ℕ) (address : ℕ)
    → Tells guest address Names (native_call 160 (65536 ∷ 0 ∷ 0 ∷ 0 ∷ 0 ∷ 0 ∷ []) kernel (replicate 390 0) left) (o32.uname_row kernel guest address left)
unfolding native.uname_row o32.uname_row
uname_tells guest kernel left address = names_alike guest kernel address (replicate 390 0) native.name_bytes left refl

-- Limits of 64 bits

abbrev pub Fits : Limit → Type 0
Fits limit = (limit.soft < 2 ^ 64) × (limit.hard < 2 ^ 64)

-- a limit that no place has is none, which fits
limit_fits : (limits : List Limit) (place : ℕ) → All Fits limits → (place < length limits) ⊎ (length limits ≤ place) → Fits (slice_index_or limits place unlimited)
limit_fits limits place all (inl within) = all place unlimited within
limit_fits limits place all (inr past) = subst Fits (sym (get_or_past limits place unlimited past)) (lit< tt, lit< tt)

pub each_fits : (kernel : Kernel) → All Fits kernel.limits → (resource : Resource) → Fits (limit_at kernel resource)
each_fits kernel all resource = limit_fits kernel.limits (resource_place resource) all (cases_lt (resource_place resource) (length kernel.limits))

both_in_range : (soft hard : ℕ) → soft < 2 ^ 64 → hard < 2 ^ 64 → are_in_range native_layouts.rlimit.fields (pos soft ∷ pos hard ∷ []) ≡ true
both_in_range soft hard low high = grind (arith, nat_tests)

limit_again : (limit : Limit) → Fits limit → native.limit_in (native.limit_bytes limit) ≡ limit
limit_again limit fits =
    ap native.limit_of (record_bytes-read_back native_layouts.rlimit (pos limit.soft ∷ pos limit.hard ∷ []) (sound_from_test native_layouts.rlimit refl) refl (both_in_range limit.soft limit.hard fits.0 fits.1))

set_to_bounded : (kernel : Kernel) (resource : Resource) (limit : Option Limit) → Fits (limit_at kernel resource) → Bounded Fits (set_limit_to kernel resource limit).came
set_to_bounded kernel resource None fits = fits
set_to_bounded kernel resource (Some limit) fits =
    bounded_if Fits (nat_lt limit.hard limit.soft) EINVAL kernel _
    (bounded_if Fits (is_nofile resource && nat_lt descriptor_limit limit.hard) EPERM kernel _ fits)

set_bounded : (kernel : Kernel) (pid : ℤ) (resource : Option Resource) (limit : Option (Given Limit)) → ((resource : Resource) → Fits (limit_at kernel resource))
    → Bounded Fits (set_limit kernel pid resource limit).came
unfolding set_limit
set_bounded kernel pid resource limit fits =
    bounded_if Fits (not (is_id pid 0 || is_id pid own_id)) ESRCH kernel _
    (bounded_some Fits kernel EINVAL resource _ (λ resource _.
    bounded_given Fits kernel (given_or_none limit) _ (λ limit.
    set_to_bounded kernel resource limit (fits resource))))

shown_same : (room : List ℕ) → length room ≡ 16 → (limit : Limit) → Fits limit → Same Limits room (native.limit_bytes limit) (o32.shown_bytes limit)
shown_same room long limit fits = record { long = sym long; says = ap o32.shown_bytes (limit_again limit fits) }

wide_same : (room : List ℕ) → length room ≡ 16 → (limit : Limit) → Fits limit → Same WideLimits room (native.limit_bytes limit) (o32.limit_bytes limit)
wide_same room long limit fits = record { long = sym long; says = ap o32.limit_bytes (limit_again limit fits) }

-- A resource by its native number

named_again : (found : Option Resource) → resource_of_native (unwrap_or (option_map native_resource found) 16 % 2 ^ 32) ≡ found
named_again None = refl
named_again (Some resources.Cpu) = refl
named_again (Some resources.Fsize) = refl
named_again (Some resources.Data) = refl
named_again (Some resources.Stack) = refl
named_again (Some resources.Core) = refl
named_again (Some resources.Nofile) = refl
named_again (Some resources.As) = refl
named_again (Some resources.Rss) = refl
named_again (Some resources.Nproc) = refl
named_again (Some resources.Memlock) = refl
named_again (Some resources.Locks) = refl
named_again (Some resources.Sigpending) = refl
named_again (Some resources.Msgqueue) = refl
named_again (Some resources.Nice) = refl
named_again (Some resources.Rtprio) = refl
named_again (Some resources.Rttime) = refl

-- The native call

limit_call_is : (kernel : Kernel) (room left : List ℕ) (process number place old resource : ℕ) (pid : ℤ) (limit : Option (Given Limit))
    → cast_signed w32 (process % 2 ^ 32) ≡ pid → number ≡ native_number resource → host.unless_null place (native.limit_at room place) ≡ limit
    → native_call 261 (process ∷ number ∷ place ∷ old ∷ 0 ∷ 0 ∷ []) kernel room left
    ≡ native_step.stores_unless_null room old (told_as native.limit_bytes (set_limit kernel pid (resource_of_o32 resource) limit)) left
unfolding native.prlimit_row
limit_call_is kernel room left process number place old resource pid limit pid_is number_is limit_is =
    let of : ℤ → Option Resource → Option (Given Limit) → NativeStep = λ p r l. native_step.stores_unless_null room old (told_as native.limit_bytes (set_limit kernel p r l)) left in
    ap (λ (p : ℤ). of p (resource_of_native (number % 2 ^ 32)) (host.unless_null place (native.limit_at room place))) pid_is
    ∙ ap (λ (r : Option Resource). of pid r (host.unless_null place (native.limit_at room place))) (ap (λ (n : ℕ). resource_of_native (n % 2 ^ 32)) number_is ∙ named_again (resource_of_o32 resource))
    ∙ ap (λ (l : Option (Given Limit)). of pid (resource_of_o32 resource) l) limit_is

-- A limit that goes into host memory

there_is : (memory : Memory) (address : ℕ) → (address == 0) ≡ false → o32.limit_at memory address ≡ Some (guest.read_as o32.limit_in (guest.structure memory address 16))
there_is memory address apart = ap (λ (b : Bool). if b then None else Some (guest.read_as o32.limit_in (guest.structure memory address 16))) apart

pub taken : (memory : Memory) (address : ℕ) (room after bytes : List ℕ) (limit : Limit) → (address ≡ 0 → ⊥) → length room ≡ 16 → Ok bytes ≡ guest.structure memory address 16 → limit ≡ o32.limit_in bytes → Fits limit
    → after ≡ written room 65536 (native.limit_bytes limit) → Some (native.limit_at after 65536) ≡ o32.limit_at memory address
taken memory address room after bytes limit apart long loaded is fits stored =
    let there : (address == 0) ≡ false = grind (arith, nat_tests) in
    let whole : after ≡ native.limit_bytes limit = stored ∙ whole_written room (native.limit_bytes limit) (sym long) in
    ap (λ (m : List ℕ). Some (native.limit_at m 65536)) whole
    ∙ ap (λ (l : Limit). Some (Ok l)) (limit_again limit fits ∙ is)
    ∙ ap (λ (l : Given (List ℕ)). Some (guest.read_as o32.limit_in l)) loaded
    ∙ sym (there_is memory address there)

-- getrlimit(2)

pub getrlimit_tells : (guest : Guest) (kernel : Kernel) (room left : List ℕ) (number resource address : ℕ) → ((resource : Resource) → Fits (limit_at kernel resource)) → length room ≡ 16 → number ≡ native_number resource
    → Tells guest address Limits (native_call 261 (0 ∷ number ∷ 0 ∷ 65536 ∷ 0 ∷ 0 ∷ []) kernel room left) (o32.getrlimit_row kernel guest resource address left)
unfolding o32.getrlimit_row
getrlimit_tells guest kernel room left number resource address fits long number_is =
    let did = set_limit kernel (pos 0) (resource_of_o32 resource) None in
    subst (λ (n : NativeStep). Tells guest address Limits n (o32_step.stores guest address (told_as o32.shown_bytes did) left))
    (sym (limit_call_is kernel room left 0 number 0 65536 resource (pos 0) None refl number_is refl))
    (row_tells guest did.state address Limits room native.limit_bytes o32.shown_bytes left did.came
    (bounded_map Fits (λ limit. Same Limits room (native.limit_bytes limit) (o32.shown_bytes limit)) did.came (shown_same room long) (set_bounded kernel (pos 0) (resource_of_o32 resource) None fits)))

-- prlimit(2)

word_is : (process pid : ℕ) → process ≡ pid → pid < 2 ^ 32 → cast_signed w32 (process % 2 ^ 32) ≡ cast_signed w32 pid
word_is process pid same word = ap (cast_signed w32) (let is : process % 2 ^ 32 ≡ pid = omega arith in is)

not_null : (guest : Guest) (old : ℕ) (did : Did Kernel (List ℕ)) (left : List ℕ) → (old == 0) ≡ false → o32.stores_unless_null guest old did left ≡ o32_step.stores guest old did left
not_null guest old did left there = ap (λ (b : Bool). if b then o32_step.gives guest (told_as (λ _. 0) did) left else o32_step.stores guest old did left) there

pub prlimit_tells : (guest : Guest) (kernel : Kernel) (room left : List ℕ) (process pid number resource place new old : ℕ) → ((resource : Resource) → Fits (limit_at kernel resource)) → length room ≡ 16
    → process ≡ pid → pid < 2 ^ 32 → number ≡ native_number resource → IsTaken guest.memory new room place → (old ≡ 0 → ⊥)
    → Tells guest old WideLimits (native_call 261 (process ∷ number ∷ place ∷ 65536 ∷ 0 ∷ 0 ∷ []) kernel room left) (o32.prlimit_row kernel guest (cast_signed w32 pid) resource new old left)
unfolding o32.prlimit_row
prlimit_tells guest kernel room left process pid number resource place new old fits long process_is word number_is taken apart =
    let there : (old == 0) ≡ false = grind (arith, nat_tests) in
    let given = o32.limit_at guest.memory new in
    let did = set_limit kernel (cast_signed w32 pid) (resource_of_o32 resource) given in
    subst (λ (n : NativeStep). Tells guest old WideLimits n (o32.stores_unless_null guest old (told_as o32.limit_bytes did) left))
    (sym (limit_call_is kernel room left process number place 65536 resource (cast_signed w32 pid) given (word_is process pid process_is word) number_is taken))
    (subst (λ (o : O32Step). Tells guest old WideLimits (native_step.stores_unless_null room 65536 (told_as native.limit_bytes did) left) o)
    (sym (not_null guest old (told_as o32.limit_bytes did) left there))
    (row_tells guest did.state old WideLimits room native.limit_bytes o32.limit_bytes left did.came
    (bounded_map Fits (λ limit. Same WideLimits room (native.limit_bytes limit) (o32.limit_bytes limit)) did.came (wide_same room long) (set_bounded kernel (cast_signed w32 pid) (resource_of_o32 resource) given fits))))

null_alike : (guest : Guest) (kernel : Kernel) (room left : List ℕ) (came : Came Limit) → Bounded Fits came
    → Mirrors guest (by_reply guest.words) (native_step.stores_unless_null room 0 (told_as native.limit_bytes (record { state = kernel; came = came })) left)
    (o32_step.gives guest (told_as (λ _. 0) (told_as o32.limit_bytes (record { state = kernel; came = came }))) left)
null_alike guest kernel room left (Done limit) bounded = record { kernel = refl; left = refl; native_sends = refl; sends = refl; stored = refl; set = refl; came = refl }
null_alike guest kernel room left (Refused error) bounded = record {
  kernel = refl;
  left = refl;
  native_sends = refl;
  sends = refl;
  stored = refl;
  set = refl;
  came = sym (outcome_of_failure guest.words error);
}
null_alike guest kernel room left (Waits wake) bounded = record {
  kernel = refl;
  left = refl;
  native_sends = refl;
  sends = refl;
  stored = refl;
  set = refl;
  came = sym (outcome_of_wake guest.words wake bounded);
}

pub prlimit_mirrors : (guest : Guest) (kernel : Kernel) (room left : List ℕ) (process pid number resource place new : ℕ) → ((resource : Resource) → Fits (limit_at kernel resource))
    → process ≡ pid → pid < 2 ^ 32 → number ≡ native_number resource → IsTaken guest.memory new room place
    → Mirrors guest (by_reply guest.words) (native_call 261 (process ∷ number ∷ place ∷ 0 ∷ 0 ∷ 0 ∷ []) kernel room left) (o32.prlimit_row kernel guest (cast_signed w32 pid) resource new 0 left)
unfolding o32.prlimit_row
prlimit_mirrors guest kernel room left process pid number resource place new fits process_is word number_is taken =
    let given = o32.limit_at guest.memory new in
    let did = set_limit kernel (cast_signed w32 pid) (resource_of_o32 resource) given in
    subst (λ (n : NativeStep). Mirrors guest (by_reply guest.words) n (o32_step.gives guest (told_as (λ _. 0) (told_as o32.limit_bytes did)) left))
    (sym (limit_call_is kernel room left process number place 0 resource (cast_signed w32 pid) given (word_is process pid process_is word) number_is taken))
    (null_alike guest did.state room left did.came (set_bounded kernel (cast_signed w32 pid) (resource_of_o32 resource) given fits))
