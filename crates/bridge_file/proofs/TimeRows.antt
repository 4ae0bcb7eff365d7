-- utimensat(2), as a native call.
use Rattle.std.proofs.Common.{◌≡◌, ℕ, ◌+◌, ◌-◌, ◌<◌, ◌^◌, ◌%◌, List, [], ◌∷◌, ◌++◌, length, take, drop, replicate, Option, Some, None, Ok, Err, refl, ap, ◌∙◌, arith, lit<}
use Rattle.std.proofs.Math.Seq.{drop-append_seam}
use Rattle.std.proofs.lemmas.Bool.Decides.{nat_tests}
use Rattle.std.proofs.lemmas.List.{drop-drop, length-append, take_all}
use Rattle.std.proofs.lemmas.Int.{ints, to_z-of_z}
use Rattle.std.specs.Int.{cast_signed, cast_unsigned, w32, w64, w128}
use Rattle.std.specs.Prelude.{ℤ, Bool, true, false, not, ◌==◌, ◌&&◌, ◌||◌, ◌/◌, pos, negsuc, FitsSigned, nat_lt, option_map, slice_index_or, if◌then◌else◌}
use Rattle.byteorder.specs.Endian.{little_number}
use Rattle.host_mem.specs.Memory.{bytes_at, end_address, first_address, is_inside}
use Rattle.kernel_core.specs.declared.error.Errno.{Errno}
use Rattle.kernel_core.specs.declared.error.Errno.TheVariants.{EBADF, EINVAL}
use Rattle.kernel_model.specs.Came.{Did, Given, given_or_none, refused_if, told_zero, with_given, with_some}
use Rattle.kernel_model.specs.Clock.{now}
use Rattle.kernel_model.specs.Descriptions.{node_of, opened}
use Rattle.kernel_model.specs.NodeRows.{Times, TimeChanges, after_times, is_wrong, set_times, time_changes, times_on}
use Rattle.kernel_model.specs.Paths.{Base, Descriptor, Working, walk_to_node}
use Rattle.kernel_model.specs.State.{Kernel, Files}
use Rattle.kernel_model.specs.Whole.{marked}
use Rattle.kernel_model.specs.declared.time.TimeSpec.{TimeSpec}
use Rattle.layouts.specs.Native as native_layouts
use Rattle.layouts.proofs.RecordLaws.{record_bytes-read_back}
use Rattle.layouts.proofs.SoundTables.{sound_from_test}
use Rattle.layouts.specs.Number.{is_in_range, value_of}
use Rattle.layouts.specs.Shape.{after_put_record, are_in_range, record_values}
use Rattle.native_calls.specs.Flags.{only_flag}
use Rattle.native_calls.specs.HostBytes as host
use Rattle.native_calls.specs.Nodes as native
use Rattle.native_calls.specs.Table.{native_call}
use Rattle.o32_model.specs.NodeCalls as o32
use Rattle.o32_model.specs.PathArguments.{base, one_flag}
use Rattle.o32_model.specs.Step as o32_step
use Rattle.o32_model.specs.Step.{Guest}
use Rattle.bridge_paths.proofs.Passed.{Fits}
use Rattle.bridge_paths.specs.Passed.{Bounded}
use Rattle.bridge_paths.specs.Passed.{Mirrors}
use Rattle.bridge_paths.specs.Passed.{by_reply}
use Rattle.bridge_file.proofs.NodeRows.{bounded_on_node}
use Rattle.bridge_paths.proofs.Rows.{Anything, bounded_given, bounded_if, bounded_some, fits_zero, one_only, same_gives, word}
use Rattle.bridge_file.specs.declared.times.BothTimes.{BothTimes}
use Rattle.bridge_file.specs.inside.BothTimes.{both_bytes, host_path_or_none, host_times_or_none, path_or_none, times_of}
use Rattle.bridge_paths.specs.Refusals.{Refuses}

-- The row, by a path and times that were read

abbrev set_as : Kernel → ℕ → Option Bool → Given (Option (List ℕ)) → Given (Option Times) → Did Kernel ℕ
set_as kernel from follow path times =
    told_zero
    (marked kernel (λ files now.
    with_given files path (λ path.
    with_given files times (λ times.
    let changes = time_changes now times in
    refused_if (is_wrong changes.access || is_wrong changes.modified) EINVAL files (
    with_some files EINVAL follow (λ follow.
    times_on files now changes (base from) follow path))))))

on_bounded : (files : Files) (now : ℤ) (changes : TimeChanges) (from : Base) (follow : Bool) (path : Option (List ℕ)) → Bounded Anything (times_on files now changes from follow path).came
on_bounded files now changes from follow (Some path) = bounded_given Anything files (walk_to_node files from path follow) _ (λ node. tt)
on_bounded files now changes Working follow None = tt
on_bounded files now changes (Descriptor fd) follow None =
    bounded_some Anything files EBADF (opened files fd) _ (λ description. bounded_on_node files (node_of description.object) (after_times files now changes))

set_bounded : (files : Files) (now : ℤ) (from : Base) (follow : Option Bool) (path : Option (List ℕ)) (changes : TimeChanges)
    → Bounded Anything (refused_if (is_wrong changes.access || is_wrong changes.modified) EINVAL files (with_some files EINVAL follow (λ follow. times_on files now changes from follow path))).came
set_bounded files now from follow path changes =
    bounded_if Anything (is_wrong changes.access || is_wrong changes.modified) EINVAL files _
    (bounded_some Anything files EINVAL follow _ (λ follow. on_bounded files now changes from follow path))

set_fits : (kernel : Kernel) (from : ℕ) (follow : Option Bool) (path : Option (List ℕ)) (times : Option Times) → Fits (set_as kernel from follow (Ok path) (Ok times)).came
set_fits kernel from follow path times = fits_zero _ (set_bounded kernel.files (now kernel) (base from) follow path (time_changes (now kernel) times))

-- Flags

nofollow : (number : ℕ) → only_flag 0x100 number ≡ one_flag 0x100 number
nofollow number = one_only 0x100 number (number / 0x100 % 2 == 1) refl (lit< tt) (λ zero. grind (arith, nat_tests)) (λ same. grind (arith, nat_tests))

unless_is : (flag : Option Bool) → native.unless_set flag ≡ option_map not flag
unless_is None = refl
unless_is (Some flag) = refl

follow_same : (given flags : ℕ) → given % 2 ^ 32 ≡ flags → native.follow_of (given % 2 ^ 32) ≡ o32.follows_by flags
follow_same given flags same = ap native.follow_of same ∙ ap native.unless_set (nofollow flags) ∙ unless_is (one_flag 0x100 flags)

-- The call

pub utimensat_mirrors : (guest : Guest) (kernel : Kernel) (address times given_from at times_at given_flags from flags : ℕ) (path : Option (List ℕ)) (found : Option Times) (memory left : List ℕ)
    → given_from ≡ from → given_flags ≡ flags → from < 2 ^ 32 → flags < 2 ^ 32
    → path_or_none guest.memory address ≡ Ok path → host_path_or_none memory at ≡ Ok path → given_or_none (o32.times_at guest.memory times) ≡ Ok found → host_times_or_none memory times_at ≡ Ok found
    → Mirrors guest (by_reply guest.words) (native_call 88 (given_from ∷ at ∷ times_at ∷ given_flags ∷ 0 ∷ 0 ∷ []) kernel memory left) (o32.utimensat_row kernel guest (base from) address times flags left)
unfolding native.utimensat_row o32.utimensat_row set_times
utimensat_mirrors guest kernel address times given_from at times_at given_flags from flags path found memory left one two first second there here given stands =
    let e1 = word given_from from one first in
    let e2 = follow_same given_flags flags (word given_flags flags two second) in
    same_gives guest memory left
    (set_as kernel (given_from % 2 ^ 32) (native.follow_of (given_flags % 2 ^ 32)) (host_path_or_none memory at) (host_times_or_none memory times_at))
    (set_as kernel from (o32.follows_by flags) (path_or_none guest.memory address) (given_or_none (o32.times_at guest.memory times)))
    (set_as kernel from (o32.follows_by flags) (Ok path) (Ok found))
    (λ i. set_as kernel (e1 i) (e2 i) (here i) (stands i)) (λ i. set_as kernel from (o32.follows_by flags) (there i) (given i))
    (set_fits kernel from (o32.follows_by flags) path found)

pub path_lost : (guest : Guest) (kernel : Kernel) (from address times flags : ℕ) (error : Errno) (left : List ℕ) → path_or_none guest.memory address ≡ Err error
    → Refuses guest kernel error left (o32.utimensat_row kernel guest (base from) address times flags left)
unfolding o32.utimensat_row set_times
path_lost guest kernel from address times flags error left there =
    ap (λ (p : Given (Option (List ℕ))). o32_step.gives guest (set_as kernel from (o32.follows_by flags) p (given_or_none (o32.times_at guest.memory times))) left) there

pub times_lost : (guest : Guest) (kernel : Kernel) (from address times flags : ℕ) (path : Option (List ℕ)) (error : Errno) (left : List ℕ) → path_or_none guest.memory address ≡ Ok path → given_or_none (o32.times_at guest.memory times) ≡ Err error
    → Refuses guest kernel error left (o32.utimensat_row kernel guest (base from) address times flags left)
unfolding o32.utimensat_row set_times
times_lost guest kernel from address times flags path error left there given =
    λ i. o32_step.gives guest (set_as kernel from (o32.follows_by flags) (there i) (given i)) left

-- Times in host memory

abbrev of_four : List ℤ → Times
of_four values = record {
  access = record { seconds = slice_index_or values 0 (pos 0); nanoseconds = slice_index_or values 1 (pos 0) };
  modified = record { seconds = slice_index_or values 2 (pos 0); nanoseconds = slice_index_or values 3 (pos 0) };
}

abbrev native_time : List ℕ → TimeSpec
native_time bytes = record { seconds = value_of true 8 (little_number 8 bytes); nanoseconds = value_of true 8 (little_number 8 (drop 8 bytes)) }

pub four_apart : (bytes : List ℕ) → native.times_in bytes ≡ of_four (record_values native_layouts.itimerval bytes)
four_apart bytes =
    ap (λ (rest : List ℕ). record {
      access = native_time bytes;
      modified = record { seconds = value_of true 8 (little_number 8 (drop 16 bytes)); nanoseconds = value_of true 8 (little_number 8 rest) };
    }) (drop-drop 8 16 bytes)

-- bytes that stand at the end
pub bytes_end : (front bytes : List ℕ) (at size : ℕ) → at ≡ end_address front → length bytes ≡ size → bytes_at (front ++ bytes) at size ≡ Some bytes
bytes_end front bytes at size from long =
    let whole : length (front ++ bytes) ≡ length front + length bytes = length-append front bytes in
    let inside : is_inside (front ++ bytes) at size ≡ true = grind (arith, nat_tests) in
    let place : at - first_address ≡ length front = omega (arith, from) in
    rw inside (ap Some (ap (λ (n : ℕ). take size (drop n (front ++ bytes))) place ∙ ap (take size) (drop-append_seam front bytes) ∙ take_all size bytes (omega (arith, long))))

-- so times that stand at the end are read there
pub times_stand : (front bytes : List ℕ) (at : ℕ) (times : BothTimes) → at ≡ end_address front → length bytes ≡ 32 → native.times_in bytes ≡ times_of times → host_times_or_none (front ++ bytes) at ≡ Ok (Some (times_of times))
times_stand front bytes at times from long is =
    let some : (at == 0) ≡ false = grind (arith, nat_tests) in
    ap (λ (null : Bool). given_or_none (if null then None else Some (native.times_at (front ++ bytes) at))) some
    ∙ ap (λ (o : Option (List ℕ)). given_or_none (Some (host.read_as native.times_in (host.given o)))) (bytes_end front bytes at 32 from long)
    ∙ ap (λ (t : Times). Ok (Some t)) is

-- times that a program can give

fits_range : (value : ℤ) → FitsSigned w64 value → is_in_range true 8 value ≡ true
fits_range (pos n) fits = let below : n < 2 ^ 63 = fits.sfits in grind (arith, nat_tests)
fits_range (negsuc n) fits = let below : n < 2 ^ 63 = fits.sfits in grind (arith, nat_tests)

both_true : (one rest : Bool) → one ≡ true → rest ≡ true → (one && rest) ≡ true
both_true true rest first second = second
both_true false rest first second = absurd cc

in_range : (a b c d : ℤ) → FitsSigned w64 a → FitsSigned w64 b → FitsSigned w64 c → FitsSigned w64 d → are_in_range native_layouts.itimerval.fields (a ∷ b ∷ c ∷ d ∷ []) ≡ true
in_range a b c d first second third fourth =
    both_true _ _ (fits_range a first) (both_true _ _ (fits_range b second) (both_true _ _ (fits_range c third) (both_true _ _ (fits_range d fourth) refl)))

pub times_again : (times : BothTimes) → FitsSigned w64 times.access.seconds → FitsSigned w64 times.access.nanoseconds → FitsSigned w64 times.modified.seconds → FitsSigned w64 times.modified.nanoseconds
    → native.times_in (both_bytes times) ≡ times_of times
times_again times first second third fourth =
    four_apart (both_bytes times)
    ∙ ap of_four (record_bytes-read_back native_layouts.itimerval (times.access.seconds ∷ times.access.nanoseconds ∷ times.modified.seconds ∷ times.modified.nanoseconds ∷ [])
    (sound_from_test native_layouts.itimerval refl) refl (in_range times.access.seconds times.access.nanoseconds times.modified.seconds times.modified.nanoseconds first second third fourth))

-- what a put of a record leaves, where its values are in range
again : (z x : ℤ) → z ≡ cast_signed w64 (cast_unsigned w64 x) → FitsSigned w64 x → cast_signed w128 (cast_unsigned w128 z) ≡ x
again z x is fits = omega (arith, ints)

abbrev pub passed : ℤ → ℤ
passed value = cast_signed w128 (cast_unsigned w128 value)

pub both_written : (times : BothTimes) (a b c d : ℤ) (bytes : List ℕ) → FitsSigned w64 times.access.seconds → FitsSigned w64 times.access.nanoseconds → FitsSigned w64 times.modified.seconds → FitsSigned w64 times.modified.nanoseconds
    → a ≡ cast_signed w64 (cast_unsigned w64 times.access.seconds) → b ≡ cast_signed w64 (cast_unsigned w64 times.access.nanoseconds)
    → c ≡ cast_signed w64 (cast_unsigned w64 times.modified.seconds) → d ≡ cast_signed w64 (cast_unsigned w64 times.modified.nanoseconds)
    → bytes ≡ after_put_record native_layouts.itimerval (passed a ∷ passed b ∷ passed c ∷ passed d ∷ []) (replicate 32 0) → bytes ≡ both_bytes times
both_written times a b c d bytes first second third fourth one two three four is =
    let t = times in
    let range = in_range t.access.seconds t.access.nanoseconds t.modified.seconds t.modified.nanoseconds first second third fourth in
    is
    ∙ (λ i. after_put_record native_layouts.itimerval (again a t.access.seconds one first i ∷ again b t.access.nanoseconds two second i ∷ again c t.modified.seconds three third i ∷ again d t.modified.nanoseconds four fourth i ∷ []) (replicate 32 0))
    ∙ ap (λ (fits : Bool). if fits then both_bytes times else replicate 32 0) range

-- a signed number of four bytes, as one of eight

value_by : (number : ℕ) (low : Bool) → nat_lt number 2147483648 ≡ low → number < 2 ^ 32 → cast_signed w32 number ≡ value_of true 4 number
value_by number true is fits = rw is refl
value_by number false is fits = let under : nat_lt number 4294967296 ≡ true = grind (arith, nat_tests) in rw (is, under) refl

pub signed_same : (number read : ℕ) (signed wide : ℤ) → read ≡ number → read < 2 ^ 32 → signed ≡ cast_signed w32 read → wide ≡ cast_signed w32 (cast_unsigned w32 signed) → FitsSigned w32 signed → FitsSigned w64 wide
    → cast_signed w64 (cast_unsigned w64 wide) ≡ value_of true 4 number
signed_same number read signed wide one fits two three short long =
    to_z-of_z w64 wide long ∙ three ∙ to_z-of_z w32 signed short ∙ two ∙ value_by read (nat_lt read 2147483648) refl fits ∙ ap (value_of true 4) one

pub both_long : (times : BothTimes) → length (both_bytes times) ≡ 32
both_long times = refl
