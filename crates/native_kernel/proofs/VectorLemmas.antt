-- The buffers of a vector, one behind the other.
use Rattle.std.proofs.Common.{◌≡◌, ℕ, zero, suc, ◌+◌, ◌-◌, ◌*◌, ◌<◌, ◌≤◌, Bool, true, false, ◌==◌, nat_lt, if◌then◌else◌, min, List, [], ◌∷◌, ◌++◌, length, take, drop, Option, Result, Ok, Err, get_or, add-one, drop-cons, refl, sym, ap, subst, ◌∙◌, inl, inr, arith}
use Rattle.std.proofs.Math.ListN.{drop_of_length-le}
use Rattle.std.proofs.lemmas.Bool.{cases_lt}
use Rattle.std.proofs.lemmas.Bool.Decides.{nat_tests}
use Rattle.std.proofs.lemmas.List.{append-nil, append_assoc, drop-drop, length-append, length-take-le, length-drop, take-append-le, take_min}
use Rattle.host_mem.specs.Memory.{first_address, written}
use Rattle.kernel_core.specs.declared.core_error.CoreError.{CoreError}
use Rattle.kernel_core.specs.declared.core_error.CoreError.TheVariants as errors
use Rattle.kernel_core.specs.declared.core_error.Stop.{Stop}
use Rattle.kernel_core.specs.declared.error.Errno.{Errno}
use Rattle.kernel_core.specs.declared.error.Errno.TheVariants.{EFAULT, EINVAL}
use Rattle.kernel_core.specs.declared.reply.Reply.{Reply}
use Rattle.kernel_model.specs.Came.{Came, Done, Refused, Waits, Did, Given}
use Rattle.kernel_model.specs.State.{Kernel, Files}
use Rattle.kernel_model.specs.Transfers.{Reading, read}
use Rattle.kernel_model.specs.Whole.{with_files, kernel_read}
use Rattle.layouts.specs.Native.{iovec}
use Rattle.layouts.specs.Shape.{record_values}
use Rattle.native_calls.specs.HostBytes.{accessible, all_accessible, all_loadable, all_written, if_countable, loadable, range_of, ranges_in, read_as, sum_limit, total, vector, vector_limit, vector_structures}
use Rattle.native_calls.specs.Transfers.{after_read, read_into, readv_row}
use Rattle.native_calls.specs.declared.range.Range.{Range}
use Rattle.native_files.specs.Answers.{ReadsSo, moved}
use Rattle.native_files.specs.declared.progress.Progress.{Progress}
use Rattle.native_files.specs.declared.progress.Progress.TheVariants as progress
use Rattle.native_kernel.proofs.Taking.{reading_step}
use Rattle.native_kernel.specs.inside.Moving.{Takes, settled}
use Rattle.native_kernel.specs.inside.Vectors.{scattered}

-- a list from a place on is the element there and the rest
pub split : (ranges : List Range) (place : ℕ) (other : Range) → place < length ranges → drop place ranges ≡ get_or ranges place other ∷ drop (place + 1) ranges
split ranges place other below = rw add-one (drop-cons ranges place other below)

same : (n m : ℕ) → n ≡ m → (n == m) ≡ true
same n m e = grind (arith, nat_tests)

differ : (n m : ℕ) → (n ≡ m → ⊥) → (n == m) ≡ false
differ n m e = grind (arith, nat_tests)

take_all : (xs : List ℕ) → take (length xs) xs ≡ xs
take_all [] = refl
take_all (x ∷ xs) = ap (λ (t : List ℕ). x ∷ t) (take_all xs)

-- a buffer that was lent whole is what was left of it
pub left_whole : (count : ℕ) (old new : List ℕ) → length new ≡ count → length old ≡ count → take count (new ++ drop (length new) old) ≡ new
left_whole count old new long same =
    ap (λ (t : List ℕ). take count (new ++ t)) (drop_of_length-le old (omega arith))
    ∙ ap (λ (t : List ℕ). take count t) (append-nil new)
    ∙ ap (λ (n : ℕ). take n new) (sym long)
    ∙ take_all new

-- Loading

there_is : (memory : List ℕ) (address count : ℕ) → accessible memory address count ≤ length memory - (address - first_address)
there_is memory address count = grind (arith, nat_tests)

pub length-loadable : (memory : List ℕ) (address count : ℕ) → length (loadable memory address count) ≡ accessible memory address count
length-loadable memory address count =
    length-take-le (accessible memory address count) (drop (address - first_address) memory)
    (rw length-drop (there_is memory address count))

-- the bytes of the first buffer, which is there whole, and of those behind it
pub loaded_whole : (memory : List ℕ) (range : Range) (later : List Range) → length (loadable memory range.address range.length) ≡ range.length
    → all_loadable memory (range ∷ later) ≡ loadable memory range.address range.length ++ all_loadable memory later
loaded_whole memory range later whole =
    ap (λ (b : Bool). loadable memory range.address range.length ++ (if b then all_loadable memory later else []))
    (same (accessible memory range.address range.length) range.length (sym (length-loadable memory range.address range.length) ∙ whole))

-- and of the first buffer alone, which is not there whole
pub loaded_part : (memory : List ℕ) (range : Range) (later : List Range) → (length (loadable memory range.address range.length) ≡ range.length → ⊥)
    → all_loadable memory (range ∷ later) ≡ loadable memory range.address range.length
loaded_part memory range later part =
    ap (λ (b : Bool). loadable memory range.address range.length ++ (if b then all_loadable memory later else []))
    (differ (accessible memory range.address range.length) range.length (λ e. part (length-loadable memory range.address range.length ∙ e)))
    ∙ append-nil (loadable memory range.address range.length)

-- How many there are

pub counted_whole : (memory : List ℕ) (range : Range) (later : List Range) → accessible memory range.address range.length ≡ range.length
    → all_accessible memory (range ∷ later) ≡ accessible memory range.address range.length + all_accessible memory later
counted_whole memory range later whole =
    ap (λ (b : Bool). if b then accessible memory range.address range.length + all_accessible memory later else accessible memory range.address range.length)
    (same (accessible memory range.address range.length) range.length whole)

pub counted_part : (memory : List ℕ) (range : Range) (later : List Range) → (accessible memory range.address range.length ≡ range.length → ⊥)
    → all_accessible memory (range ∷ later) ≡ accessible memory range.address range.length
counted_part memory range later part =
    ap (λ (b : Bool). if b then accessible memory range.address range.length + all_accessible memory later else accessible memory range.address range.length)
    (differ (accessible memory range.address range.length) range.length part)

-- Writing

drop_least : (bytes : List ℕ) (count least : ℕ) → least ≡ min count (length bytes) → drop least bytes ≡ drop count bytes
drop_least bytes count least e =
    elim (cases_lt count (length bytes)) [
      | inl below ↦ ap (λ (n : ℕ). drop n bytes) (omega (arith, e))
      | inr above ↦ drop_of_length-le bytes (omega (arith, e)) ∙ sym (drop_of_length-le bytes above)
    ]

take_least : (bytes : List ℕ) (count least : ℕ) → least ≡ min count (length bytes) → take least bytes ≡ take count bytes
take_least bytes count least e = ap (λ (n : ℕ). take n bytes) e ∙ take_min count bytes

-- the first of the buffers gets its bytes
pub written_next : (memory : List ℕ) (range : Range) (later : List Range) (bytes piece rest : List ℕ) (size : ℕ)
    → size ≡ min range.length (length bytes) → piece ≡ take size bytes → rest ≡ drop size bytes
    → all_written (written memory range.address piece) later rest ≡ all_written memory (range ∷ later) bytes
written_next memory range later bytes piece rest size e front back =
    ap (λ (p : List ℕ). all_written (written memory range.address p) later rest) (front ∙ take_least bytes range.length size e)
    ∙ ap (λ (r : List ℕ). all_written (written memory range.address (take range.length bytes)) later r) (back ∙ drop_least bytes range.length size e)

-- The structures

pub ranges_next : (count place : ℕ) (bytes : List ℕ) → place < count
    → ranges_in (count - place) (drop (place * 16) bytes)
    ≡ range_of (record_values iovec (drop (place * 16) bytes)) ∷ ranges_in (count - (place + 1)) (drop ((place + 1) * 16) bytes)
ranges_next count place bytes below =
    let one : count - place ≡ suc (count - (place + 1)) = omega arith in
    let next : place * 16 + 16 ≡ (place + 1) * 16 = omega arith in
    ap (λ (n : ℕ). ranges_in n (drop (place * 16) bytes)) one
    ∙ ap (λ (t : List ℕ). range_of (record_values iovec (drop (place * 16) bytes)) ∷ ranges_in (count - (place + 1)) t)
    (drop-drop 16 (place * 16) bytes ∙ ap (λ (n : ℕ). drop n bytes) next)

pub ranges_none : (count place : ℕ) (bytes : List ℕ) → count ≤ place → ranges_in (count - place) bytes ≡ []
ranges_none count place bytes all =
    let none : count - place ≡ 0 = omega arith in
    ap (λ (n : ℕ). ranges_in n bytes) none

rest_all : (bytes : List ℕ) (place : ℕ) → take (length bytes - place) (drop place bytes) ≡ drop place bytes
rest_all bytes place =
    ap (λ (n : ℕ). take n (drop place bytes)) (sym (length-drop place bytes)) ∙ take_all (drop place bytes)

-- one more is read
pub more_ranges : (ranges pushed : List Range) (range : Range) (count place : ℕ) (bytes : List ℕ) (all : List Range) → place < count
    → range ≡ range_of (record_values iovec (take (length bytes - place * 16) (drop (place * 16) bytes))) → pushed ≡ ranges ++ range ∷ []
    → ranges ++ ranges_in (count - place) (drop (place * 16) bytes) ≡ all
    → pushed ++ ranges_in (count - (place + 1)) (drop ((place + 1) * 16) bytes) ≡ all
more_ranges ranges pushed range count place bytes all below named more so_far =
    let rest : List Range = ranges_in (count - (place + 1)) (drop ((place + 1) * 16) bytes) in
    ap (λ (r : List Range). r ++ rest) more
    ∙ append_assoc ranges (range ∷ []) rest
    ∙ ap (λ (r : Range). ranges ++ r ∷ rest) (named ∙ ap (λ (t : List ℕ). range_of (record_values iovec t)) (rest_all bytes (place * 16)))
    ∙ ap (λ (r : List Range). ranges ++ r) (sym (ranges_next count place bytes below))
    ∙ so_far

-- Checks of a vector

chosen : {A : Type 0} (x y : A) (b : Bool) → b ≡ true → (if b then x else y) ≡ x
chosen x y b e = ap (λ v. if v then x else y) e

passed : {A : Type 0} (x y : A) (b : Bool) → b ≡ false → (if b then x else y) ≡ y
passed x y b e = ap (λ v. if v then x else y) e

above : (n m : ℕ) → n < m → nat_lt n m ≡ true
above n m h = grind (arith, nat_tests)

not_above : (n m : ℕ) → m ≤ n → nat_lt n m ≡ false
not_above n m h = grind (arith, nat_tests)

pub too_many : (memory : List ℕ) (address count : ℕ) → vector_limit < count → vector memory address count ≡ Err EINVAL
too_many memory address count many =
    chosen (Err EINVAL) (if_countable (read_as (ranges_in count) (vector_structures memory address count))) (nat_lt vector_limit count) (above vector_limit count many)

few_enough : (memory : List ℕ) (address count : ℕ) → count ≤ vector_limit
    → vector memory address count ≡ if_countable (read_as (ranges_in count) (vector_structures memory address count))
few_enough memory address count few =
    passed (Err EINVAL) (if_countable (read_as (ranges_in count) (vector_structures memory address count))) (nat_lt vector_limit count) (not_above vector_limit count few)

pub not_there : (memory : List ℕ) (address count : ℕ) → count ≤ vector_limit → vector_structures memory address count ≡ Err EFAULT
    → vector memory address count ≡ Err EFAULT
not_there memory address count few e =
    few_enough memory address count few
    ∙ ap (λ (g : Given (List ℕ)). if_countable (read_as (ranges_in count) g)) e

read_whole : (memory bytes : List ℕ) (ranges : List Range) (address count : ℕ) → count ≤ vector_limit
    → vector_structures memory address count ≡ Ok bytes → ranges ≡ ranges_in count bytes
    → vector memory address count ≡ (if nat_lt sum_limit (total ranges) then Err EINVAL else Ok ranges)
read_whole memory bytes ranges address count few e named =
    few_enough memory address count few
    ∙ ap (λ (g : Given (List ℕ)). if_countable (read_as (ranges_in count) g)) e
    ∙ ap (λ (r : List Range). if nat_lt sum_limit (total r) then Err EINVAL else Ok r) (sym named)

pub too_long : (memory bytes : List ℕ) (ranges : List Range) (address count : ℕ) → count ≤ vector_limit
    → vector_structures memory address count ≡ Ok bytes → ranges ≡ ranges_in count bytes → sum_limit < total ranges
    → vector memory address count ≡ Err EINVAL
too_long memory bytes ranges address count few e named long =
    read_whole memory bytes ranges address count few e named
    ∙ chosen (Err EINVAL) (Ok ranges) (nat_lt sum_limit (total ranges)) (above sum_limit (total ranges) long)

pub short_enough : (memory bytes : List ℕ) (ranges : List Range) (address count : ℕ) → count ≤ vector_limit
    → vector_structures memory address count ≡ Ok bytes → ranges ≡ ranges_in count bytes → total ranges ≤ sum_limit
    → vector memory address count ≡ Ok ranges
short_enough memory bytes ranges address count few e named short =
    read_whole memory bytes ranges address count few e named
    ∙ passed (Err EINVAL) (Ok ranges) (nat_lt sum_limit (total ranges)) (not_above sum_limit (total ranges) short)

pub length-ranges_in : (count : ℕ) (bytes : List ℕ) → length (ranges_in count bytes) ≡ count
length-ranges_in zero bytes = refl
length-ranges_in (suc more) bytes = ap (λ (n : ℕ). suc n) (length-ranges_in more (drop iovec.size bytes))

-- Reading into buffers

took : (bytes rest part : List ℕ) (count : ℕ) → part ≡ bytes ++ rest → count ≡ length bytes → take (min (length part) count) part ≡ bytes
took bytes rest part count e n =
    let least : min (length part) count ≡ length bytes = omega (arith, ap length e, length-append bytes rest) in
    ap (λ (k : ℕ). take k part) least ∙ ap (λ (p : List ℕ). take (length bytes) p) e
    ∙ take-append-le (length bytes) bytes rest (omega arith) ∙ take_all bytes

abbrev did_of : Reading → Came (List ℕ) → Did Reading (List ℕ)
did_of state came = record { state = state; came = came }

taken_by : (memory : List ℕ) (ranges : List Range) (kernel : Kernel) (state : Reading) (row : Came (List ℕ))
    (came : Result Progress CoreError) (files : Files) (before after : Option (List ℕ)) (old part : List ℕ)
    → ReadsSo (did_of state row) (moved came) files before after old part
    → Takes (reading_step (all_written memory ranges) memory kernel (did_of state row)) (settled came) (with_files kernel files)
    (scattered came memory ranges part) before after
taken_by memory ranges kernel state row (Err (errors.Stop stop)) files before after old part read = read
taken_by memory ranges kernel state (Done bytes) (Ok (progress.Done count)) files before after old part read =
    let same : count ≡ length bytes = cc in
    record {
      answered = cc;
      became = ap (with_files kernel) read.became;
      stored = ap (λ (b : List ℕ). all_written memory ranges b) (took bytes (drop (length bytes) old) part count read.stored same);
      rest = read.rest;
      sent = refl;
    }
taken_by memory ranges kernel state (Done bytes) (Ok (progress.Waits wake)) files before after old part read = cc
taken_by memory ranges kernel state (Done bytes) (Err (errors.Refused error)) files before after old part read = cc
taken_by memory ranges kernel state (Refused error) (Ok (progress.Done count)) files before after old part read = cc
taken_by memory ranges kernel state (Refused error) (Ok (progress.Waits wake)) files before after old part read = cc
taken_by memory ranges kernel state (Refused error) (Err (errors.Refused given)) files before after old part read =
    record { answered = cc; became = ap (with_files kernel) read.became; stored = refl; rest = read.rest; sent = refl }
taken_by memory ranges kernel state (Waits wake) (Ok (progress.Done count)) files before after old part read = cc
taken_by memory ranges kernel state (Waits wake) (Ok (progress.Waits given)) files before after old part read =
    record { answered = cc; became = ap (with_files kernel) read.became; stored = refl; rest = read.rest; sent = refl }
taken_by memory ranges kernel state (Waits wake) (Err (errors.Refused error)) files before after old part read = cc

pub taken_ranges : (memory : List ℕ) (ranges : List Range) (kernel : Kernel) (did : Did Reading (List ℕ))
    (came : Result Progress CoreError) (files : Files) (before after : Option (List ℕ)) (old part : List ℕ)
    → ReadsSo did (moved came) files before after old part
    → Takes (reading_step (all_written memory ranges) memory kernel did) (settled came) (with_files kernel files) (scattered came memory ranges part) before after
taken_ranges memory ranges kernel did came files before after old part read =
    taken_by memory ranges kernel did.state did.came came files before after old part read

-- a read into buffers as a call
pub ranges_read : (kernel after : Kernel) (held files : Files) (memory new old part : List ℕ) (ranges : List Range) (fd room : ℕ) (rest : List ℕ) (asked : Given ℕ)
    (came : Result Progress CoreError) (result : Result Reply Stop) (before behind : Option (List ℕ))
    → ReadsSo (read held rest fd asked room) (moved came) files before behind old part
    → held ≡ kernel.files → after ≡ with_files kernel files → room ≡ all_accessible memory ranges
    → new ≡ scattered came memory ranges part → result ≡ settled came
    → Takes (after_read (all_written memory ranges) memory (kernel_read kernel rest fd asked (all_accessible memory ranges))) result after new before behind
unfolding kernel_read
ranges_read kernel after held files memory new old part ranges fd room rest asked came result before behind reads same became e put end =
    let did = read kernel.files rest fd asked (all_accessible memory ranges) in
    let here : ReadsSo did (moved came) files before behind old part =
    subst (λ (r : ℕ). ReadsSo (read kernel.files rest fd asked r) (moved came) files before behind old part) e
    (subst (λ (f : Files). ReadsSo (read f rest fd asked room) (moved came) files before behind old part) same reads) in
    subst (λ (r : Result Reply Stop). Takes (reading_step (all_written memory ranges) memory kernel did) r after new before behind) (sym end)
    (subst (λ (k : Kernel). Takes (reading_step (all_written memory ranges) memory kernel did) (settled came) k new before behind) (sym became)
    (subst (λ (m : List ℕ). Takes (reading_step (all_written memory ranges) memory kernel did) (settled came) (with_files kernel files) m before behind) (sym put)
    (taken_ranges memory ranges kernel did came files before behind old part here)))

-- readv(2), where the vector was read
pub readv_ok : (kernel after : Kernel) (memory new left : List ℕ) (ranges : List Range) (fd address count sum : ℕ) (result : Result Reply Stop) (before behind : Option (List ℕ))
    → vector memory address count ≡ Ok ranges → sum ≡ total ranges
    → Takes (after_read (all_written memory ranges) memory (kernel_read kernel left fd (Ok sum) (all_accessible memory ranges))) result after new before behind
    → Takes (readv_row kernel memory fd address count left) result after new before behind
unfolding readv_row
readv_ok kernel after memory new left ranges fd address count sum result before behind e asked taken =
    subst (λ (g : Given (List Range)). Takes (read_into kernel memory fd g left) result after new before behind) (sym e)
    (subst (λ (n : ℕ). Takes (after_read (all_written memory ranges) memory (kernel_read kernel left fd (Ok n) (all_accessible memory ranges))) result after new before behind) asked taken)

-- and where it was not
pub readv_err : (kernel after : Kernel) (memory new left : List ℕ) (error : Errno) (fd address count : ℕ) (result : Result Reply Stop) (before behind : Option (List ℕ))
    → vector memory address count ≡ Err error
    → Takes (after_read (all_written memory []) memory (kernel_read kernel left fd (Err error) (all_accessible memory []))) result after new before behind
    → Takes (readv_row kernel memory fd address count left) result after new before behind
unfolding readv_row
readv_err kernel after memory new left error fd address count result before behind e taken =
    subst (λ (g : Given (List Range)). Takes (read_into kernel memory fd g left) result after new before behind) (sym e) taken
