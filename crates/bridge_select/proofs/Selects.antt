-- What select does by the sets that count, and what the native row and the program's row leave of it.
use Rattle.std.proofs.Common.{◌≡◌, ℕ, ℤ, pos, ◌*◌, ◌≤◌, Bool, true, false, ◌&&◌, List, [], refl, sym, ap, subst, ◌∙◌, arith}
use Rattle.std.specs.Prelude.{◌==◌, Option, Some, None, Ok, Err, int_lt, filter, nat_lt, nat_le, if◌then◌else◌}
use Rattle.guest_space.specs.Memory.{Memory}
use Rattle.kernel_core.specs.declared.error.Errno.TheVariants.{EBADF, EINVAL}
use Rattle.kernel_model.specs.Came.{Came, Did, Done, Refused, Waits, Given, done, refused_if, with_given}
use Rattle.kernel_model.specs.Clock.{deadline, waits_until}
use Rattle.kernel_model.specs.Readiness.{Sets, counted_fds, counted_sets, first_fds, is_read_ready, is_write_ready, names_any_closed, ready, ready_sets, select, select_of, select_ready, set_count}
use Rattle.kernel_model.specs.State.{Files, Kernel}
use Rattle.layouts.specs.Termios.{count_up}
use Rattle.native_calls.specs.Polls as native
use Rattle.o32_model.specs.GuestBytes.{read_as, structure}
use Rattle.o32_model.specs.Selecting.{Asked, fds_at, fds_in, holds_fd, if_all, sets_at, word_count}
use Rattle.bridge_select.proofs.Fds.{below_is, first_of_more}
use Rattle.native_polls.proofs.Lists.{filter_none, filter_twice}

-- By the sets that count

counted_first : {A B C : Type 0} (kernel : Kernel) (given : Given A) (f : A → B) (rest : B → Did Kernel C) → with_given kernel given (λ a. rest (f a)) ≡ with_given kernel (read_as f given) rest
counted_first kernel (Err error) f rest = refl
counted_first kernel (Ok value) f rest = refl

abbrev checked : Kernel → ℤ → Option ℕ → Given Sets → Did Kernel Sets
checked kernel count wait sets = refused_if (int_lt count (pos 0)) EINVAL kernel (with_given kernel sets (λ sets. select_of kernel wait sets))

by_counted : (kernel : Kernel) (wait : Given (Option ℕ)) (count : ℤ) (sets : Given Sets)
    → select kernel wait count sets ≡ with_given kernel wait (λ wait. checked kernel count wait (read_as (counted_sets (counted_fds count)) sets))
unfolding select
by_counted kernel (Err error) count sets = refl
by_counted kernel (Ok wait) count sets =
    ap (λ (d : Did Kernel Sets). refused_if (int_lt count (pos 0)) EINVAL kernel d)
    (counted_first kernel sets (counted_sets (counted_fds count)) (λ sets. select_of kernel wait sets))

pub select_same : (kernel : Kernel) (wait : Given (Option ℕ)) (count : ℤ) (one other : Given Sets)
    → read_as (counted_sets (counted_fds count)) one ≡ read_as (counted_sets (counted_fds count)) other → select kernel wait count one ≡ select kernel wait count other
select_same kernel wait count one other same =
    by_counted kernel wait count one
    ∙ ap (λ (sets : Given Sets). with_given kernel wait (λ wait. checked kernel count wait sets)) same
    ∙ sym (by_counted kernel wait count other)

all_counted : (count : ℕ) (read write except : Given (List ℕ))
    → read_as (counted_sets count) (if_all read write except) ≡ if_all (read_as (first_fds count) read) (read_as (first_fds count) write) (read_as (first_fds count) except)
all_counted count (Err error) write except = refl
all_counted count (Ok read) (Err error) except = refl
all_counted count (Ok read) (Ok write) (Err error) = refl
all_counted count (Ok read) (Ok write) (Ok except) = refl

both_all : (read write except : Given (List ℕ)) → native.all_sets read write except ≡ if_all read write except
both_all (Err error) write except = refl
both_all (Ok read) (Err error) except = refl
both_all (Ok read) (Ok write) (Err error) = refl
both_all (Ok read) (Ok write) (Ok except) = refl

-- the native sets and the program's
pub sets_same : (count : ℕ) (read write except reads writes excepts : Given (List ℕ))
    → read_as (first_fds count) reads ≡ read_as (first_fds count) read → read_as (first_fds count) writes ≡ read_as (first_fds count) write
    → read_as (first_fds count) excepts ≡ read_as (first_fds count) except
    → read_as (counted_sets count) (native.all_sets reads writes excepts) ≡ read_as (counted_sets count) (if_all read write except)
sets_same count read write except reads writes excepts one two three =
    ap (read_as (counted_sets count)) (both_all reads writes excepts)
    ∙ all_counted count reads writes excepts
    ∙ ap (λ (fds : Given (List ℕ)). if_all fds (read_as (first_fds count) writes) (read_as (first_fds count) excepts)) one
    ∙ ap (λ (fds : Given (List ℕ)). if_all (read_as (first_fds count) read) fds (read_as (first_fds count) excepts)) two
    ∙ ap (λ (fds : Given (List ℕ)). if_all (read_as (first_fds count) read) (read_as (first_fds count) write) fds) three
    ∙ sym (all_counted count read write except)

-- What it comes to

-- descriptors that rise, below a number
pub record Rises (count : ℕ) (fds : List ℕ) : Type 0 where
  pub test : ℕ → Bool
  pub is : fds ≡ filter test (count_up 0 count)

pub record SetsRise (count : ℕ) (sets : Sets) : Type 0 where
  pub read : Rises count sets.read
  pub write : Rises count sets.write
  pub except : Rises count sets.except

rises_less : (count : ℕ) (fds : List ℕ) (test : ℕ → Bool) → Rises count fds → Rises count (filter test fds)
rises_less count fds test rises = record {
  test = λ fd. rises.test fd && test fd;
  is = ap (filter test) rises.is ∙ filter_twice rises.test test (count_up 0 count);
}

rises_none : (count : ℕ) → Rises count []
rises_none count = record { test = λ fd. false; is = sym (filter_none (λ fd. false) (count_up 0 count) (λ fd. refl)) }

ready_rises : (files : Files) (count : ℕ) (sets : Sets) → SetsRise count sets → SetsRise count (ready_sets files sets)
ready_rises files count sets rise = record {
  read = rises_less count sets.read (λ fd. is_read_ready (ready files fd)) rise.read;
  write = rises_less count sets.write (λ fd. is_write_ready (ready files fd)) rise.write;
  except = rises_none count;
}

-- found, refused, or a wait that has done nothing yet
abbrev pub CameWell : ℕ → Came Sets → Type 0
CameWell count (Done sets) = SetsRise count sets
CameWell count (Refused error) = Unit
CameWell count (Waits wake) = wake.done ≡ 0

pub record DidWell (kernel : Kernel) (count : ℕ) (did : Did Kernel Sets) : Type 0 where
  pub stays : did.state ≡ kernel
  pub came : CameWell count did.came

waits_well : (kernel : Kernel) (count : ℕ) (until : Option ℕ) (sets : Sets) → SetsRise count sets → DidWell kernel count (waits_until kernel until (done kernel sets))
waits_well kernel count None sets rise = record { stays = refl; came = refl }
waits_well kernel count (Some until) sets rise = by (nat_le until kernel.clock) where
  by : (b : Bool) → DidWell kernel count (if b then done kernel sets else record { state = kernel; came = Waits (record { done = 0; until = Some until }) })
  by true = record { stays = refl; came = rise }
  by false = record { stays = refl; came = refl }

ready_well : (kernel : Kernel) (count : ℕ) (wait : Option ℕ) (sets : Sets) → SetsRise count sets → DidWell kernel count (select_ready kernel wait sets)
ready_well kernel count wait sets rise = by (nat_lt 0 (set_count sets)) where
  by : (b : Bool) → DidWell kernel count (if b then done kernel sets else waits_until kernel (deadline kernel wait) (done kernel sets))
  by true = record { stays = refl; came = rise }
  by false = waits_well kernel count (deadline kernel wait) sets rise

if_well : (kernel : Kernel) (count : ℕ) (wrong : Bool) (did : Did Kernel Sets) → DidWell kernel count did → DidWell kernel count (refused_if wrong EBADF kernel did)
if_well kernel count true did well = record { stays = refl; came = tt }
if_well kernel count false did well = well

of_well : (kernel : Kernel) (count : ℕ) (wait : Option ℕ) (sets : Sets) → SetsRise count sets → DidWell kernel count (select_of kernel wait sets)
of_well kernel count wait sets rise =
    if_well kernel count (names_any_closed kernel.files sets) (select_ready kernel wait (ready_sets kernel.files sets))
    (ready_well kernel count wait (ready_sets kernel.files sets) (ready_rises kernel.files count sets rise))

given_well : (kernel : Kernel) (count : ℕ) (wait : Option ℕ) (sets : Given Sets) → ((found : Sets) → sets ≡ Ok found → SetsRise count found)
    → DidWell kernel count (with_given kernel sets (λ sets. select_of kernel wait sets))
given_well kernel count wait (Err error) rise = record { stays = refl; came = tt }
given_well kernel count wait (Ok sets) rise = of_well kernel count wait sets (rise sets refl)

checked_well : (kernel : Kernel) (count : ℕ) (wrong : Bool) (did : Did Kernel Sets) → DidWell kernel count did → DidWell kernel count (refused_if wrong EINVAL kernel did)
checked_well kernel count true did well = record { stays = refl; came = tt }
checked_well kernel count false did well = well

select_well : (kernel : Kernel) (wait : Given (Option ℕ)) (count : ℤ) (sets : Given Sets)
    → ((found : Sets) → read_as (counted_sets (counted_fds count)) sets ≡ Ok found → SetsRise (counted_fds count) found)
    → DidWell kernel (counted_fds count) (select kernel wait count sets)
select_well kernel wait count sets rise = subst (DidWell kernel (counted_fds count)) (sym (by_counted kernel wait count sets)) (by wait) where
  by : (wait : Given (Option ℕ)) → DidWell kernel (counted_fds count) (with_given kernel wait (λ wait. checked kernel count wait (read_as (counted_sets (counted_fds count)) sets)))
  by (Err error) = record { stays = refl; came = tt }
  by (Ok wait) =
      checked_well kernel (counted_fds count) (int_lt count (pos 0)) _
      (given_well kernel (counted_fds count) wait (read_as (counted_sets (counted_fds count)) sets) rise)

-- Sets in the program's memory

enough_words : (count : ℤ) → counted_fds count ≤ 32 * word_count count
enough_words count = omega arith

fds_rise : (memory : Memory) (count : ℤ) (address : ℕ) (fds : List ℕ) → read_as (first_fds (counted_fds count)) (fds_at memory (word_count count) address) ≡ Ok fds → Rises (counted_fds count) fds
fds_rise memory count address fds is = by (address == 0) (structure memory address (4 * word_count count)) is where
  by : (null : Bool) (bytes : Given (List ℕ)) → read_as (first_fds (counted_fds count)) (if null then Ok [] else read_as (fds_in (word_count count)) bytes) ≡ Ok fds → Rises (counted_fds count) fds
  by true bytes e = subst (Rises (counted_fds count)) (let same : [] ≡ fds = cc in same) (rises_none (counted_fds count))
  by false (Err error) e = absurd cc
  by false (Ok bytes) e =
      record {
        test = holds_fd bytes;
        is =
            (let same : fds ≡ first_fds (counted_fds count) (fds_in (word_count count) bytes) = cc in same)
            ∙ ap (first_fds (counted_fds count)) (below_is bytes (32 * word_count count))
            ∙ first_of_more (holds_fd bytes) (counted_fds count) (32 * word_count count) (enough_words count);
      }

all_rise : (count : ℕ) (read write except : Given (List ℕ)) (found : Sets) → ((fds : List ℕ) → read ≡ Ok fds → Rises count fds) → ((fds : List ℕ) → write ≡ Ok fds → Rises count fds)
    → ((fds : List ℕ) → except ≡ Ok fds → Rises count fds) → if_all read write except ≡ Ok found → SetsRise count found
all_rise count (Err error) write except found one two three is = absurd cc
all_rise count (Ok read) (Err error) except found one two three is = absurd cc
all_rise count (Ok read) (Ok write) (Err error) found one two three is = absurd cc
all_rise count (Ok read) (Ok write) (Ok except) found one two three is =
    subst (SetsRise count) (let same : record { read = read; write = write; except = except } ≡ found = cc in same)
    (record { read = one read refl; write = two write refl; except = three except refl })

pub program_well : (kernel : Kernel) (wait : Given (Option ℕ)) (memory : Memory) (asked : Asked) → DidWell kernel (counted_fds asked.count) (select kernel wait asked.count (sets_at memory asked))
program_well kernel wait memory asked =
    let n : ℕ = counted_fds asked.count in
    let fds = λ (address : ℕ). fds_at memory (word_count asked.count) address in
    select_well kernel wait asked.count (sets_at memory asked)
    (λ found is. all_rise n (read_as (first_fds n) (fds asked.read)) (read_as (first_fds n) (fds asked.write)) (read_as (first_fds n) (fds asked.except)) found
    (fds_rise memory asked.count asked.read) (fds_rise memory asked.count asked.write) (fds_rise memory asked.count asked.except)
    (sym (all_counted n (fds asked.read) (fds asked.write) (fds asked.except)) ∙ is))
