-- Which descriptors are ready, and waiting for that (poll(2), select(2)).
use Rattle.std.specs.Prelude.{ℕ, ◌+◌, ◌*◌, ◌==◌, min, ℤ, pos, nat_abs, int_lt, Bool, true, false, ◌&&◌, ◌||◌, not, List, [], length, map, filter, Option, Some, None, is_none, nat_lt, nat_le, if◌then◌else◌}
use Rattle.std.specs.Prelude.{Ok, Err}
use Rattle.std.specs.List.{list_any}
use Rattle.kernel_core.specs.declared.error.Errno.TheVariants.{EBADF, EINVAL}
use Rattle.kernel_model.specs.Came.{Did, Given, done, refused_if, with_given}
use Rattle.kernel_model.specs.Clock.{second, microsecond, deadline, waits_until}
use Rattle.kernel_model.specs.Descriptions.{opened, reads, writes}
use Rattle.kernel_model.specs.Pipes.{pipe_at, room, whole_write}
use Rattle.kernel_model.specs.Shared.{PollSet}
use Rattle.kernel_model.specs.SignalRows.{set_size}
use Rattle.kernel_model.specs.SignalSets.{SignalSet}
use Rattle.kernel_model.specs.State.{Kernel, Files, Pipe}
use Rattle.kernel_model.specs.declared.descriptor.Description.{Description}
use Rattle.kernel_model.specs.declared.descriptor.Object.{Object}
use Rattle.kernel_model.specs.declared.descriptor.Object.TheVariants as objects
use Rattle.kernel_model.specs.declared.time.TimeVal.{TimeVal}

-- Readiness

abbrev pub no_events : PollSet
no_events = record {
  input = false;
  pri = false;
  output = false;
  err = false;
  hup = false;
  nval = false;
  rdnorm = false;
  rdband = false;
  wrnorm = false;
  wrband = false;
}

-- ready for reading, for writing
abbrev pub ready_for : Bool → Bool → PollSet
ready_for reading writing = record no_events { input = reading; rdnorm = reading; output = writing; wrnorm = writing }

-- a read end: ready with bytes, and hung up without writers
abbrev pub read_end_ready : Option Pipe → PollSet
read_end_ready None = no_events
read_end_ready (Some pipe) = record (ready_for (not (length pipe.bytes == 0)) false) { hup = not pipe.writers }

-- a write end: ready with readers and room for a write that goes whole, and in error without readers
abbrev pub write_end_ready : Option Pipe → PollSet
write_end_ready None = no_events
write_end_ready (Some pipe) = record (ready_for false (pipe.readers && nat_le whole_write (room pipe))) { err = not pipe.readers }

-- a stream is ready as its access mode says, and a node both ways
abbrev pub object_ready : Files → Description → Object → PollSet
object_ready files description (objects.Stream stream) = ready_for (reads description.flags.access) (writes description.flags.access)
object_ready files description (objects.ReadEnd pipe) = read_end_ready (pipe_at files.flow pipe)
object_ready files description (objects.WriteEnd pipe) = write_end_ready (pipe_at files.flow pipe)
object_ready files description (objects.Node node) = ready_for true true

abbrev pub ready_of : Files → Option Description → PollSet
ready_of files None = record no_events { nval = true }
ready_of files (Some description) = object_ready files description description.object

-- what a descriptor is ready for
unfoldable pub ready : Files → ℕ → PollSet
ready files fd = ready_of files (opened files fd)

-- poll

-- an entry: a descriptor, which is none where its number is negative, and the events that are asked for
pub record PollEntry : Type 0 where
  pub fd : Option ℕ
  pub events : PollSet

-- those of the events that are there that are asked for; error, hang-up and a closed descriptor are told unasked
abbrev pub told : PollSet → PollSet → PollSet
told asked there = record {
  input = asked.input && there.input;
  pri = asked.pri && there.pri;
  output = asked.output && there.output;
  err = there.err;
  hup = there.hup;
  nval = there.nval;
  rdnorm = asked.rdnorm && there.rdnorm;
  rdband = asked.rdband && there.rdband;
  wrnorm = asked.wrnorm && there.wrnorm;
  wrband = asked.wrband && there.wrband;
}

abbrev pub is_any : PollSet → Bool
is_any events =
    events.input || events.pri || events.output || events.err || events.hup || events.nval || events.rdnorm || events.rdband
    || events.wrnorm || events.wrband

-- what is told of an entry; one that is skipped is told nothing
abbrev pub told_at : Files → PollSet → Option ℕ → PollSet
told_at files asked None = no_events
told_at files asked (Some fd) = told asked (ready files fd)

abbrev pub returned : Files → List PollEntry → List PollSet
returned files entries = map (λ e. told_at files e.events e.fd) entries

abbrev pub entry_limit : ℕ
entry_limit = 1024

-- The events of each entry, at once where there are any; else it waits, and gives them when the time is over. `wait` is how long, or
-- without end, or what was wrong with the time or the mask.
abbrev pub poll_ready : Kernel → Option ℕ → List PollSet → Did Kernel (List PollSet)
poll_ready kernel wait events =
    if list_any is_any events then done kernel events else waits_until kernel (deadline kernel wait) (done kernel events)

-- poll(2), ppoll(2) of `count` entries: so many does the list have that was read
unfoldable pub poll : Kernel → Given (Option ℕ) → ℕ → Given (List PollEntry) → Did Kernel (List PollSet)
poll kernel wait count entries =
    with_given kernel wait (λ wait.
    refused_if (nat_lt entry_limit count) EINVAL kernel (
    with_given kernel entries (λ entries.
    poll_ready kernel wait (returned kernel.files entries))))

-- select

-- the three sets, each the descriptors that it names, rising
pub record Sets : Type 0 where
  pub read : List ℕ
  pub write : List ℕ
  pub except : List ℕ

abbrev pub names_closed : Files → List ℕ → Bool
names_closed files fds = list_any (λ fd. is_none (opened files fd)) fds

abbrev pub names_any_closed : Files → Sets → Bool
names_any_closed files sets = names_closed files sets.read || names_closed files sets.write || names_closed files sets.except

abbrev pub is_read_ready : PollSet → Bool
is_read_ready events = events.input || events.hup || events.err

abbrev pub is_write_ready : PollSet → Bool
is_write_ready events = events.output || events.err

-- there are no exceptions
abbrev pub ready_sets : Files → Sets → Sets
ready_sets files sets = record {
  read = filter (λ fd. is_read_ready (ready files fd)) sets.read;
  write = filter (λ fd. is_write_ready (ready files fd)) sets.write;
  except = [];
}

-- how many bits are set in all
abbrev pub set_count : Sets → ℕ
set_count sets = length sets.read + length sets.write + length sets.except

-- how many descriptors the sets are about: a count above 1024 counts as that
abbrev pub counted_fds : ℤ → ℕ
counted_fds count = min (nat_abs count) 1024

-- the sets without the descriptors that are not counted

abbrev pub first_fds : ℕ → List ℕ → List ℕ
first_fds count fds = filter (λ fd. nat_lt fd count) fds

abbrev pub counted_sets : ℕ → Sets → Sets
counted_sets count sets = record { read = first_fds count sets.read; write = first_fds count sets.write; except = first_fds count sets.except }

abbrev pub select_ready : Kernel → Option ℕ → Sets → Did Kernel Sets
select_ready kernel wait sets =
    if nat_lt 0 (set_count sets) then done kernel sets else waits_until kernel (deadline kernel wait) (done kernel sets)

abbrev pub select_of : Kernel → Option ℕ → Sets → Did Kernel Sets
select_of kernel wait sets =
    refused_if (names_any_closed kernel.files sets) EBADF kernel (
    select_ready kernel wait (ready_sets kernel.files sets))

-- select(2), pselect(2): of each set the first `counted_fds` descriptors count
unfoldable pub select : Kernel → Given (Option ℕ) → ℤ → Given Sets → Did Kernel Sets
select kernel wait count sets =
    with_given kernel wait (λ wait.
    refused_if (int_lt count (pos 0)) EINVAL kernel (
    with_given kernel sets (λ sets.
    select_of kernel wait (counted_sets (counted_fds count) sets))))

-- How long they wait

-- poll(2): milliseconds, and no end where they are below 0
abbrev pub poll_wait : ℤ → Given (Option ℕ)
poll_wait milliseconds = Ok (if int_lt milliseconds (pos 0) then None else Some (nat_abs milliseconds * (1000 * microsecond)))

-- select(2): microseconds from 1,000,000 on carry into the seconds
abbrev pub select_length : TimeVal → Given ℕ
select_length time =
    if int_lt time.seconds (pos 0) || int_lt time.microseconds (pos 0) then Err EINVAL
    else Ok (nat_abs time.seconds * second + nat_abs time.microseconds * microsecond)

abbrev pub mask_error : {A : Type 0} → ℕ → Given A → Option (Given SignalSet) → Given A
mask_error size wait None = wait
mask_error size wait (Some (Ok mask)) = if size == set_size then wait else Err EINVAL
mask_error size wait (Some (Err error)) = if size == set_size then Err error else Err EINVAL

-- ppoll(2) and pselect(2): the time is looked at, and then, where there is a mask, its size, which is 16 bytes, and whether it can be read
abbrev pub masked_wait : {A : Type 0} → Given A → ℕ → Option (Given SignalSet) → Given A
masked_wait (Err error) size mask = Err error
masked_wait (Ok wait) size mask = mask_error size (Ok wait) mask
