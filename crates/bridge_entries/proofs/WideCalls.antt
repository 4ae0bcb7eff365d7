-- getdents64(2) of an o32 program as the native one, whose records are shown as the program's.
use Rattle.std.proofs.Common.{◌≡◌, ◌⊎◌, ℕ, ◌+◌, ◌-◌, ◌<◌, ◌≤◌, ◌%◌, ◌^◌, Bool, true, false, List, [], ◌∷◌, length, replicate, None, Some, Option, refl, sym, ap, subst, ◌∙◌, inl, inr, arith, Result, Ok, Err, IsErr}
use Rattle.std.specs.List.{flat_map}
use Rattle.std.specs.Prelude.{◌||◌, nat_lt, sum_by, if◌then◌else◌}
use Rattle.std.proofs.lemmas.Bool.Decides.{nat_tests}
use Rattle.std.proofs.lemmas.List.{length-replicate}
use Rattle.std.proofs.lemmas.List.Concat.{length-flat_map}
use Rattle.std.proofs.lemmas.List.Sums.{sum_by-cons}
use Rattle.guest_space.specs.Access.{first_denied, writable_prefix}
use Rattle.guest_space.specs.Bytes.{copied_out}
use Rattle.guest_space.specs.Memory.{Memory}
use Rattle.guest_space.specs.declared.access.Access.TheVariants.{Store}
use Rattle.host_mem.specs.Memory.{first_address, written}
use Rattle.kernel_core.specs.FileSystem.{IsFileSystem}
use Rattle.kernel_core.specs.declared.core_error.Stop.{Stop}
use Rattle.kernel_core.specs.declared.error.Errno.{Errno}
use Rattle.kernel_core.specs.declared.error.Errno.TheVariants.{EFAULT}
use Rattle.kernel_core.specs.declared.reply.Reply.{Reply}
use Rattle.kernel_model.specs.Came.{Came, Done, Refused, Waits, Did, came_as, done, refused_by, refused_if, told_as}
use Rattle.kernel_model.specs.ContentRows.{Entry, entries, entries_refusal, fitting, position_after, record_length}
use Rattle.kernel_model.specs.Pipes.{nothing}
use Rattle.kernel_model.specs.State.{Kernel, Files}
use Rattle.kernel_model.specs.Transfers.{moved_to}
use Rattle.mips_exec.specs.Processor.{Processor}
use Rattle.native_calls.specs.Answered as native_answered
use Rattle.native_calls.specs.History.{moment, opening}
use Rattle.native_calls.specs.HostBytes as host
use Rattle.native_calls.specs.Status as native
use Rattle.native_calls.specs.Status.{entry_bytes, entry_records}
use Rattle.native_calls.specs.Step as native_step
use Rattle.native_calls.specs.Step.{NativeStep}
use Rattle.native_calls.specs.Table.{native_call}
use Rattle.o32_model.specs.Answered as o32
use Rattle.o32_model.specs.Effects.{Effected}
use Rattle.o32_model.specs.Entries.{entry64_form, getdents_row}
use Rattle.o32_model.specs.GuestBytes.{with_stored}
use Rattle.o32_model.specs.Logs.{Kept}
use Rattle.o32_model.specs.Step as o32_step
use Rattle.o32_model.specs.Step.{Guest, O32Step}
use Rattle.o32_model.specs.declared.call_words.CallWords.{CallWords}
use Rattle.o32_model.specs.declared.outcome.Outcome.{Outcome}
use Rattle.outside.specs.Streams.{Contents}
use Rattle.bridge_log.proofs.Ends.{Alike, called_alike, keeps}
use Rattle.bridge_log.proofs.Filling.{back_is, given, stored_is}
use Rattle.bridge_log.proofs.Replies.{outcome_of_bytes}
use Rattle.bridge_log.specs.Bounds.{Bounded}
use Rattle.bridge_log.specs.Fills.{bytes_back}
use Rattle.bridge_log.specs.Keeping.{Logged, Keeps, reached}
use Rattle.bridge_log.specs.Outcomes.{outcome_of}
use Rattle.bridge_entries.proofs.EntriesFound.{Gives, Refuses, found_at, fitting_listed, listed_from_0}
use Rattle.bridge_entries.proofs.RecordLemmas.{length-entry, length-wide}
use Rattle.bridge_entries.specs.declared.records.Form.TheVariants.{Wide}
use Rattle.bridge_entries.specs.declared.showing.Shown.{Shown}
use Rattle.bridge_entries.specs.inside.Given.{AreListed}
use Rattle.bridge_entries.specs.inside.Listed.{did_of, listed_of}
use Rattle.bridge_entries.specs.inside.Showing.{IsShown}

-- What a row gives

abbrev room_of : List Entry → ℕ
room_of found = sum_by (record_length entry_records) found

-- entries as a file system has them, whose records have room
pub record Fits (room : ℕ) (found : List Entry) : Type 0 where
  pub listed : AreListed 0 found
  pub short : room_of found ≤ room

fits_none : (room : ℕ) → Fits room []
fits_none room = record { listed = tt; short = omega arith }

pub fits_of : (room : ℕ) (came : Came (List Entry)) → Bounded (Fits room) came → Fits room (listed_of came)
fits_of room (Done found) fits = fits
fits_of room (Refused error) fits = fits_none room
fits_of room (Waits wake) fits = fits_none room

fits_by : (files after : Files) (found : List Entry) (refusal : Option Errno) (room position : ℕ) (long : Bool) → nat_lt room (room_of found) ≡ long → AreListed position found
    → Bounded (Fits room) (refused_by refusal files (refused_if long EFAULT files (done after found))).came
fits_by files after found None room position true is listed = tt
fits_by files after found None room position false is listed = record { listed = listed_from_0 position found listed; short = grind (arith, nat_tests) }
fits_by files after found (Some error) room position long is listed = tt

pub row_fits : (files : Files) (fd size room : ℕ) → IsFileSystem files.nodes → Bounded (Fits room) (entries files fd entry_records size room).came
row_fits files fd size room valid = by (found_at files fd valid) where
  by : Refuses files fd ⊎ Gives files fd → Bounded (Fits room) (entries files fd entry_records size room).came
  by (inl r) = subst (λ (d : Did Files (List Entry)). Bounded (Fits room) d.came) (sym (r.refuses entry_records size room)) tt
  by (inr g) = subst (λ (d : Did Files (List Entry)). Bounded (Fits room) d.came) (sym (g.gives entry_records size room))
      (fits_by files (moved_to files fd g.description (position_after g.description.position (fitting entry_records size g.behind))) (fitting entry_records size g.behind) (entries_refusal entry_records size g.behind) room g.description.position _ refl
      (fitting_listed entry_records size g.description.position g.behind g.listed))

-- Both calls, by what the row did

length_native : (found : List Entry) → length (flat_map entry_bytes found) ≡ room_of found
length_native found = length-flat_map entry_bytes found ∙ (λ i. sum_by (λ (entry : Entry). length-entry entry i) found)

length_shown : (found : List Entry) → length (flat_map entry64_form.bytes found) ≡ room_of found
length_shown found = length-flat_map entry64_form.bytes found ∙ (λ i. sum_by (λ (entry : Entry). length-wide entry i) found)

pub native_fits : (room : ℕ) (came : Came (List Entry)) → Bounded (Fits room) came → Bounded (λ (bytes : List ℕ). length bytes ≤ room) (came_as (flat_map entry_bytes) came)
native_fits room (Done found) fits = let long = length_native found in let short = fits.short in omega (arith, long, short)
native_fits room (Refused error) fits = tt
native_fits room (Waits wake) fits = fits

wide_fits : (room : ℕ) (came : Came (List Entry)) → Bounded (Fits room) came → Bounded (λ (bytes : List ℕ). length bytes ≤ room) (came_as (flat_map entry64_form.bytes) came)
wide_fits room (Done found) fits = let long = length_shown found in let short = fits.short in omega (arith, long, short)
wide_fits room (Refused error) fits = tt
wide_fits room (Waits wake) fits = fits

pub given_is : (bytes : Entry → List ℕ) (came : Came (List Entry)) → given (came_as (flat_map bytes) came) ≡ flat_map bytes (listed_of came)
given_is bytes (Done found) = refl
given_is bytes (Refused error) = refl
given_is bytes (Waits wake) = refl

not_long : (size first more : ℕ) → first + more ≤ size → nat_lt size first ≡ false
not_long size first more short = grind (arith, nat_tests)

less_left : (size first more : ℕ) → first + more ≤ size → more ≤ size - first
less_left size first more short = omega arith

-- entries whose records all have room are all shown
fits_all : (size : ℕ) (found : List Entry) → room_of found ≤ size → fitting entry_records size found ≡ found
fits_all size [] short = refl
fits_all size (entry ∷ found) short =
    let sum : room_of (entry ∷ found) ≡ record_length entry_records entry + room_of found = sum_by-cons (record_length entry_records) entry found in
    let both : record_length entry_records entry + room_of found ≤ size = subst (λ (n : ℕ). n ≤ size) sum short in
    let no : nat_lt size (record_length entry_records entry) ≡ false = not_long size (record_length entry_records entry) (room_of found) both in
    ap (λ (b : Bool). if b || false then [] else entry ∷ fitting entry_records (size - record_length entry_records entry) found) no
    ∙ ap (λ (l : List Entry). entry ∷ l) (fits_all (size - record_length entry_records entry) found (less_left size (record_length entry_records entry) (room_of found) both))

same_outcome : (words : CallWords) (came : Came (List Entry))
    → o32_step.outcome_of (λ (bytes : List ℕ). o32_step.value (length bytes)) words (came_as (flat_map entry_bytes) came)
    ≡ o32_step.outcome_of (λ (bytes : List ℕ). o32_step.value (length bytes)) words (came_as (flat_map entry64_form.bytes) came)
same_outcome words (Done found) = ap o32_step.value (length_native found ∙ sym (length_shown found))
same_outcome words (Refused error) = refl
same_outcome words (Waits wake) = refl

abbrev pub native_lists : List ℕ → List ℕ → Did Kernel (List Entry) → NativeStep
native_lists room left did = native_step.fills (written room first_address) room (told_as (flat_map entry_bytes) did) left

-- what the native call put into host memory are the entries' records
pub listed_back : (room left : List ℕ) (did : Did Kernel (List Entry)) → Bounded (Fits (length room)) did.came → bytes_back (native_lists room left did).memory (native_lists room left did).reply ≡ flat_map entry_bytes (listed_of did.came)
listed_back room left did fits = back_is room (came_as (flat_map entry_bytes) did.came) (native_fits (length room) did.came fits) ∙ given_is entry_bytes did.came

module _ (guest : Guest) (buffer : ℕ) (room left : List ℕ) (did : Did Kernel (List Entry)) where
  abbrev pub program_lists : O32Step
  program_lists = o32_step.fills (copied_out guest.memory buffer) guest (told_as (flat_map entry64_form.bytes) did) left

  pub lists_alike : Alike (native_lists room left did) program_lists
  lists_alike = record { kernel = refl; left = refl; sent = refl }

  module _ (fits : Bounded (Fits (length room)) did.came) (reply : Reply) (became : Kernel) (after : List ℕ) (from to : Contents) (called : native_answered.Called (native_lists room left did) reply became after from to) where
    -- what the native call gave are the entries' records
    pub given_back : bytes_back after reply ≡ flat_map entry_bytes (listed_of did.came)
    given_back =
        ap (λ (m : List ℕ). bytes_back m reply) called.stored ∙ ap (bytes_back (native_lists room left did).memory) called.answered
        ∙ back_is room (came_as (flat_map entry_bytes) did.came) (native_fits (length room) did.came fits) ∙ given_is entry_bytes did.came

    module _ (shown : Shown) (is : (found : List Entry) → AreListed 0 found → bytes_back after reply ≡ flat_map entry_bytes found → IsShown Wide (length room) 0 found shown) where
      shown_is : shown.bytes.items ≡ flat_map entry64_form.bytes (listed_of did.came)
      shown_is =
          let all = fits_of (length room) did.came fits in
          (is (listed_of did.came) all.listed given_back).bytes ∙ ap (flat_map entry64_form.bytes) (fits_all (length room) (listed_of did.came) all.short)

      module _ (old new : Memory) (same : guest.memory ≡ old) (free : (k : ℕ) → k ≤ length room → first_denied Store old.pages buffer k ≡ None) (stored : new ≡ with_stored old buffer shown.bytes.items) where
        pub lists_memory : new ≡ program_lists.memory
        lists_memory =
            stored ∙ ap (with_stored old buffer) (shown_is ∙ sym (given_is entry64_form.bytes did.came))
            ∙ stored_is old buffer (length room) (came_as (flat_map entry64_form.bytes) did.came) (wide_fits (length room) did.came fits) free
            ∙ ap (λ (m : Memory). o32_step.memory_after (copied_out m buffer) m (came_as (flat_map entry64_form.bytes) did.came)) (sym same)

        pub lists_called : (outcome : Outcome) → length room < 2 ^ 32 → outcome ≡ outcome_of guest.words reply → o32.Called program_lists outcome became new guest.processor from to
        lists_called outcome short came =
            called_alike lists_alike called
            (came ∙ ap (outcome_of guest.words) called.answered
            ∙ outcome_of_bytes guest.words (length room) (came_as (flat_map entry_bytes) did.came) short (native_fits (length room) did.came fits)
            ∙ same_outcome guest.words did.came)
            lists_memory refl

        pub lists_keeps : (kernel : Kernel) (before kept : Kept) → Logged before.native kept.native (opening kernel left) (moment (native_lists room left did).kernel (native_lists room left did).left (native_lists room left did).sent)
            → Effected before.effects kept.effects (reached guest.processor old.pages nothing) (reached guest.processor new.pages nothing)
            → Keeps program_lists kernel left guest before kept
        lists_keeps kernel before kept logged effected =
            keeps lists_alike logged
            (subst (λ (m : Memory). Effected before.effects kept.effects (reached guest.processor m.pages nothing) (reached guest.processor program_lists.memory.pages nothing)) (sym same)
            (subst (λ (m : Memory). Effected before.effects kept.effects (reached guest.processor old.pages nothing) (reached guest.processor m.pages nothing)) lists_memory effected))

-- The calls

room_is : (room count : ℕ) → room ≤ count → host.accessible (replicate room 0) first_address count ≡ room
room_is room count less = grind (arith, nat_tests, length-replicate {A = ℕ} room 0)

low_same : (number : ℕ) → number < 2 ^ 32 → number % 2 ^ 32 ≡ number
low_same number fits = omega arith

pub native_is : (kernel : Kernel) (left : List ℕ) (first third fd size room : ℕ) → first ≡ fd → third ≡ size → fd < 2 ^ 32 → size < 2 ^ 32 → room ≤ size
    → native_call 61 (first ∷ 65536 ∷ third ∷ 0 ∷ 0 ∷ 0 ∷ []) kernel (replicate room 0) left ≡ native_lists (replicate room 0) left (did_of kernel fd size room)
unfolding native.getdents_row
native_is kernel left first third fd size room first_is third_is fd_fits size_fits less =
    let e1 : first % 2 ^ 32 ≡ fd = ap (λ (n : ℕ). n % 2 ^ 32) first_is ∙ low_same fd fd_fits in
    let e3 : third % 2 ^ 32 ≡ size = ap (λ (n : ℕ). n % 2 ^ 32) third_is ∙ low_same size size_fits in
    ap (λ (d : Did Kernel (List Entry)). native_lists (replicate room 0) left d)
    (ap (λ (n : ℕ). did_of kernel n (third % 2 ^ 32) (host.accessible (replicate room 0) 65536 (third % 2 ^ 32))) e1
    ∙ ap (λ (n : ℕ). did_of kernel fd n (host.accessible (replicate room 0) 65536 n)) e3
    ∙ ap (λ (n : ℕ). did_of kernel fd size n) (room_is room size less))

pub program_is : (guest : Guest) (buffer : ℕ) (kernel : Kernel) (left : List ℕ) (fd size : ℕ) (room : List ℕ)
    → getdents_row entry64_form kernel guest fd buffer size left ≡ program_lists guest buffer room left (did_of kernel fd size (writable_prefix guest.memory.pages buffer size))
unfolding getdents_row
program_is guest buffer kernel left fd size room = refl

-- What is known where the call is made: `room` is host memory, `old` the program's memory
pub record Asks (guest : Guest) (kernel : Kernel) (fd buffer size first third w : ℕ) (room : List ℕ) (old : Memory) : Type 0 where
  pub same : guest.memory ≡ old
  pub zeros : room ≡ replicate w 0
  pub count : w ≡ writable_prefix old.pages buffer size
  pub less : w ≤ size
  pub free : (k : ℕ) → k ≤ w → first_denied Store old.pages buffer k ≡ None
  pub first_is : first ≡ fd
  pub third_is : third ≡ size
  pub fd_fits : fd < 2 ^ 32
  pub size_fits : size < 2 ^ 32
  pub valid : IsFileSystem kernel.files.nodes

module _ (guest : Guest) (kernel : Kernel) (fd buffer size first third w : ℕ) (room : List ℕ) (old : Memory) (asks : Asks guest kernel fd buffer size first third w room old) (left : List ℕ) where
  abbrev zeros : List ℕ
  zeros = replicate w 0

  abbrev did : Did Kernel (List Entry)
  did = did_of kernel fd size w

  abbrev pub native_of : NativeStep
  native_of = native_call 61 (first ∷ 65536 ∷ third ∷ 0 ∷ 0 ∷ 0 ∷ []) kernel room left

  abbrev pub row_of : O32Step
  row_of = getdents_row entry64_form kernel guest fd buffer size left

  native_lists_is : native_of ≡ native_lists zeros left did
  native_lists_is =
      ap (λ (m : List ℕ). native_call 61 (first ∷ 65536 ∷ third ∷ 0 ∷ 0 ∷ 0 ∷ []) kernel m left) asks.zeros
      ∙ native_is kernel left first third fd size w asks.first_is asks.third_is asks.fd_fits asks.size_fits asks.less

  row_lists_is : row_of ≡ program_lists guest buffer zeros left did
  row_lists_is =
      program_is guest buffer kernel left fd size zeros
      ∙ ap (λ (n : ℕ). program_lists guest buffer zeros left (did_of kernel fd size n)) (ap (λ (m : Memory). writable_prefix m.pages buffer size) asks.same ∙ sym asks.count)

  long : length zeros ≡ w
  long = length-replicate {A = ℕ} w 0

  fits : Bounded (Fits (length zeros)) did.came
  fits = subst (λ (n : ℕ). Bounded (Fits n) did.came) (sym long) (row_fits kernel.files fd size w asks.valid)

  pub wide_alike : Alike native_of row_of
  wide_alike =
      subst (λ (s : NativeStep). Alike s row_of) (sym native_lists_is)
      (subst (λ (s : O32Step). Alike (native_lists zeros left did) s) (sym row_lists_is) (lists_alike guest buffer zeros left did))

  module _ (reply : Reply) (became : Kernel) (after : List ℕ) (from to : Contents) (called : native_answered.Called native_of reply became after from to)
      (shown : Shown) (is : (found : List Entry) → AreListed 0 found → bytes_back after reply ≡ flat_map entry_bytes found → IsShown Wide w 0 found shown)
      (new : Memory) (stored : new ≡ with_stored old buffer shown.bytes.items) where
    called_there : native_answered.Called (native_lists zeros left did) reply became after from to
    called_there = subst (λ (s : NativeStep). native_answered.Called s reply became after from to) native_lists_is called

    is_there : (found : List Entry) → AreListed 0 found → bytes_back after reply ≡ flat_map entry_bytes found → IsShown Wide (length zeros) 0 found shown
    is_there found listed back = subst (λ (n : ℕ). IsShown Wide n 0 found shown) (sym long) (is found listed back)

    free_there : (k : ℕ) → k ≤ length zeros → first_denied Store old.pages buffer k ≡ None
    free_there k within = asks.free k (omega (arith, long, within))

    pub wide_called : (outcome : Outcome) → outcome ≡ outcome_of guest.words reply → o32.Called row_of outcome became new guest.processor from to
    wide_called outcome came =
        let short : length zeros < 2 ^ 32 = let less = asks.less in let fits32 = asks.size_fits in omega (arith, long, less, fits32) in
        subst (λ (s : O32Step). o32.Called s outcome became new guest.processor from to) (sym row_lists_is)
        (lists_called guest buffer zeros left did fits reply became after from to called_there shown is_there old new asks.same free_there stored outcome short came)

    pub wide_keeps : (before kept : Kept) → Logged before.native kept.native (opening kernel left) (moment native_of.kernel native_of.left native_of.sent)
        → Effected before.effects kept.effects (reached guest.processor old.pages nothing) (reached guest.processor new.pages nothing)
        → Keeps row_of kernel left guest before kept
    wide_keeps before kept logged effected =
        subst (λ (s : O32Step). Keeps s kernel left guest before kept) (sym row_lists_is)
        (lists_keeps guest buffer zeros left did fits reply became after from to called_there shown is_there old new asks.same free_there stored kernel before kept
        (subst (λ (s : NativeStep). Logged before.native kept.native (opening kernel left) (moment s.kernel s.left s.sent)) native_lists_is logged) effected)

-- an error, once nothing more is said than of a stop
pub answers_err : (step : O32Step) (result : Result Outcome Stop) (kernel : Kernel) (memory : Memory) (processor : Processor) (before after : Contents) → IsErr result → o32.Stopped step before after → o32.Answers step result kernel memory processor before after
answers_err step (Ok outcome) kernel memory processor before after failed stopped = absurd cc
answers_err step (Err stop) kernel memory processor before after failed stopped = stopped
