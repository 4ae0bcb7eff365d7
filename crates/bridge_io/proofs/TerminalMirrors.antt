-- The requests of ioctl(2), as native calls.
use Rattle.std.proofs.Common.{◌≡◌, ℕ, ◌+◌, ◌*◌, ◌<◌, ◌%◌, ◌^◌, List, [], ◌∷◌, length, map, replicate, Some, refl, sym, ap, ◌∙◌, subst, arith, Ok}
use Rattle.std.specs.Prelude.{⊤, slice_index, true, false, not, Bool, Option, None, ◌==◌, if◌then◌else◌}
use Rattle.guest_space.specs.Access.{first_denied}
use Rattle.guest_space.specs.Bytes.{bytes_at}
use Rattle.guest_space.specs.Memory.{Memory}
use Rattle.guest_space.specs.declared.access.Access.TheVariants.{Load}
use Rattle.guest_space.specs.declared.access.Denied.{Denied}
use Rattle.host_mem.specs.Memory.{is_inside, written}
use Rattle.kernel_core.specs.declared.error.Errno.TheVariants.{EBADF, ENOTTY, EFAULT}
use Rattle.kernel_core.specs.declared.request.Request.{Request}
use Rattle.kernel_core.specs.declared.request.Request.TheVariants as requests
use Rattle.kernel_model.specs.Came.{Came, Done, Refused, Waits, Given, told_as, told_zero}
use Rattle.kernel_model.specs.ContentRows.{bytes_ready, terminal_settings, set_terminal_settings, window_size, ready_bytes, if_stream}
use Rattle.kernel_model.specs.Descriptions.{opened}
use Rattle.kernel_model.specs.DescriptorRows.{set_close_on_exec, set_nonblock, unlisted_request}
use Rattle.kernel_model.specs.State.{Kernel, Files}
use Rattle.kernel_model.specs.Whole.{on_files}
use Rattle.kernel_model.specs.declared.terminal.TerminalSettings.{TerminalSettings}
use Rattle.layouts.specs.Number.{unsigned}
use Rattle.native_calls.specs.HostBytes as host
use Rattle.native_calls.specs.Step as native_step
use Rattle.native_calls.specs.Step.{NativeStep}
use Rattle.native_calls.specs.Table.{native_call}
use Rattle.native_calls.specs.Terminal as native
use Rattle.number_tables.specs.Requests.{native_request, request_of_native, request_of_o32}
use Rattle.o32_model.specs.GuestBytes.{is_storable, with_stored, read_as, given}
use Rattle.o32_model.specs.Step as o32_step
use Rattle.o32_model.specs.Step.{Guest, O32Step}
use Rattle.o32_model.specs.Terminal as o32
use Rattle.bridge_log.proofs.Filling.{stored_nothing}
use Rattle.bridge_log.proofs.Replies.{outcome_of_failure, outcome_of_wake}
use Rattle.bridge_log.specs.Bounds.{Bounded}
use Rattle.bridge_log.specs.Mirrors.{Mirrors}
use Rattle.bridge_log.specs.Outcomes.{by_reply, outcome_of}
use Rattle.bridge_io.proofs.DescriptorMirrors.{same_gives}
use Rattle.bridge_io.proofs.Fitting.{bounded_some, bounded_given, fits_zero}
use Rattle.bridge_io.proofs.Storing.{stored_of_failure, storable_word}
use Rattle.bridge_io.specs.declared.structures.Structure.{Structure}
use Rattle.bridge_io.specs.declared.terminal.Purpose.TheVariants as purposes
use Rattle.bridge_io.specs.declared.structures.Structure.TheVariants.{Int, Window, Settings}
use Rattle.bridge_io.specs.inside.Outcomes.{host_place}
use Rattle.bridge_io.specs.inside.Purposes.{purpose_of}
use Rattle.bridge_io.specs.inside.Stores.{Stores, bytes_told, byte_from, places, size}
use Rattle.bridge_io.specs.inside.Takes.{IsTaken, places_back}

-- Structures that are given

-- the structure's bytes in both orders, and how many they are
record Shown {V : Type 0} (kind : Structure) (nbytes obytes : V → List ℕ) : Type 0 where
  inside : (v : V) → is_inside (replicate (size kind) 0) 65536 (length (nbytes v)) ≡ true
  short : (v : V) → length (obytes v) ≡ length (places kind)
  again : (v : V) → map (byte_from (written (replicate (size kind) 0) 65536 (nbytes v))) (places kind) ≡ obytes v

shown_alike : {V : Type 0} (guest : Guest) (kernel : Kernel) (address : ℕ) (kind : Structure) (nbytes obytes : V → List ℕ) (left : List ℕ) (came : Came V) (storable : Bool)
    → Shown kind nbytes obytes → is_storable guest.memory address (length (places kind)) ≡ storable → Bounded (λ _. ⊤) came
    → Stores guest address kind
    (native_step.stores (replicate (size kind) 0) (if storable then 65536 else 0) (told_as nbytes (record { state = kernel; came = came })) left)
    (o32_step.stores guest address (told_as obytes (record { state = kernel; came = came })) left)
shown_alike guest kernel address kind nbytes obytes left (Done v) true shown is bounded =
    let storable : is_storable guest.memory address (length (obytes v)) ≡ true = ap (λ (n : ℕ). is_storable guest.memory address n) (shown.short v) ∙ is in
    record {
      kernel = refl;
      left = refl;
      native_sends = refl;
      sends = refl;
      stored =
          ap (with_stored guest.memory address)
          (sym (ap (λ (b : Bool). bytes_told kind (written (replicate (size kind) 0) 65536 (nbytes v)) (if b then native_step.value 0 else native_step.failure EFAULT)) (shown.inside v) ∙ shown.again v));
      set = refl;
      came =
          ap (λ (b : Bool). if b then o32_step.value 0 else o32_step.failure EFAULT) storable
          ∙ sym (ap (λ (b : Bool). outcome_of guest.words (if b then native_step.value 0 else native_step.failure EFAULT)) (shown.inside v));
    }
shown_alike guest kernel address kind nbytes obytes left (Done v) false shown is bounded =
    let storable : is_storable guest.memory address (length (obytes v)) ≡ false = ap (λ (n : ℕ). is_storable guest.memory address n) (shown.short v) ∙ is in
    record {
      kernel = refl;
      left = refl;
      native_sends = refl;
      sends = refl;
      stored = storable_word guest.memory address (obytes v) false storable ∙ sym (stored_nothing guest.memory address);
      set = refl;
      came = ap (λ (b : Bool). if b then o32_step.value 0 else o32_step.failure EFAULT) storable;
    }
shown_alike guest kernel address kind nbytes obytes left (Refused error) storable shown is bounded = record {
  kernel = refl;
  left = refl;
  native_sends = refl;
  sends = refl;
  stored = stored_of_failure guest.memory address kind (replicate (size kind) 0) error;
  set = refl;
  came = sym (outcome_of_failure guest.words error);
}
shown_alike guest kernel address kind nbytes obytes left (Waits wake) storable shown is bounded = record {
  kernel = refl;
  left = refl;
  native_sends = refl;
  sends = refl;
  stored = sym (stored_nothing guest.memory address);
  set = refl;
  came = sym (outcome_of_wake guest.words wake bounded);
}

int_shown : Shown Int native.int_bytes o32.int_bytes
int_shown = record { inside = λ v. refl; short = λ v. refl; again = λ v. refl }

window_shown : Shown Window native.window_bytes o32.window_bytes
window_shown = record { inside = λ v. refl; short = λ v. refl; again = λ v. refl }

settings_shown : Shown Settings native.settings_bytes o32.settings_bytes
settings_shown = record { inside = λ v. refl; short = λ v. refl; again = λ v. refl }

-- A request by its native number

named_again : (found : Request) → request_of_native (native_request found % 2 ^ 32) ≡ Some found
named_again requests.Tcgets = refl
named_again requests.Tcsets = refl
named_again requests.Tcsetsw = refl
named_again requests.Tcsetsf = refl
named_again requests.Tiocgwinsz = refl
named_again requests.Fionread = refl
named_again requests.Fionbio = refl
named_again requests.Fioclex = refl
named_again requests.Fionclex = refl

request_is : (kernel : Kernel) (room left : List ℕ) (fd number place : ℕ) (found : Request) → fd < 2 ^ 32 → number ≡ native_request found
    → native_call 29 (fd ∷ number ∷ place ∷ 0 ∷ 0 ∷ 0 ∷ []) kernel room left ≡ native.requested kernel room fd place left (Some found)
unfolding native.ioctl_row
request_is kernel room left fd number place found word is =
    let same : fd % 2 ^ 32 ≡ fd = omega arith in
    ap (λ (n : ℕ). native.requested kernel room n place left (request_of_native (number % 2 ^ 32))) same
    ∙ ap (native.requested kernel room fd place left) (ap (λ (n : ℕ). request_of_native (n % 2 ^ 32)) is ∙ named_again found)

unlisted_is : (kernel : Kernel) (room left : List ℕ) (fd : ℕ) → fd < 2 ^ 32
    → native_call 29 (fd ∷ 0 ∷ 0 ∷ 0 ∷ 0 ∷ 0 ∷ []) kernel room left ≡ native.requested kernel room fd 0 left None
unfolding native.ioctl_row
unlisted_is kernel room left fd word =
    let same : fd % 2 ^ 32 ≡ fd = omega arith in
    ap (λ (n : ℕ). native.requested kernel room n 0 left None) same

-- Requests that give a structure

settings_bounded : (files : Files) (fd : ℕ) → Bounded (λ _. ⊤) (terminal_settings files fd).came
unfolding terminal_settings
settings_bounded files fd = bounded_some (λ _. ⊤) files EBADF (opened files fd) _ (λ description _. bounded_some (λ _. ⊤) files ENOTTY (if_stream files.terminal description.object) _ (λ _ _. tt))

window_bounded : (files : Files) (fd : ℕ) → Bounded (λ _. ⊤) (window_size files fd).came
unfolding window_size
window_bounded files fd = bounded_some (λ _. ⊤) files EBADF (opened files fd) _ (λ description _. bounded_some (λ _. ⊤) files ENOTTY (if_stream files.terminal description.object) _ (λ _ _. tt))

ready_bounded : (files : Files) (fd : ℕ) → Bounded (λ _. ⊤) (bytes_ready files fd).came
unfolding bytes_ready
ready_bounded files fd = bounded_some (λ _. ⊤) files EBADF (opened files fd) _ (λ description _. bounded_some (λ _. ⊤) files ENOTTY (ready_bytes files description description.object) _ (λ _ _. tt))

tcgets_stores : (guest : Guest) (kernel : Kernel) (left : List ℕ) (fd number address : ℕ) → fd < 2 ^ 32 → number ≡ native_request requests.Tcgets
    → Stores guest address Settings (native_call 29 (fd ∷ number ∷ host_place guest.memory address 40 ∷ 0 ∷ 0 ∷ 0 ∷ []) kernel (replicate 36 0) left) (o32.requested kernel guest fd address left (Some requests.Tcgets))
tcgets_stores guest kernel left fd number address word is =
    let did = terminal_settings kernel.files fd in
    subst (λ (n : NativeStep). Stores guest address Settings n (o32.requested kernel guest fd address left (Some requests.Tcgets)))
    (sym (request_is kernel (replicate 36 0) left fd number (host_place guest.memory address 40) requests.Tcgets word is))
    (shown_alike guest (on_files kernel did).state address Settings native.settings_bytes o32.settings_bytes left did.came (is_storable guest.memory address 40) settings_shown refl (settings_bounded kernel.files fd))

winsize_stores : (guest : Guest) (kernel : Kernel) (left : List ℕ) (fd number address : ℕ) → fd < 2 ^ 32 → number ≡ native_request requests.Tiocgwinsz
    → Stores guest address Window (native_call 29 (fd ∷ number ∷ host_place guest.memory address 8 ∷ 0 ∷ 0 ∷ 0 ∷ []) kernel (replicate 8 0) left) (o32.requested kernel guest fd address left (Some requests.Tiocgwinsz))
winsize_stores guest kernel left fd number address word is =
    let did = window_size kernel.files fd in
    subst (λ (n : NativeStep). Stores guest address Window n (o32.requested kernel guest fd address left (Some requests.Tiocgwinsz)))
    (sym (request_is kernel (replicate 8 0) left fd number (host_place guest.memory address 8) requests.Tiocgwinsz word is))
    (shown_alike guest (on_files kernel did).state address Window native.window_bytes o32.window_bytes left did.came (is_storable guest.memory address 8) window_shown refl (window_bounded kernel.files fd))

fionread_stores : (guest : Guest) (kernel : Kernel) (left : List ℕ) (fd number address : ℕ) → fd < 2 ^ 32 → number ≡ native_request requests.Fionread
    → Stores guest address Int (native_call 29 (fd ∷ number ∷ host_place guest.memory address 4 ∷ 0 ∷ 0 ∷ 0 ∷ []) kernel (replicate 4 0) left) (o32.requested kernel guest fd address left (Some requests.Fionread))
fionread_stores guest kernel left fd number address word is =
    let did = bytes_ready kernel.files fd in
    subst (λ (n : NativeStep). Stores guest address Int n (o32.requested kernel guest fd address left (Some requests.Fionread)))
    (sym (request_is kernel (replicate 4 0) left fd number (host_place guest.memory address 4) requests.Fionread word is))
    (shown_alike guest (on_files kernel did).state address Int native.int_bytes o32.int_bytes left did.came (is_storable guest.memory address 4) int_shown refl (ready_bounded kernel.files fd))

-- Requests that take one

swapped : (a b c d : ℕ) → d + 256 * (c + 256 * (b + 256 * (a + 256 * 0))) ≡ a * 256 ^ 3 + (b * 256 ^ 2 + (c * 256 ^ 1 + (d * 256 ^ 0 + 0)))
swapped a b c d = omega arith

single : (a : ℕ) → a + 256 * 0 ≡ a * 256 ^ 0 + 0
single a = omega arith

settings_same : (memory : Memory) (address : ℕ) → (let bytes = bytes_at memory.pages address 40 in native.settings_in (map (byte_from bytes) (places_back Settings)) ≡ o32.settings_in bytes)
unfolding bytes_at
settings_same memory address = λ i. record {
  input = swapped (at 0) (at 1) (at 2) (at 3) i;
  output = swapped (at 4) (at 5) (at 6) (at 7) i;
  control = swapped (at 8) (at 9) (at 10) (at 11) i;
  local = swapped (at 12) (at 13) (at 14) (at 15) i;
  line = single (at 16) i;
  characters = record {
    intr = single (at 17) i;
    quit = single (at 18) i;
    erase = single (at 19) i;
    kill = single (at 20) i;
    eof = single (at 33) i;
    time = single (at 22) i;
    min = single (at 21) i;
    swtc = single (at 24) i;
    start = single (at 25) i;
    stop = single (at 26) i;
    susp = single (at 27) i;
    eol = single (at 34) i;
    reprint = single (at 29) i;
    discard = single (at 30) i;
    werase = single (at 31) i;
    lnext = single (at 32) i;
    eol2 = single (at 23) i;
  };
}
  where
    at : ℕ → ℕ
    at place = slice_index (bytes_at memory.pages address 40) place

settings_go : (memory : Memory) (address : ℕ) (denied : Option Denied)
    → read_as native.settings_in (read_as (λ bytes. map (byte_from bytes) (places_back Settings)) (given denied (bytes_at memory.pages address 40))) ≡ read_as o32.settings_in (given denied (bytes_at memory.pages address 40))
settings_go memory address None = ap Ok (settings_same memory address)
settings_go memory address (Some denied) = refl

set_bounded : (files : Files) (fd : ℕ) (settings : Given TerminalSettings) → Bounded (λ _. ⊤) (set_terminal_settings files fd settings).came
unfolding set_terminal_settings
set_bounded files fd settings =
    bounded_some (λ _. ⊤) files EBADF (opened files fd) _ (λ description _.
    bounded_some (λ _. ⊤) files ENOTTY (if_stream files.terminal description.object) _ (λ _ _.
    bounded_given (λ _. ⊤) files settings _ (λ _. tt)))

settings_set : (guest : Guest) (kernel : Kernel) (left room : List ℕ) (fd place address : ℕ) → IsTaken guest.memory address Settings room place
    → Mirrors guest (by_reply guest.words) (native.set_settings kernel room fd place left) (o32.set_settings kernel guest fd address left)
settings_set guest kernel left room fd place address taken =
    same_gives guest room left _ (told_zero (on_files kernel (set_terminal_settings kernel.files fd (o32.settings_at guest.memory address))))
    (ap (λ (s : Given TerminalSettings). told_zero (on_files kernel (set_terminal_settings kernel.files fd s)))
    (ap (host.read_as native.settings_in) taken ∙ settings_go guest.memory address (first_denied Load guest.memory.pages address 40)))
    (fits_zero (set_terminal_settings kernel.files fd (o32.settings_at guest.memory address)).came (set_bounded kernel.files fd (o32.settings_at guest.memory address)))

tcsets_mirrors : (guest : Guest) (kernel : Kernel) (left room : List ℕ) (fd number place address : ℕ) (found : Request) → fd < 2 ^ 32 → number ≡ native_request found → IsTaken guest.memory address Settings room place
    → native.requested kernel room fd place left (Some found) ≡ native.set_settings kernel room fd place left → o32.requested kernel guest fd address left (Some found) ≡ o32.set_settings kernel guest fd address left
    → Mirrors guest (by_reply guest.words) (native_call 29 (fd ∷ number ∷ place ∷ 0 ∷ 0 ∷ 0 ∷ []) kernel room left) (o32.requested kernel guest fd address left (Some found))
tcsets_mirrors guest kernel left room fd number place address found word is taken native_sets sets =
    subst (λ (s : O32Step). Mirrors guest (by_reply guest.words) (native_call 29 (fd ∷ number ∷ place ∷ 0 ∷ 0 ∷ 0 ∷ []) kernel room left) s) (sym sets)
    (subst (λ (n : NativeStep). Mirrors guest (by_reply guest.words) n (o32.set_settings kernel guest fd address left))
    (sym (request_is kernel room left fd number place found word is ∙ native_sets)) (settings_set guest kernel left room fd place address taken))

switch_same : (memory : Memory) (address : ℕ) → (let bytes = bytes_at memory.pages address 4 in not (unsigned false 4 (map (byte_from bytes) (places_back Int)) == 0) ≡ not (unsigned true 4 bytes == 0))
unfolding bytes_at
switch_same memory address = ap (λ (n : ℕ). not (n == 0)) (swapped (at 0) (at 1) (at 2) (at 3))
  where
    at : ℕ → ℕ
    at place = slice_index (bytes_at memory.pages address 4) place

switch_go : (memory : Memory) (address : ℕ) (denied : Option Denied)
    → read_as (λ bytes. not (unsigned false 4 bytes == 0)) (read_as (λ bytes. map (byte_from bytes) (places_back Int)) (given denied (bytes_at memory.pages address 4)))
    ≡ read_as (λ bytes. not (unsigned true 4 bytes == 0)) (given denied (bytes_at memory.pages address 4))
switch_go memory address None = ap Ok (switch_same memory address)
switch_go memory address (Some denied) = refl

nonblock_bounded : (files : Files) (fd : ℕ) (on : Given Bool) → Bounded (λ _. ⊤) (set_nonblock files fd on).came
unfolding set_nonblock
nonblock_bounded files fd on =
    bounded_some (λ _. ⊤) files EBADF (opened files fd) _ (λ description _.
    bounded_given (λ _. ⊤) files on _ (λ _. tt))

switch_set : (guest : Guest) (kernel : Kernel) (left room : List ℕ) (fd place address : ℕ) → IsTaken guest.memory address Int room place
    → Mirrors guest (by_reply guest.words) (native.requested kernel room fd place left (Some requests.Fionbio)) (o32.requested kernel guest fd address left (Some requests.Fionbio))
switch_set guest kernel left room fd place address taken =
    same_gives guest room left _ (told_zero (on_files kernel (set_nonblock kernel.files fd (o32.switch_at guest.memory address))))
    (ap (λ (on : Given Bool). told_zero (on_files kernel (set_nonblock kernel.files fd on)))
    (ap (host.read_as (λ bytes. not (unsigned false 4 bytes == 0))) taken ∙ switch_go guest.memory address (first_denied Load guest.memory.pages address 4)))
    (fits_zero (set_nonblock kernel.files fd (o32.switch_at guest.memory address)).came (nonblock_bounded kernel.files fd (o32.switch_at guest.memory address)))

fionbio_mirrors : (guest : Guest) (kernel : Kernel) (left room : List ℕ) (fd number place address : ℕ) → fd < 2 ^ 32 → number ≡ native_request requests.Fionbio → IsTaken guest.memory address Int room place
    → Mirrors guest (by_reply guest.words) (native_call 29 (fd ∷ number ∷ place ∷ 0 ∷ 0 ∷ 0 ∷ []) kernel room left) (o32.requested kernel guest fd address left (Some requests.Fionbio))
fionbio_mirrors guest kernel left room fd number place address word is taken =
    subst (λ (n : NativeStep). Mirrors guest (by_reply guest.words) n (o32.requested kernel guest fd address left (Some requests.Fionbio)))
    (sym (request_is kernel room left fd number place requests.Fionbio word is)) (switch_set guest kernel left room fd place address taken)

-- Requests without a structure

cloexec_bounded : (files : Files) (fd : ℕ) (cloexec : Bool) → Bounded (λ _. ⊤) (set_close_on_exec files fd cloexec).came
unfolding set_close_on_exec
cloexec_bounded files fd cloexec = bounded_some (λ _. ⊤) files EBADF (opened files fd) _ (λ _ _. tt)

cloexec_set : (guest : Guest) (kernel : Kernel) (left room : List ℕ) (fd : ℕ) (cloexec : Bool) → Mirrors guest (by_reply guest.words) (native.set_cloexec_to cloexec kernel room fd left) (o32.set_cloexec_to cloexec kernel guest fd left)
cloexec_set guest kernel left room fd cloexec =
    same_gives guest room left _ (told_zero (on_files kernel (set_close_on_exec kernel.files fd cloexec))) refl
    (fits_zero (set_close_on_exec kernel.files fd cloexec).came (cloexec_bounded kernel.files fd cloexec))

cloexec_mirrors : (guest : Guest) (kernel : Kernel) (left room : List ℕ) (fd number address : ℕ) (found : Request) (cloexec : Bool) → fd < 2 ^ 32 → number ≡ native_request found
    → native.requested kernel room fd 0 left (Some found) ≡ native.set_cloexec_to cloexec kernel room fd left → o32.requested kernel guest fd address left (Some found) ≡ o32.set_cloexec_to cloexec kernel guest fd left
    → Mirrors guest (by_reply guest.words) (native_call 29 (fd ∷ number ∷ 0 ∷ 0 ∷ 0 ∷ 0 ∷ []) kernel room left) (o32.requested kernel guest fd address left (Some found))
cloexec_mirrors guest kernel left room fd number address found cloexec word is native_sets sets =
    subst (λ (s : O32Step). Mirrors guest (by_reply guest.words) (native_call 29 (fd ∷ number ∷ 0 ∷ 0 ∷ 0 ∷ 0 ∷ []) kernel room left) s) (sym sets)
    (subst (λ (n : NativeStep). Mirrors guest (by_reply guest.words) n (o32.set_cloexec_to cloexec kernel guest fd left))
    (sym (request_is kernel room left fd number 0 found word is ∙ native_sets)) (cloexec_set guest kernel left room fd cloexec))

unlisted_bounded : (files : Files) (fd : ℕ) → Bounded (λ _. ⊤) (unlisted_request files fd).came
unfolding unlisted_request
unlisted_bounded files fd = bounded_some (λ _. ⊤) files EBADF (opened files fd) _ (λ _ _. tt)

unlisted_mirrors : (guest : Guest) (kernel : Kernel) (left room : List ℕ) (fd address : ℕ) → fd < 2 ^ 32
    → Mirrors guest (by_reply guest.words) (native_call 29 (fd ∷ 0 ∷ 0 ∷ 0 ∷ 0 ∷ 0 ∷ []) kernel room left) (o32.requested kernel guest fd address left None)
unlisted_mirrors guest kernel left room fd address word =
    subst (λ (n : NativeStep). Mirrors guest (by_reply guest.words) n (o32.requested kernel guest fd address left None))
    (sym (unlisted_is kernel room left fd word))
    (same_gives guest room left _ (told_zero (on_files kernel (unlisted_request kernel.files fd))) refl (fits_zero (unlisted_request kernel.files fd).came (unlisted_bounded kernel.files fd)))

-- Requests by what their pointer is for

row_is : (kernel : Kernel) (guest : Guest) (fd asked address : ℕ) (left : List ℕ) (found : Option Request) → request_of_o32 asked ≡ found → o32.requested kernel guest fd address left found ≡ o32.ioctl_row kernel guest fd asked address left
unfolding o32.ioctl_row
row_is kernel guest fd asked address left found is = ap (o32.requested kernel guest fd address left) (sym is)

-- host memory of zeros, and a request that stores a structure there
abbrev showing : Kernel → Guest → List ℕ → ℕ → ℕ → ℕ → Structure → NativeStep
showing kernel guest left fd number address kind =
    native_call 29 (fd ∷ number ∷ host_place guest.memory address (length (places kind)) ∷ 0 ∷ 0 ∷ 0 ∷ []) kernel (replicate (size kind) 0) left

other_kind : (guest : Guest) (kernel : Kernel) (left : List ℕ) (fd number address : ℕ) (kind other : Structure) (step : O32Step) → purposes.Stores kind ≡ purposes.Stores other
    → Stores guest address kind (showing kernel guest left fd number address kind) step → Stores guest address other (showing kernel guest left fd number address other) step
other_kind guest kernel left fd number address kind other step same stores =
    let is : kind ≡ other = cc in
    subst (λ (s : Structure). Stores guest address s (showing kernel guest left fd number address s) step) is stores

stored_by : (guest : Guest) (kernel : Kernel) (left : List ℕ) (fd number address : ℕ) (found : Request) (kind : Structure) → fd < 2 ^ 32 → number ≡ native_request found → purpose_of found ≡ purposes.Stores kind
    → Stores guest address kind (showing kernel guest left fd number address kind) (o32.requested kernel guest fd address left (Some found))
stored_by guest kernel left fd number address requests.Tcgets kind word is meant = other_kind guest kernel left fd number address Settings kind _ meant (tcgets_stores guest kernel left fd number address word is)
stored_by guest kernel left fd number address requests.Tcsets kind word is meant = absurd cc
stored_by guest kernel left fd number address requests.Tcsetsw kind word is meant = absurd cc
stored_by guest kernel left fd number address requests.Tcsetsf kind word is meant = absurd cc
stored_by guest kernel left fd number address requests.Tiocgwinsz kind word is meant = other_kind guest kernel left fd number address Window kind _ meant (winsize_stores guest kernel left fd number address word is)
stored_by guest kernel left fd number address requests.Fionread kind word is meant = other_kind guest kernel left fd number address Int kind _ meant (fionread_stores guest kernel left fd number address word is)
stored_by guest kernel left fd number address requests.Fionbio kind word is meant = absurd cc
stored_by guest kernel left fd number address requests.Fioclex kind word is meant = absurd cc
stored_by guest kernel left fd number address requests.Fionclex kind word is meant = absurd cc

pub ioctl_stores : (guest : Guest) (kernel : Kernel) (left : List ℕ) (fd number asked address : ℕ) (found : Request) (kind : Structure) → fd < 2 ^ 32 → number ≡ native_request found → purpose_of found ≡ purposes.Stores kind → request_of_o32 asked ≡ Some found
    → Stores guest address kind (native_call 29 (fd ∷ number ∷ host_place guest.memory address (length (places kind)) ∷ 0 ∷ 0 ∷ 0 ∷ []) kernel (replicate (size kind) 0) left) (o32.ioctl_row kernel guest fd asked address left)
ioctl_stores guest kernel left fd number asked address found kind word is meant named =
    subst (λ (s : O32Step). Stores guest address kind (showing kernel guest left fd number address kind) s) (row_is kernel guest fd asked address left (Some found) named)
    (stored_by guest kernel left fd number address found kind word is meant)

-- the same with the arguments that the code has
pub stores_along : (guest : Guest) (kernel : Kernel) (left : List ℕ) (address : ℕ) (kind : Structure) (step : O32Step) (first fd number count place : ℕ) (memory : Memory) → guest.memory ≡ memory → first ≡ fd → count ≡ length (places kind)
    → place ≡ host_place memory address count
    → Stores guest address kind (native_call 29 (fd ∷ number ∷ host_place guest.memory address (length (places kind)) ∷ 0 ∷ 0 ∷ 0 ∷ []) kernel (replicate (size kind) 0) left) step
    → Stores guest address kind (native_call 29 (first ∷ number ∷ place ∷ 0 ∷ 0 ∷ 0 ∷ []) kernel (replicate (size kind) 0) left) step
stores_along guest kernel left address kind step first fd number count place memory same first_is count_is place_is stores =
    let there : place ≡ host_place guest.memory address (length (places kind)) =
    place_is ∙ ap (λ (n : ℕ). host_place memory address n) count_is ∙ ap (λ (m : Memory). host_place m address (length (places kind))) (sym same) in
    subst (λ (n : ℕ). Stores guest address kind (native_call 29 (n ∷ number ∷ place ∷ 0 ∷ 0 ∷ 0 ∷ []) kernel (replicate (size kind) 0) left) step) (sym first_is)
    (subst (λ (n : ℕ). Stores guest address kind (native_call 29 (fd ∷ number ∷ n ∷ 0 ∷ 0 ∷ 0 ∷ []) kernel (replicate (size kind) 0) left) step) (sym there) stores)

abbrev LoadMirrors : Guest → Kernel → List ℕ → List ℕ → ℕ → ℕ → ℕ → O32Step → Type 0
LoadMirrors guest kernel left room fd number place step = Mirrors guest (by_reply guest.words) (native_call 29 (fd ∷ number ∷ place ∷ 0 ∷ 0 ∷ 0 ∷ []) kernel room left) step

taken_as : (memory : Memory) (address : ℕ) (kind other : Structure) (room : List ℕ) (place : ℕ) → purposes.Loads other ≡ purposes.Loads kind → IsTaken memory address kind room place → IsTaken memory address other room place
taken_as memory address kind other room place same taken =
    let is : kind ≡ other = cc in
    subst (λ (s : Structure). IsTaken memory address s room place) is taken

loaded_by : (guest : Guest) (kernel : Kernel) (left room : List ℕ) (fd number place address : ℕ) (found : Request) (kind : Structure) → fd < 2 ^ 32 → number ≡ native_request found → purpose_of found ≡ purposes.Loads kind → IsTaken guest.memory address kind room place
    → LoadMirrors guest kernel left room fd number place (o32.requested kernel guest fd address left (Some found))
loaded_by guest kernel left room fd number place address requests.Tcgets kind word is meant taken = absurd cc
loaded_by guest kernel left room fd number place address requests.Tcsets kind word is meant taken =
    tcsets_mirrors guest kernel left room fd number place address requests.Tcsets word is (taken_as guest.memory address kind Settings room place meant taken) refl refl
loaded_by guest kernel left room fd number place address requests.Tcsetsw kind word is meant taken =
    tcsets_mirrors guest kernel left room fd number place address requests.Tcsetsw word is (taken_as guest.memory address kind Settings room place meant taken) refl refl
loaded_by guest kernel left room fd number place address requests.Tcsetsf kind word is meant taken =
    tcsets_mirrors guest kernel left room fd number place address requests.Tcsetsf word is (taken_as guest.memory address kind Settings room place meant taken) refl refl
loaded_by guest kernel left room fd number place address requests.Tiocgwinsz kind word is meant taken = absurd cc
loaded_by guest kernel left room fd number place address requests.Fionread kind word is meant taken = absurd cc
loaded_by guest kernel left room fd number place address requests.Fionbio kind word is meant taken =
    fionbio_mirrors guest kernel left room fd number place address word is (taken_as guest.memory address kind Int room place meant taken)
loaded_by guest kernel left room fd number place address requests.Fioclex kind word is meant taken = absurd cc
loaded_by guest kernel left room fd number place address requests.Fionclex kind word is meant taken = absurd cc

pub ioctl_loads : (guest : Guest) (kernel : Kernel) (left room : List ℕ) (fd number place asked address : ℕ) (found : Request) (kind : Structure) → fd < 2 ^ 32 → number ≡ native_request found → purpose_of found ≡ purposes.Loads kind → request_of_o32 asked ≡ Some found
    → IsTaken guest.memory address kind room place
    → Mirrors guest (by_reply guest.words) (native_call 29 (fd ∷ number ∷ place ∷ 0 ∷ 0 ∷ 0 ∷ []) kernel room left) (o32.ioctl_row kernel guest fd asked address left)
ioctl_loads guest kernel left room fd number place asked address found kind word is meant named taken =
    subst (LoadMirrors guest kernel left room fd number place) (row_is kernel guest fd asked address left (Some found) named)
    (loaded_by guest kernel left room fd number place address found kind word is meant taken)

unused_by : (guest : Guest) (kernel : Kernel) (left room : List ℕ) (fd number address : ℕ) (found : Request) → fd < 2 ^ 32 → number ≡ native_request found → purpose_of found ≡ purposes.Unused
    → LoadMirrors guest kernel left room fd number 0 (o32.requested kernel guest fd address left (Some found))
unused_by guest kernel left room fd number address requests.Tcgets word is meant = absurd cc
unused_by guest kernel left room fd number address requests.Tcsets word is meant = absurd cc
unused_by guest kernel left room fd number address requests.Tcsetsw word is meant = absurd cc
unused_by guest kernel left room fd number address requests.Tcsetsf word is meant = absurd cc
unused_by guest kernel left room fd number address requests.Tiocgwinsz word is meant = absurd cc
unused_by guest kernel left room fd number address requests.Fionread word is meant = absurd cc
unused_by guest kernel left room fd number address requests.Fionbio word is meant = absurd cc
unused_by guest kernel left room fd number address requests.Fioclex word is meant = cloexec_mirrors guest kernel left room fd number address requests.Fioclex true word is refl refl
unused_by guest kernel left room fd number address requests.Fionclex word is meant = cloexec_mirrors guest kernel left room fd number address requests.Fionclex false word is refl refl

pub ioctl_unused : (guest : Guest) (kernel : Kernel) (left room : List ℕ) (fd number asked address : ℕ) (found : Request) → fd < 2 ^ 32 → number ≡ native_request found → purpose_of found ≡ purposes.Unused → request_of_o32 asked ≡ Some found
    → Mirrors guest (by_reply guest.words) (native_call 29 (fd ∷ number ∷ 0 ∷ 0 ∷ 0 ∷ 0 ∷ []) kernel room left) (o32.ioctl_row kernel guest fd asked address left)
ioctl_unused guest kernel left room fd number asked address found word is meant named =
    subst (LoadMirrors guest kernel left room fd number 0) (row_is kernel guest fd asked address left (Some found) named)
    (unused_by guest kernel left room fd number address found word is meant)

pub ioctl_unlisted : (guest : Guest) (kernel : Kernel) (left room : List ℕ) (fd asked address : ℕ) → fd < 2 ^ 32 → request_of_o32 asked ≡ None
    → Mirrors guest (by_reply guest.words) (native_call 29 (fd ∷ 0 ∷ 0 ∷ 0 ∷ 0 ∷ 0 ∷ []) kernel room left) (o32.ioctl_row kernel guest fd asked address left)
ioctl_unlisted guest kernel left room fd asked address word named =
    subst (LoadMirrors guest kernel left room fd 0 0) (row_is kernel guest fd asked address left None named)
    (unlisted_mirrors guest kernel left room fd address word)
