-- What a read into memory is as a call.
use Rattle.std.proofs.Common.{◌≡◌, ℕ, ℤ, ◌+◌, ◌≤◌, List, ◌++◌, length, take, drop, Option, Result, Ok, Err, refl, sym, ap, ◌∙◌, subst, arith}
use Rattle.std.proofs.lemmas.List.{length-append}
use Rattle.host_mem.specs.Memory.{written}
use Rattle.kernel_core.specs.declared.core_error.Stop.{Stop}
use Rattle.kernel_core.specs.declared.core_error.CoreError.{CoreError}
use Rattle.kernel_core.specs.declared.core_error.CoreError.TheVariants as errors
use Rattle.kernel_core.specs.declared.reply.Reply.{Reply}
use Rattle.kernel_model.specs.Came.{Came, Done, Refused, Waits, Did, came_as, widened}
use Rattle.kernel_model.specs.State.{Kernel, Files}
use Rattle.kernel_model.specs.Transfers.{Reading, read, read_at}
use Rattle.kernel_model.specs.Whole.{with_files, with_reading, kernel_read, on_files}
use Rattle.native_calls.specs.HostBytes.{accessible}
use Rattle.native_calls.specs.Step.{NativeStep, value, failure, reply_to, memory_after}
use Rattle.native_calls.specs.Transfers.{after_read, read_row}
use Rattle.native_files.specs.Answers.{ReadsSo, filled, moved}
use Rattle.native_files.specs.declared.progress.Progress.{Progress}
use Rattle.native_files.specs.declared.progress.Progress.TheVariants as progress
use Rattle.host_mem.specs.Lending.{overwritten}
use Rattle.native_kernel.proofs.Parts.{overwritten_all, part_inside, part_kept, part_written}
use Rattle.native_kernel.specs.inside.Moving.{FillsPart, Takes, ReadsInto, part_place, settled}
use Rattle.native_kernel.specs.inside.Quiet.{Fills}

-- the step of a call that reads, by what its row did
abbrev pub reading_step : (List ℕ → List ℕ) → List ℕ → Kernel → Did Reading (List ℕ) → NativeStep
reading_step with_bytes memory kernel did = after_read with_bytes memory (widened (with_reading kernel) did)

abbrev did_of : Reading → Came (List ℕ) → Did Reading (List ℕ)
did_of state came = record { state = state; came = came }

-- A read as the end of a call, where memory holds what was read, and stays where nothing was.
taken_by : (with_bytes : List ℕ → List ℕ) (memory new : List ℕ) (kernel : Kernel) (state : Reading) (row : Came (List ℕ))
    (came : Result Progress CoreError) (files : Files) (before after : Option (List ℕ)) (old part : List ℕ)
    → ((bytes : List ℕ) → part ≡ bytes ++ drop (length bytes) old → new ≡ with_bytes bytes)
    → (part ≡ old → new ≡ memory)
    → ReadsSo (did_of state row) (moved came) files before after old part
    → Takes (reading_step with_bytes memory kernel (did_of state row)) (settled came) (with_files kernel files) new before after
taken_by with_bytes memory new kernel state row (Err (errors.Stop stop)) files before after old part stored kept read = read
taken_by with_bytes memory new kernel state (Done bytes) (Ok (progress.Done count)) files before after old part stored kept read =
    record { answered = ap (λ (c : Came ℕ). elim c [ Done n ↦ value n | Refused e ↦ failure e | Waits w ↦ value 0 ]) read.answered; became = ap (with_files kernel) read.became; stored = stored bytes read.stored; rest = read.rest; sent = refl }
taken_by with_bytes memory new kernel state (Done bytes) (Ok (progress.Waits wake)) files before after old part stored kept read = cc
taken_by with_bytes memory new kernel state (Done bytes) (Err (errors.Refused error)) files before after old part stored kept read = cc
taken_by with_bytes memory new kernel state (Refused error) (Ok (progress.Done count)) files before after old part stored kept read = cc
taken_by with_bytes memory new kernel state (Refused error) (Ok (progress.Waits wake)) files before after old part stored kept read = cc
taken_by with_bytes memory new kernel state (Refused error) (Err (errors.Refused given)) files before after old part stored kept read =
    record { answered = cc; became = ap (with_files kernel) read.became; stored = kept read.stored; rest = read.rest; sent = refl }
taken_by with_bytes memory new kernel state (Waits wake) (Ok (progress.Done count)) files before after old part stored kept read = cc
taken_by with_bytes memory new kernel state (Waits wake) (Ok (progress.Waits given)) files before after old part stored kept read =
    record { answered = cc; became = ap (with_files kernel) read.became; stored = kept read.stored; rest = read.rest; sent = refl }
taken_by with_bytes memory new kernel state (Waits wake) (Err (errors.Refused error)) files before after old part stored kept read = cc

-- bytes at the beginning of a part are no more than it
few_of : (bytes rest part : List ℕ) (room : ℕ) → part ≡ bytes ++ rest → length part ≡ room → length bytes ≤ room
few_of bytes rest part room e sized = omega (arith, ap length e, length-append bytes rest)

-- a read into the part of memory that a buffer names
pub taken_into : (kernel : Kernel) (memory new : List ℕ) (buffer count room : ℕ) (did : Did Reading (List ℕ))
    (came : Result Progress CoreError) (files : Files) (before after : Option (List ℕ))
    → room ≡ accessible memory buffer count
    → ReadsInto did (moved came) files before after memory (part_place buffer room) room new
    → Takes (reading_step (written memory buffer) memory kernel did) (settled came) (with_files kernel files) new before after
taken_into kernel memory new buffer count room did came files before after e into =
    let place : ℕ = part_place buffer room in
    let old : List ℕ = take room (drop place memory) in
    taken_by (written memory buffer) memory new kernel did.state did.came came files before after old into.part
    (λ bytes h. into.whole
    ∙ ap (λ (t : List ℕ). take place memory ++ (t ++ drop (place + room) memory)) h
    ∙ part_written memory bytes buffer count room e (few_of bytes (drop (length bytes) old) into.part room h into.sized))
    (λ h. into.whole
    ∙ ap (λ (t : List ℕ). take place memory ++ (t ++ drop (place + room) memory)) h
    ∙ part_kept memory place room (part_inside memory buffer count room e))
    into.did

-- read(2) as a call
pub read_is : (kernel after : Kernel) (held files : Files) (memory new : List ℕ) (fd buffer count room place : ℕ) (rest : List ℕ)
    (came : Result Progress CoreError) (result : Result Reply Stop) (before behind : Option (List ℕ))
    → ReadsInto (read held rest fd (Ok count) room) (moved came) files before behind memory place room new
    → held ≡ kernel.files → after ≡ with_files kernel files → length new ≡ length memory
    → room ≡ accessible memory buffer count → place ≡ part_place buffer room → result ≡ settled came
    → Takes (read_row kernel memory fd buffer count rest) result after (overwritten memory new) before behind
unfolding read_row kernel_read
read_is kernel after held files memory new fd buffer count room place rest came result before behind into same became long e at end =
    let whole : overwritten memory new ≡ new = overwritten_all memory new long in
    let here : ReadsInto (read kernel.files rest fd (Ok count) (accessible memory buffer count)) (moved came) files before behind memory (part_place buffer (accessible memory buffer count)) (accessible memory buffer count) new =
    subst (λ (r : ℕ). ReadsInto (read kernel.files rest fd (Ok count) r) (moved came) files before behind memory (part_place buffer r) r new) e
    (subst (λ (p : ℕ). ReadsInto (read kernel.files rest fd (Ok count) room) (moved came) files before behind memory p room new) at
    (subst (λ (f : Files). ReadsInto (read f rest fd (Ok count) room) (moved came) files before behind memory place room new) same into)) in
    let taken = taken_into kernel memory new buffer count (accessible memory buffer count) (read kernel.files rest fd (Ok count) (accessible memory buffer count)) came files before behind refl here in
    subst (λ (r : Result Reply Stop). Takes (reading_step (written memory buffer) memory kernel (read kernel.files rest fd (Ok count) (accessible memory buffer count))) r after (overwritten memory new) before behind) (sym end)
    (subst (λ (k : Kernel). Takes (reading_step (written memory buffer) memory kernel (read kernel.files rest fd (Ok count) (accessible memory buffer count))) (settled came) k (overwritten memory new) before behind) (sym became)
    (subst (λ (m : List ℕ). Takes (reading_step (written memory buffer) memory kernel (read kernel.files rest fd (Ok count) (accessible memory buffer count))) (settled came) (with_files kernel files) m before behind) (sym whole) taken))

length_told : (row : Came (List ℕ)) → reply_to value (came_as length row) ≡ reply_to (λ bytes. value (length bytes)) row
length_told (Done bytes) = refl
length_told (Refused error) = refl
length_told (Waits wake) = refl

filled_by : (memory new part : List ℕ) (buffer count : ℕ) (row : Came (List ℕ))
    → let room = accessible memory buffer count in let place = part_place buffer room in
    length part ≡ room → new ≡ take place memory ++ (part ++ drop (place + room) memory) → part ≡ filled (take room (drop place memory)) row
    → new ≡ memory_after (written memory buffer) memory row
filled_by memory new part buffer count (Done bytes) sized whole did =
    let room : ℕ = accessible memory buffer count in
    let place : ℕ = part_place buffer room in
    whole ∙ ap (λ (t : List ℕ). take place memory ++ (t ++ drop (place + room) memory)) did
    ∙ part_written memory bytes buffer count room refl (few_of bytes (drop (length bytes) (take room (drop place memory))) part room did sized)
filled_by memory new part buffer count (Refused error) sized whole did =
    let room : ℕ = accessible memory buffer count in
    let place : ℕ = part_place buffer room in
    whole ∙ ap (λ (t : List ℕ). take place memory ++ (t ++ drop (place + room) memory)) did ∙ part_kept memory place room (part_inside memory buffer count room refl)
filled_by memory new part buffer count (Waits wake) sized whole did =
    let room : ℕ = accessible memory buffer count in
    let place : ℕ = part_place buffer room in
    whole ∙ ap (λ (t : List ℕ). take place memory ++ (t ++ drop (place + room) memory)) did ∙ part_kept memory place room (part_inside memory buffer count room refl)

-- pread(2) as a call
pub pread_is : (kernel : Kernel) (held : Files) (memory new : List ℕ) (fd buffer count room place : ℕ) (given at : ℤ) (came : Came ℕ) (reply : Reply)
    → came ≡ came_as length (read_at held fd given (Ok count) room).came → (read_at held fd given (Ok count) room).state ≡ held
    → FillsPart (read_at held fd given (Ok count) room).came memory place room new
    → held ≡ kernel.files → given ≡ at → length new ≡ length memory → room ≡ accessible memory buffer count → place ≡ part_place buffer room
    → reply ≡ reply_to value came
    → Fills (written memory buffer) (on_files kernel (read_at kernel.files fd at (Ok count) (accessible memory buffer count))) reply kernel memory (overwritten memory new)
pread_is kernel held memory new fd buffer count room place given at came reply told state fills same there long e p answered =
    let rows = ap (λ (f : Files). read_at f fd given (Ok count) room) same ∙ ap (λ (z : ℤ). read_at kernel.files fd z (Ok count) room) there
    ∙ ap (λ (r : ℕ). read_at kernel.files fd at (Ok count) r) e in
    let row = read_at kernel.files fd at (Ok count) (accessible memory buffer count) in
    let here : FillsPart row.came memory (part_place buffer (accessible memory buffer count)) (accessible memory buffer count) new =
    subst (λ (r : ℕ). FillsPart row.came memory (part_place buffer r) r new) e
    (subst (λ (q : ℕ). FillsPart row.came memory q room new) p
    (subst (λ (c : Came (List ℕ)). FillsPart c memory place room new) (ap (λ d. d.came) rows) fills)) in
    record {
      answered = answered ∙ ap (λ (c : Came ℕ). reply_to value c) (told ∙ ap (λ d. came_as length d.came) rows) ∙ length_told row.came;
      became = ap (λ (f : Files). with_files kernel f) (sym same ∙ sym state ∙ ap (λ d. d.state) rows);
      put = overwritten_all memory new long ∙ filled_by memory new here.part buffer count row.came here.sized here.whole here.did;
    }
