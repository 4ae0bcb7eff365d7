-- What a select finds and stores.
use Rattle.std.proofs.Common.{◌≡◌, ℕ, ◌+◌, ◌≤◌, Bool, true, false, List, [], length, refl, sym, ap, subst, ◌∙◌, arith}
use Rattle.std.specs.Prelude.{Option, Result, Ok, Err, nat_lt, replicate, if◌then◌else◌}
use Rattle.host_mem.specs.Memory.{written}
use Rattle.kernel_core.specs.declared.error.Errno.{Errno}
use Rattle.kernel_core.specs.declared.error.Errno.TheVariants.{EBADF}
use Rattle.kernel_model.specs.Came.{Came, Refused, Given, came_as}
use Rattle.kernel_model.specs.Readiness.{Sets, names_any_closed, ready_sets, set_count}
use Rattle.kernel_model.specs.State.{Files}
use Rattle.native_calls.specs.Polls.{SetPlaces, fds_bytes, selected}
use Rattle.native_calls.specs.Step.{memory_after}
use Rattle.native_polls.specs.declared.ends.Found.{Found}
use Rattle.native_polls.specs.declared.fd_sets.FdSets.{FdSets}
use Rattle.native_polls.specs.declared.fd_sets.Side.TheVariants as sides
use Rattle.native_polls.specs.inside.FdSets.{Holds, fds_of, ready_fds, sets_of, words_bytes}
use Rattle.native_polls.specs.inside.Waiting.{Finds, came_of, found_or_wait, select_counted, select_sets, stored_if}
use Rattle.native_polls.proofs.Founds.{finds}
use Rattle.native_polls.proofs.SetLaws.{all_count, holds_none}

-- memory with these words
abbrev pub with_words : ℕ → SetPlaces → List ℕ → List ℕ → List ℕ → List ℕ
with_words count places memory read write =
    written (written (written memory places.read (words_bytes count read)) places.write (words_bytes count write)) places.except
    (words_bytes count (replicate 16 0))

words_selected : (count : ℕ) (places : SetPlaces) (memory read write : List ℕ) (sets : Sets) → count ≤ 1024
    → Holds count read sets.read → Holds count write sets.write → sets.except ≡ []
    → with_words count places memory read write ≡ selected count places memory sets
words_selected count places memory read write sets enough reads writes none =
    let zeros : words_bytes count (replicate 16 0) ≡ fds_bytes count sets.except =
    (holds_none count enough).bytes ∙ ap (λ (fds : List ℕ). fds_bytes count fds) (sym none) in
    ap (λ (bs : List ℕ). written (written (written memory places.read bs) places.write (words_bytes count write)) places.except (words_bytes count (replicate 16 0))) reads.bytes
    ∙ ap (λ (bs : List ℕ). written (written (written memory places.read (fds_bytes count sets.read)) places.write bs) places.except (words_bytes count (replicate 16 0))) writes.bytes
    ∙ ap (λ (bs : List ℕ). written (written (written memory places.read (fds_bytes count sets.read)) places.write (fds_bytes count sets.write)) places.except bs) zeros

module _ (files : Files) (clock : ℕ) (wait : Option ℕ) (count : ℕ) (sets : FdSets) (places : SetPlaces) (memory : List ℕ) where
  abbrev ready : Sets
  ready = ready_sets files (sets_of count sets)

  pub closed_found : names_any_closed files (sets_of count sets) ≡ true → select_counted files clock wait (sets_of count sets) ≡ Refused EBADF
  closed_found closed =
      ap (λ (b : Bool). if b then Refused EBADF else found_or_wait clock wait (nat_lt 0 (set_count ready)) ready) closed

  pub sets_find : (new read write : List ℕ) (reads writes number : ℕ) (found : Found) → count ≤ 1024
      → names_any_closed files (sets_of count sets) ≡ false
      → Holds count read (ready_fds files sides.Reading (fds_of count sets.read))
      → Holds count write (ready_fds files sides.Writing (fds_of count sets.write))
      → reads ≡ length (fds_of count read) → writes ≡ length (fds_of count write) → number ≡ reads + writes
      → came_of (Ok found) ≡ found_or_wait clock wait (nat_lt 0 number) number
      → new ≡ stored_if (came_of (Ok found)) memory (with_words count places memory read write)
      → Finds (selected count places memory) set_count (select_counted files clock wait (sets_of count sets)) (Ok found) memory new
  sets_find new read write reads writes number found enough all_open holds_read holds_write size_read size_write sum came stored =
      let is : found_or_wait clock wait (nat_lt 0 (set_count ready)) ready ≡ select_counted files clock wait (sets_of count sets) =
      sym (ap (λ (b : Bool). if b then Refused EBADF else found_or_wait clock wait (nat_lt 0 (set_count ready)) ready) all_open) in
      let one : length (fds_of count read) ≡ length ready.read = ap (λ (fds : List ℕ). length fds) holds_read.fds in
      let other : length (fds_of count write) ≡ length ready.write = ap (λ (fds : List ℕ). length fds) holds_write.fds in
      let counted : number ≡ set_count ready = omega (arith, one, other, size_read, size_write, sum) in
      subst (λ (c : Came Sets). Finds (selected count places memory) set_count c (Ok found) memory new) is
      (finds (selected count places memory) set_count memory new (with_words count places memory read write) clock wait (nat_lt 0 (set_count ready)) ready number found
      counted refl (words_selected count places memory read write ready enough holds_read holds_write refl) came stored)

  pub closed_finds : names_any_closed files (sets_of count sets) ≡ true
      → Finds (selected count places memory) set_count (select_counted files clock wait (sets_of count sets)) (Err EBADF) memory memory
  closed_finds closed = record {
    answered = ap (λ (c : Came Sets). came_as set_count c) (sym (closed_found closed));
    stored = ap (λ (c : Came Sets). memory_after (selected count places memory) memory c) (sym (closed_found closed));
  }

  -- what was read counts whole
  pub given_finds : (given : Given Sets) (new : List ℕ) (result : Result Found Errno) → Ok (sets_of count sets) ≡ given
      → Finds (selected count places memory) set_count (select_counted files clock wait (sets_of count sets)) result memory new
      → Finds (selected count places memory) set_count (select_sets files clock wait count given) result memory new
  given_finds given new result e found =
      subst (λ (g : Given Sets). Finds (selected count places memory) set_count (select_sets files clock wait count g) result memory new) e
      (subst (λ (all : Sets). Finds (selected count places memory) set_count (select_counted files clock wait all) result memory new) (sym (all_count count sets)) found)
