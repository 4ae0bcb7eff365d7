-- Rows that undo others, or show what others set.
use Rattle.std.proofs.Common.{◌≡◌, ℕ, zero, suc, ◌+◌, ◌%◌, ◌<◌, List, [], ◌∷◌, ◌++◌, length, drop, take, get_or, set, Bool, true, false, refl, sym, ◌∙◌, ap, arith}
use Rattle.std.specs.Prelude.{Option, Some, None, option_and_then, option_map, unwrap_or, nat_le, not, ◌==◌, pos, ◌+ℤ◌, nat_abs, slice_index, if◌then◌else◌}
use Rattle.std.specs.List.{list_any}
use Rattle.std.proofs.Math.Nat.{mod-add-mod}
use Rattle.std.proofs.lemmas.Int.{ints}
use Rattle.std.proofs.lemmas.List.{get_or-set_same, take-append-drop, take_all}
use Rattle.std.proofs.lemmas.List.Folds.{list_any_at}
use Rattle.kernel_core.specs.NameCalls.{is_empty_list}
use Rattle.kernel_core.specs.declared.error.Errno.TheVariants.{EAGAIN, EBADF, EINVAL, EPIPE, ESPIPE}
use Rattle.kernel_laws.proofs.Lists.{same}
use Rattle.kernel_laws.proofs.Says.{Says, says}
use Rattle.kernel_model.proofs.Described.{within}
use Rattle.kernel_model.proofs.LeastFree.{least_free}
use Rattle.kernel_model.specs.Came.{Came, Done, Refused, done, refused_if, with_some}
use Rattle.kernel_model.specs.ContentRows.{is_position, seek, seek_from}
use Rattle.kernel_model.specs.DescriptorRows.{after_close, after_duplicate, after_last, close, duplicate, set_status_flags, status_flags, with_flags}
use Rattle.kernel_model.specs.Descriptions.{node_of, opened}
use Rattle.kernel_model.specs.Laws.{IsLeastFree}
use Rattle.kernel_model.specs.Pipes.{PipeStep, becomes, part_length, put, read_pipe, room, stays, waits_after, write_none, write_pipe, write_some}
use Rattle.kernel_model.specs.Shared.{OpenSet}
use Rattle.kernel_model.specs.State.{Chance, Descriptors, Files, Pipe}
use Rattle.kernel_model.specs.System.{after_chance, round}
use Rattle.kernel_model.specs.Table.{changed_at, closed, closed_at, last_at, last_description, leads_to, lowest_free, number_at, shared_at, slot, with_description, with_slot}
use Rattle.kernel_model.specs.Transfers.{moved_to}
use Rattle.kernel_model.specs.declared.descriptor.Descriptor.{Descriptor}
use Rattle.kernel_model.specs.declared.descriptor.Description.{Description}

-- A duplicate that is closed

descriptor_of : (found : Option Descriptor) (number : ℕ) → option_map (λ d. d.number) found ≡ Some number
    → (descriptor : Descriptor) × (found ≡ Some descriptor) × (descriptor.number ≡ number)
descriptor_of None number e = absurd cc
descriptor_of (Some descriptor) number e = (descriptor, refl, ap (λ o. unwrap_or o number) e)

set_back : {A : Type 0} (xs : List (Option A)) (i : ℕ) (x : Option A) → get_or xs i None ≡ None → set (set xs i x) i None ≡ xs
set_back [] i x e = refl
set_back (y ∷ xs) zero x e = ap (λ z. z ∷ xs) (sym e)
set_back (y ∷ xs) (suc i) x e = ap (λ zs. y ∷ zs) (set_back xs i x e)

module _ (files : Files) (fd new : ℕ) (cloexec : Bool) (number : ℕ) (at : number_at files.table fd ≡ Some number) (low : new < length files.table.fds)
    (free : slot files.table.fds new ≡ None) where
  abbrev copy : Option Descriptor
  copy = Some (record { number = number; cloexec = cloexec })

  abbrev shared : Descriptors Description
  shared = record files.table { fds = with_slot files.table.fds new copy }

  abbrev there : Files
  there = record files { table = shared }

  fds_back : with_slot shared.fds new None ≡ files.table.fds
  fds_back = set_back files.table.fds new copy free

  leads_here : list_any (leads_to number) files.table.fds ≡ true
  leads_here =
      let mine = descriptor_of (slot files.table.fds fd) number at in
      list_any_at (leads_to number) files.table.fds fd None (within files.table.fds fd mine.0 mine.1) (ap (λ o. leads_to number o) mine.1 ∙ ap (λ n. n == number) mine.2 ∙ same number)

  new_number : number_at shared new ≡ Some number
  new_number = ap (λ o. option_map (λ d. d.number) o) (get_or-set_same files.table.fds new copy None low)

  closed_back : after_close there new ≡ files
  unfolding after_close closed last_description
  closed_back =
      ap (λ o. after_last (record there { table = closed_at shared new o }) (last_at shared new o)) new_number
      ∙ ap (λ b. after_last (record there { table = record { fds = with_slot shared.fds new None; live = if b then files.table.live else with_slot files.table.live number None } })
      (if b then None else slot files.table.live number)) (ap (λ fds. list_any (leads_to number) fds) fds_back ∙ leads_here)
      ∙ ap (λ fds. record files { table = record files.table { fds = fds } }) fds_back

module _ (files : Files) (fd : ℕ) (from : Option ℕ) (cloexec : Bool) where
  abbrev IsUndone : Files → ℕ → Type 0
  IsUndone state new = (close state new).state ≡ files

  undone : (description : Description) → opened files fd ≡ Some description → (least new : ℕ) → lowest_free files.table.fds least ≡ Some new
      → IsUndone (after_duplicate files fd new cloexec) new
  unfolding close
  undone description open_as least new e = by (number_at files.table fd) refl where
    place : IsLeastFree files.table.fds least new
    place = least_free files.table.fds least new e

    by : (found : Option ℕ) → number_at files.table fd ≡ found → IsUndone (record files { table = shared_at files.table new cloexec found }) new
    by None f = absurd (let wrong : None ≡ Some description = sym (ap (λ o. option_and_then (λ n. slot files.table.live n) o) f) ∙ open_as in cc)
    by (Some number) f =
        let open_there : opened (there files fd new cloexec number f place.within place.free) new ≡ Some description
        = ap (λ o. option_and_then (λ n. slot files.table.live n) o) (new_number files fd new cloexec number f place.within place.free)
        ∙ sym (ap (λ o. option_and_then (λ n. slot files.table.live n) o) f) ∙ open_as in
        ap (λ o. (with_some {V = Unit {0}} (there files fd new cloexec number f place.within place.free) EBADF o
        (λ _. done (after_close (there files fd new cloexec number f place.within place.free) new) tt)).state) open_there
        ∙ closed_back files fd new cloexec number f place.within place.free

  duplicate_says : Says IsUndone (duplicate files fd from cloexec)
  unfolding duplicate
  duplicate_says = search (says, undone) depth 14

  pub close_undoes : (new : ℕ) → (duplicate files fd from cloexec).came ≡ Done new → (close (duplicate files fd from cloexec).state new).state ≡ files
  close_undoes new e = duplicate_says.said new e

-- A description that changes is shown so.

module _ (files : Files) (fd : ℕ) (old : Description) (open_as : opened files fd ≡ Some old) where
  opened_after : (item : Description) → opened (record files { table = with_description files.table fd item }) fd ≡ Some item
  opened_after item = by (number_at files.table fd) refl where
    by : (found : Option ℕ) → number_at files.table fd ≡ found → option_and_then (λ n. slot (changed_at files.table found item).live n) (number_at (changed_at files.table found item) fd) ≡ Some item
    by None e = absurd (let wrong : None ≡ Some old = sym (ap (λ o. option_and_then (λ n. slot files.table.live n) o) e) ∙ open_as in cc)
    by (Some number) e =
        let there : slot files.table.live number ≡ Some old = sym (ap (λ o. option_and_then (λ n. slot files.table.live n) o) e) ∙ open_as in
        ap (λ o. option_and_then (λ n. slot (with_slot files.table.live number (Some item)) n) o) e
        ∙ get_or-set_same files.table.live number (Some item) None (within files.table.live number old there)

  pub shows_flags : (append nonblock : Bool)
      → (status_flags (set_status_flags files fd append nonblock).state fd).came ≡ Done (record old.flags { append = append; nonblock = nonblock })
  unfolding status_flags set_status_flags
  shows_flags append nonblock = ap (λ state. (status_flags state fd).came) first ∙ second where
    flags : OpenSet
    flags = record old.flags { append = append; nonblock = nonblock }

    first : (set_status_flags files fd append nonblock).state ≡ with_flags files fd old flags
    first = ap (λ o. (with_some {V = Unit {0}} files EBADF o (λ d. done (with_flags files fd d (record d.flags { append = append; nonblock = nonblock })) tt)).state) open_as

    second : (status_flags (with_flags files fd old flags) fd).came ≡ Done flags
    second = ap (λ o. (with_some {V = OpenSet} (with_flags files fd old flags) EBADF o (λ d. done (with_flags files fd old flags) d.flags)).came) (opened_after (record old { flags = flags }))

  -- where a descriptor stands after a seek

  module _ (node position : ℕ) (is_node : node_of old.object ≡ Some node) (fits : is_position (pos position) ≡ true) where
    abbrev at : Description
    at = record old { position = position }

    abbrev moved : Files
    moved = moved_to files fd old position

    abbrev shown : Option Description → Came ℕ
    shown o =
        (with_some {V = ℕ} moved EBADF o (λ d. with_some moved ESPIPE (node_of d.object) (λ n. with_some moved EINVAL (seek_from moved.nodes d n 1) (λ start.
        let place = pos start +ℤ pos 0 in refused_if (not (is_position place)) EINVAL moved (done (moved_to moved fd d (nat_abs place)) (nat_abs place)))))).came

    abbrev shown_node : Option ℕ → Came ℕ
    shown_node o =
        (with_some {V = ℕ} moved ESPIPE o (λ n. with_some moved EINVAL (seek_from moved.nodes at n 1) (λ start.
        let place = pos start +ℤ pos 0 in refused_if (not (is_position place)) EINVAL moved (done (moved_to moved fd at (nat_abs place)) (nat_abs place))))).came

    abbrev shown_if : Bool → Came ℕ
    shown_if b = (refused_if {V = ℕ} (not b) EINVAL moved (done (moved_to moved fd at position) position)).came

    same_place : pos position +ℤ pos 0 ≡ pos position
    same_place = omega (arith, ints)

    pub stands : (seek moved fd (pos 0) 1).came ≡ Done position
    unfolding seek
    stands =
        ap shown (opened_after at) ∙ ap shown_node is_node
        ∙ ap (λ place. (refused_if {V = ℕ} (not (is_position place)) EINVAL moved (done (moved_to moved fd at (nat_abs place)) (nat_abs place))).came) same_place
        ∙ ap shown_if fits

-- Chance goes on where it stopped.

one_more : (at other length : ℕ) → at % length ≡ other % length → (at + 1) % length ≡ (other + 1) % length
one_more at other length e = sym (mod-add-mod at length 1) ∙ ap (λ n. (n + 1) % length) e ∙ mod-add-mod other length 1

round_from : (bytes : List ℕ) (at other count : ℕ) → at % length bytes ≡ other % length bytes → round bytes at count ≡ round bytes other count
unfolding round
round_from bytes at other zero e = refl
round_from bytes at other (suc count) e =
    λ i. slice_index bytes (e i) ∷ round_from bytes (at + 1) (other + 1) count (one_more at other (length bytes) e) i

round_on : (bytes : List ℕ) (at first second : ℕ) → round bytes at (first + second) ≡ round bytes at first ++ round bytes (at + first) second
unfolding round
round_on bytes at zero second = λ i. round bytes (let here : at ≡ at + 0 = omega arith in here i) (let none : 0 + second ≡ second = omega arith in none i)
round_on bytes at (suc first) second =
    ap (λ n. round bytes at n) (let more : suc first + second ≡ suc (first + second) = omega arith in more)
    ∙ ap (λ rest. slice_index bytes (at % length bytes) ∷ rest) (round_on bytes (at + 1) first second)
    ∙ ap (λ n. (slice_index bytes (at % length bytes) ∷ round bytes (at + 1) first) ++ round bytes n second) (let here : at + 1 + first ≡ at + suc first = omega arith in here)

pub chance_on : (chance : Chance) (first second : ℕ)
    → round chance.bytes chance.at (first + second) ≡ round chance.bytes chance.at first ++ round chance.bytes (after_chance chance first).at second
chance_on chance first second =
    round_on chance.bytes chance.at first second
    ∙ ap (λ rest. round chance.bytes chance.at first ++ rest)
    (round_from chance.bytes (chance.at + first) ((chance.at + first) % length chance.bytes) second (sym (mod_twice (chance.at + first) (length chance.bytes)))) where
      mod_twice : (n m : ℕ) → n % m % m ≡ n % m
      mod_twice n m = ap (λ k. k % m) (let none : n % m ≡ n % m + 0 = omega arith in none) ∙ mod-add-mod n m 0 ∙ ap (λ k. k % m) (let none : n + 0 ≡ n = omega arith in none)

pub chance_place : (chance : Chance) (first second : ℕ) → after_chance (after_chance chance first) second ≡ after_chance chance (first + second)
chance_place chance first second =
    ap (λ at. record chance { at = at })
    (mod-add-mod (chance.at + first) (length chance.bytes) second ∙ ap (λ n. n % length chance.bytes) (let whole : chance.at + first + second ≡ chance.at + (first + second) = omega arith in whole))

-- A pipe gives its bytes in the order in which they were put.

abbrev read_step : Pipe → ℕ → Bool → Bool → Bool → PipeStep (List ℕ)
read_step pipe most a b c =
    if a then becomes (record pipe { bytes = drop most pipe.bytes }) (Done (take most pipe.bytes))
    else (if b then stays (Done []) else (if c then stays (Refused EAGAIN) else stays (waits_after 0)))

pub read_in_order : (pipe : Pipe) (nonblock : Bool) (most : ℕ) (given : List ℕ) → (read_pipe pipe nonblock most).came ≡ Done given
    → given ++ (unwrap_or (read_pipe pipe nonblock most).pipe pipe).bytes ≡ pipe.bytes
read_in_order pipe nonblock most given = by (not (is_empty_list pipe.bytes)) (not pipe.writers) nonblock where
  by : (a b c : Bool) → (read_step pipe most a b c).came ≡ Done given → given ++ (unwrap_or (read_step pipe most a b c).pipe pipe).bytes ≡ pipe.bytes
  by true b c e = let same : take most pipe.bytes ≡ given = cc in ap (λ xs. xs ++ drop most pipe.bytes) (sym same) ∙ take-append-drop most pipe.bytes
  by false true c e = let same : [] ≡ given = cc in ap (λ xs. xs ++ pipe.bytes) (sym same)
  by false false true e = absurd cc
  by false false false e = absurd cc

abbrev part_step : Pipe → List ℕ → ℕ → Bool → Bool → PipeStep ℕ
part_step pipe bytes count c d = if c then write_none d else write_some pipe d bytes count

abbrev write_step : Pipe → List ℕ → Bool → Bool → Bool → Bool → PipeStep ℕ
write_step pipe bytes a b c d =
    if a then stays (Refused EPIPE) else (if b then becomes (put pipe bytes) (Done (length bytes)) else part_step pipe bytes (part_length pipe bytes) c d)

pub written_behind : (pipe : Pipe) (nonblock : Bool) (bytes : List ℕ) (count : ℕ) → (write_pipe pipe nonblock bytes).came ≡ Done count
    → (unwrap_or (write_pipe pipe nonblock bytes).pipe pipe).bytes ≡ pipe.bytes ++ take count bytes
written_behind pipe nonblock bytes count = by (not pipe.readers) (nat_le (length bytes) (room pipe)) (part_length pipe bytes == 0) nonblock where
  by : (a b c d : Bool) → (write_step pipe bytes a b c d).came ≡ Done count → (unwrap_or (write_step pipe bytes a b c d).pipe pipe).bytes ≡ pipe.bytes ++ take count bytes
  by true b c d e = absurd cc
  by false true c d e = let same : length bytes ≡ count = cc in ap (λ xs. pipe.bytes ++ xs) (sym (take_all (length bytes) bytes (omega arith)) ∙ ap (λ n. take n bytes) same)
  by false false true true e = absurd cc
  by false false true false e = absurd cc
  by false false false true e = let same : part_length pipe bytes ≡ count = cc in ap (λ n. pipe.bytes ++ take n bytes) same
  by false false false false e = absurd cc
