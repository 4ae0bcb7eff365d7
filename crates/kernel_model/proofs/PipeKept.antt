-- A new pipe keeps what files always are.
use Rattle.std.proofs.Common.{◌≡◌, ◌≢◌, ℕ, ◌+◌, ◌<◌, length, Bool, true, false, refl, sym, ◌∙◌, ap, subst, arith}
use Rattle.std.specs.Prelude.{Option, Some, None, is_some, is_none, option_map, unwrap_or, position, count_by, ◌==◌, if◌then◌else◌}
use Rattle.std.specs.List.{list_any}
use Rattle.std.proofs.lemmas.List.{length-set, get_or-set_same, drop-set-lt}
use Rattle.std.proofs.lemmas.List.Folds.{list_any_at}
use Rattle.kernel_core.specs.declared.error.Errno.TheVariants.{EMFILE}
use Rattle.kernel_core.specs.declared.open_flags.Access.TheVariants.{Read, Write}
use Rattle.kernel_model.proofs.Described.{slot_cases, any_set, count_set}
use Rattle.kernel_model.proofs.DuplicateKept.{any_more}
use Rattle.kernel_model.proofs.LeastFree.{least_free}
use Rattle.kernel_model.proofs.Pigeons.{description_place, pipe_place}
use Rattle.kernel_model.specs.Always.{IsFiles, IsTable, IsPipe, IsOpen, any_open, has_open, is_node, is_read_end, is_write_end, fits_object}
use Rattle.kernel_model.specs.Came.{done, with_some}
use Rattle.kernel_model.specs.DescriptorRows.{PipeFlags, ends, end_flags, after_pipe, make_pipe}
use Rattle.kernel_model.specs.Descriptions.{description_of, kept_flags, no_flags}
use Rattle.kernel_model.specs.Laws.{IsLeastFree}
use Rattle.kernel_model.specs.Pipes.{new_pipe, pipe_at}
use Rattle.kernel_model.specs.State.{Files, Descriptors, Pipe}
use Rattle.kernel_model.specs.Table.{slot, with_slot, lowest_free, new_place, inserted, leads_to}
use Rattle.kernel_model.specs.declared.descriptor.Descriptor.{Descriptor}
use Rattle.kernel_model.specs.declared.descriptor.Description.{Description}
use Rattle.kernel_model.specs.declared.descriptor.Object.{Object}
use Rattle.kernel_model.specs.declared.descriptor.Object.TheVariants as objects

same : (n : ℕ) → (n == n) ≡ true
same n = grind arith

apart : (a b : ℕ) → a ≢ b → (b == a) ≡ false
apart a b e = grind (arith, e)

-- A new description with its first descriptor

module _ (table : Descriptors Description) (is : IsTable table) (fd : ℕ) (item : Description) (cloexec : Bool)
    (within : fd < length table.fds) (free : slot table.fds fd ≡ None) (least : IsLeastFree table.live 0 (new_place table.live)) where
  abbrev first : Option Descriptor
  first = Some (record { number = new_place table.live; cloexec = cloexec })

  lives_more : (m : ℕ) → is_some (slot table.live m) ≡ true → is_some (slot (with_slot table.live (new_place table.live) (Some item)) m) ≡ true
  lives_more m = slot_cases table.live (new_place table.live) m (Some item) least.within (λ o. is_some (slot table.live m) ≡ true → is_some o ≡ true) (λ e h. refl) (λ e h. h)

  leads_there : is_some (slot (with_slot table.live (new_place table.live) (Some item)) (new_place table.live)) ≡ true
  leads_there = ap (λ o. is_some o) (get_or-set_same table.live (new_place table.live) (Some item) None least.within)

  led_there : (m : ℕ) → m ≡ new_place table.live → list_any (leads_to m) (with_slot table.fds fd first) ≡ true
  led_there m e =
      let long : fd < length (with_slot table.fds fd first) = omega (arith, within, length-set table.fds fd first) in
      let leads : leads_to m first ≡ true = ap (λ n. n == m) (sym e) ∙ same m in
      list_any_at (leads_to m) (with_slot table.fds fd first) fd None long (ap (λ o. leads_to m o) (get_or-set_same table.fds fd first None within) ∙ leads)

  pub inserted_table : IsTable (inserted table fd item cloexec)
  inserted_table = record {
    fds = length-set table.fds fd first ∙ is.fds;
    live = length-set table.live (new_place table.live) (Some item) ∙ is.live;
    leads = λ k descriptor h.
        slot_cases table.fds fd k first within
        (λ o. o ≡ Some descriptor → is_some (slot (with_slot table.live (new_place table.live) (Some item)) descriptor.number) ≡ true)
        (λ e g. let number_is : new_place table.live ≡ descriptor.number = ap (λ o. unwrap_or (option_map (λ d. d.number) o) 0) g in
        subst (λ n. is_some (slot (with_slot table.live (new_place table.live) (Some item)) n) ≡ true) number_is leads_there)
        (λ e g. lives_more descriptor.number (is.leads k descriptor g)) h;
    used = λ m h.
        slot_cases table.live (new_place table.live) m (Some item) least.within
        (λ o. is_some o ≡ true → list_any (leads_to m) (with_slot table.fds fd first) ≡ true)
        (λ e g. led_there m e)
        (λ e g. any_more (leads_to m) table.fds fd first None (ap (λ o. leads_to m o) free) (is.used m g)) h;
  }

  -- what is asked of all descriptions, where the new one says no
  any_same : (test : Object → Bool) → test item.object ≡ false → list_any (has_open test) (with_slot table.live (new_place table.live) (Some item)) ≡ list_any (has_open test) table.live
  any_same test denied = any_set (has_open test) table.live (new_place table.live) (Some item) None (denied ∙ sym (ap (λ o. has_open test o) least.free))

  count_same : (test : Object → Bool) → test item.object ≡ false → count_by (has_open test) (with_slot table.live (new_place table.live) (Some item)) ≡ count_by (has_open test) table.live
  count_same test denied = count_set (has_open test) table.live (new_place table.live) (Some item) None least.within (denied ∙ sym (ap (λ o. has_open test o) least.free))

  -- where it says yes
  any_new : (test : Object → Bool) → test item.object ≡ true → list_any (has_open test) (with_slot table.live (new_place table.live) (Some item)) ≡ true
  any_new test granted =
      let long : new_place table.live < length (with_slot table.live (new_place table.live) (Some item)) = omega (arith, least.within, length-set table.live (new_place table.live) (Some item)) in
      list_any_at (has_open test) (with_slot table.live (new_place table.live) (Some item)) (new_place table.live) None long
      (ap (λ o. has_open test o) (get_or-set_same table.live (new_place table.live) (Some item) None least.within) ∙ granted)

  -- where one said yes before
  any_still : (test : Object → Bool) → list_any (has_open test) table.live ≡ true → list_any (has_open test) (with_slot table.live (new_place table.live) (Some item)) ≡ true
  any_still test before = any_more (has_open test) table.live (new_place table.live) (Some item) None (ap (λ o. has_open test o) least.free) before

  new_or_old : (m : ℕ) (description : Description) (P : Description → Type 0) → P item → (slot table.live m ≡ Some description → P description)
      → slot (with_slot table.live (new_place table.live) (Some item)) m ≡ Some description → P description
  new_or_old m description P new old h =
      slot_cases table.live (new_place table.live) m (Some item) least.within (λ o. o ≡ Some description → P description)
      (λ e g. subst P (ap (λ o. unwrap_or o item) g) new) (λ e g. old g) h

module _ (files : Files) (is : IsFiles files) (flags : PipeFlags) (read write : ℕ)
    (r : lowest_free files.table.fds 0 ≡ Some read) (w : lowest_free files.table.fds (read + 1) ≡ Some write) where
  abbrev number : ℕ
  number = new_place files.flow.pipes

  place : IsLeastFree files.flow.pipes 0 number
  place = pipe_place files is 0 read r

  abbrev reading : Description
  reading = description_of (objects.ReadEnd number) (end_flags flags (no_flags Read))

  abbrev writing : Description
  writing = description_of (objects.WriteEnd number) (end_flags flags (no_flags Write))

  abbrev with_reading : Descriptors Description
  with_reading = inserted files.table read reading flags.cloexec

  first_free : IsLeastFree files.table.fds 0 read
  first_free = least_free files.table.fds 0 read r

  first_place : IsLeastFree files.table.live 0 (new_place files.table.live)
  first_place = description_place files.table is.table 0 read r

  first_table : IsTable with_reading
  first_table = inserted_table files.table is.table read reading flags.cloexec first_free.within first_free.free first_place

  second : lowest_free with_reading.fds (read + 1) ≡ Some write
  second =
      ap (λ xs. option_map (λ k. read + 1 + k) (position (λ s. is_none s) xs))
      (drop-set-lt (read + 1) files.table.fds read (Some (record { number = new_place files.table.live; cloexec = flags.cloexec })) (omega arith)) ∙ w

  second_free : IsLeastFree with_reading.fds (read + 1) write
  second_free = least_free with_reading.fds (read + 1) write second

  second_place : IsLeastFree with_reading.live 0 (new_place with_reading.live)
  second_place = description_place with_reading first_table (read + 1) write second

  abbrev after : Files
  after = after_pipe files flags number (ends read write)

  any_kept : (test : Object → Bool) → test reading.object ≡ false → test writing.object ≡ false → any_open after test ≡ any_open files test
  any_kept test f g =
      any_same with_reading first_table write writing flags.cloexec second_free.within second_free.free second_place test g
      ∙ any_same files.table is.table read reading flags.cloexec first_free.within first_free.free first_place test f

  readers_are : any_open after (is_read_end number) ≡ true
  readers_are =
      any_still with_reading first_table write writing flags.cloexec second_free.within second_free.free second_place (is_read_end number)
      (any_new files.table is.table read reading flags.cloexec first_free.within first_free.free first_place (is_read_end number) (same number))

  writers_are : any_open after (is_write_end number) ≡ true
  writers_are = any_new with_reading first_table write writing flags.cloexec second_free.within second_free.free second_place (is_write_end number) (same number)

  pipe_is : (at : ℕ) (pipe : Pipe) → pipe_at after.flow at ≡ Some pipe → IsPipe after at pipe
  pipe_is at pipe h =
      slot_cases files.flow.pipes number at (Some new_pipe) place.within (λ o. o ≡ Some pipe → IsPipe after at pipe)
      (λ e g.
      let mine : IsPipe after number new_pipe = record { small = omega arith; are_bytes = λ k d h. absurd (omega (arith, h)); used = refl; readers = sym readers_are; writers = sym writers_are } in
      subst (λ n. IsPipe after n pipe) (sym e) (subst (λ q. IsPipe after number q) (ap (λ o. unwrap_or o new_pipe) g) mine))
      (λ e g.
      let p = is.pipes at pipe g in
      record {
        small = p.small;
        are_bytes = p.are_bytes;
        used = p.used;
        readers = p.readers ∙ sym (any_kept (is_read_end at) (apart at number e) refl);
        writers = p.writers ∙ sym (any_kept (is_write_end at) refl (apart at number e));
      }) h

  there : is_some (pipe_at after.flow number) ≡ true
  there = ap (λ o. is_some o) (get_or-set_same files.flow.pipes number (Some new_pipe) None place.within)

  more_ends : (at : ℕ) → is_some (pipe_at files.flow at) ≡ true → is_some (pipe_at after.flow at) ≡ true
  more_ends at = slot_cases files.flow.pipes number at (Some new_pipe) place.within (λ o. is_some (pipe_at files.flow at) ≡ true → is_some o ≡ true) (λ e h. refl) (λ e h. h)

  still_open : (description : Description) (object : Object) → IsOpen files description object → IsOpen after description object
  still_open description (objects.Stream stream) h = h
  still_open description (objects.ReadEnd pipe) h = (more_ends pipe h.0, h.1)
  still_open description (objects.WriteEnd pipe) h = (more_ends pipe h.0, h.1)
  still_open description (objects.Node node) h = h

  each : (P : Description → Type 0) → P reading → P writing → ((m : ℕ) (d : Description) → slot files.table.live m ≡ Some d → P d)
      → (m : ℕ) (description : Description) → slot after.table.live m ≡ Some description → P description
  each P one two old m description h =
      new_or_old with_reading first_table write writing flags.cloexec second_free.within second_free.free second_place m description P two
      (new_or_old files.table is.table read reading flags.cloexec first_free.within first_free.free first_place m description P one (old m description)) h

  pub pipe_kept : IsFiles after
  pipe_kept = record {
    nodes = is.nodes;
    table = inserted_table with_reading first_table write writing flags.cloexec second_free.within second_free.free second_place;
    places = length-set files.flow.pipes number (Some new_pipe) ∙ is.places;
    pipes = pipe_is;
    moved = is.moved;
    opens = each (λ d. IsOpen after d d.object) (there, refl) (there, refl) (λ m d e. still_open d d.object (is.opens m d e));
    kept = each (λ d. kept_flags d.flags ≡ d.flags) refl refl is.kept;
    fits = each (λ d. fits_object files.nodes d.flags.access d.object ≡ true) refl refl is.fits;
    directory = is.directory;
    holds = λ node. is.holds node ∙ ap (λ n. n + (if files.directory == node then 1 else 0))
        (sym (count_same with_reading first_table write writing flags.cloexec second_free.within second_free.free second_place (is_node node) refl
        ∙ count_same files.table is.table read reading flags.cloexec first_free.within first_free.free first_place (is_node node) refl));
    umask = is.umask;
  }

pub make_pipe_kept : (files : Files) (flags : Option PipeFlags) → IsFiles files → IsFiles (make_pipe files flags).state
unfolding make_pipe
make_pipe_kept files None is = is
make_pipe_kept files (Some flags) is = by (lowest_free files.table.fds 0) refl where
  second : (read : ℕ) → lowest_free files.table.fds 0 ≡ Some read → (found : Option ℕ) → lowest_free files.table.fds (read + 1) ≡ found
      → IsFiles (with_some files EMFILE found (λ write. done (after_pipe files flags (new_place files.flow.pipes) (ends read write)) (ends read write))).state
  second read r None w = is
  second read r (Some write) w = pipe_kept files is flags read write r w

  by : (found : Option ℕ) → lowest_free files.table.fds 0 ≡ found
      → IsFiles (with_some files EMFILE found (λ read. with_some files EMFILE (lowest_free files.table.fds (read + 1)) (λ write.
      done (after_pipe files flags (new_place files.flow.pipes) (ends read write)) (ends read write)))).state
  by None r = is
  by (Some read) r = second read r (lowest_free files.table.fds (read + 1)) refl
