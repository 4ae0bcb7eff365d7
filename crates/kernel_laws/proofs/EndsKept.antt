-- Each row on files leaves every end of a pipe one description at most.
use Rattle.std.proofs.Common.{◌≡◌, ℕ, suc, ◌+◌, ◌≤◌, List, [], ◌∷◌, length, Bool, true, false, refl, sym, ◌∙◌, ap, arith, inl, inr}
use Rattle.std.specs.Prelude.{Option, Some, None, is_some, option_and_then, unwrap_or, count_by, ◌==◌, ℤ}
use Rattle.std.proofs.lemmas.Bool.{cases_eq, eq-eqb, ne_eqb}
use Rattle.std.proofs.lemmas.List.{set_past}
use Rattle.std.proofs.lemmas.List.Sums.{sum_by-cons}
use Rattle.kernel_core.specs.Nodes.{Nodes, NodeContent, File, Directory, Link}
use Rattle.kernel_core.specs.declared.open_flags.Access.TheVariants.{Read, Write}
use Rattle.kernel_laws.proofs.CloseKept.{same_live, shared_live}
use Rattle.kernel_laws.proofs.Keeps.{Keeps, keeps}
use Rattle.kernel_laws.proofs.Lists.{count_changed, one_if}
use Rattle.kernel_laws.specs.Ends.{HasEndsOnce}
use Rattle.kernel_model.proofs.Described.{count_set, within}
use Rattle.kernel_model.proofs.LeastFree.{least_free}
use Rattle.kernel_model.proofs.Pigeons.{pipe_place}
use Rattle.kernel_model.specs.Always.{IsFiles, IsOpen, has_open, is_read_end, is_write_end}
use Rattle.kernel_model.specs.Came.{Given}
use Rattle.kernel_model.specs.ContentRows.{Records, bytes_ready, entries, seek, set_terminal_settings, status, sync, terminal_settings, window_size, with_settings}
use Rattle.kernel_model.specs.DescriptorRows.{PipeFlags, after_duplicate, after_pipe, close_on_exec, duplicate, end_flags, ends, make_pipe, set_close_on_exec, set_nonblock, set_status_flags, status_flags, unlisted_command, unlisted_request, with_flags}
use Rattle.kernel_model.specs.Descriptions.{description_of, no_flags, opened}
use Rattle.kernel_model.specs.NameRows.{link, make_directory, make_link, read_link, remove_name, rename, with_nodes}
use Rattle.kernel_model.specs.NodeRows.{StatusFlags, TimeChanges, Times, access, after_change, after_mode, after_times, change_directory, change_mode, change_open_mode, change_to_open, on_open_node, set_times, set_umask, status_at_path, status_of_base, times_on, truncate, truncate_content, truncate_open, working_directory}
use Rattle.kernel_model.specs.Paths.{Base, Descriptor, Working}
use Rattle.kernel_model.specs.Pipes.{pipe_at}
use Rattle.kernel_model.specs.Shared.{OpenSet}
use Rattle.kernel_model.specs.State.{Files}
use Rattle.kernel_model.specs.Table.{changed_at, lowest_free, new_place, number_at, slot, with_cloexec, with_description, with_slot}
use Rattle.kernel_model.specs.Transfers.{moved_to}
use Rattle.kernel_model.specs.declared.descriptor.Description.{Description}
use Rattle.kernel_model.specs.declared.descriptor.Object.{Object}
use Rattle.kernel_model.specs.declared.descriptor.Object.TheVariants as objects
use Rattle.kernel_model.specs.declared.terminal.Terminal.{Terminal}
use Rattle.kernel_model.specs.declared.terminal.TerminalSettings.{TerminalSettings}

-- A new pipe

-- something new is counted once at most
inserted_count : {A : Type 0} (test : Option A → Bool) (slots : List (Option A)) (item : A) → test None ≡ false
    → count_by test (with_slot slots (new_place slots) (Some item)) ≤ count_by test slots + one_if (test (Some item))
inserted_count {A = A} test slots item none = by (lowest_free slots 0) refl where
  by : (found : Option ℕ) → lowest_free slots 0 ≡ found
      → count_by test (with_slot slots (unwrap_or found (length slots)) (Some item)) ≤ count_by test slots + one_if (test (Some item))
  by None e =
      let same : count_by test (with_slot slots (length slots) (Some item)) ≡ count_by test slots = ap (λ xs. count_by test xs) (set_past slots (length slots) (Some item) (omega arith)) in
      omega (arith, same)
  by (Some number) e =
      let free = least_free slots 0 number e in
      let counts = count_changed test slots number (Some item) None free.within in
      omega (arith, counts)

none_pass : {A : Type 0} (test : Option A → Bool) (slots : List (Option A)) → ((k : ℕ) → test (slot slots k) ≡ false) → count_by test slots ≡ 0
none_pass test [] h = refl
none_pass test (s ∷ slots) h =
    let first : one_if (test s) ≡ 0 = ap one_if (h 0) in
    omega (arith, first, none_pass test slots (λ k. h (suc k)), sum_by-cons (λ o. one_if (test o)) s slots)

module _ (files : Files) (is : IsFiles files) (once : HasEndsOnce files) (flags : PipeFlags) (read write : ℕ) (unused : lowest_free files.table.fds 0 ≡ Some read) where
  abbrev number : ℕ
  number = new_place files.flow.pipes

  free : pipe_at files.flow number ≡ None
  free = (pipe_place files is 0 read unused).free

  -- no description has the new pipe's ends open
  none_open : (test : Object → Bool) → ((description : Description) (object : Object) → IsOpen files description object → test object ≡ false)
      → count_by (has_open test) files.table.live ≡ 0
  none_open test denied = none_pass (has_open test) files.table.live (λ k. by k (slot files.table.live k) refl) where
    by : (k : ℕ) (found : Option Description) → slot files.table.live k ≡ found → has_open test (slot files.table.live k) ≡ false
    by k None e = ap (λ o. has_open test o) e
    by k (Some description) e = ap (λ o. has_open test o) e ∙ denied description description.object (is.opens k description e)

  not_there : (pipe : ℕ) → is_some (pipe_at files.flow pipe) ≡ true → (pipe == number) ≡ false
  not_there pipe there = elim (cases_eq pipe number) [
    | inl here ↦ absurd (let wrong : false ≡ true = sym (ap (λ o. is_some o) free) ∙ ap (λ n. is_some (pipe_at files.flow n)) (sym here) ∙ there in cc)
    | inr apart ↦ ne_eqb pipe number apart
  ]

  reads_none : (description : Description) (object : Object) → IsOpen files description object → is_read_end number object ≡ false
  reads_none description (objects.Stream stream) h = refl
  reads_none description (objects.ReadEnd pipe) h = not_there pipe h.0
  reads_none description (objects.WriteEnd pipe) h = refl
  reads_none description (objects.Node node) h = refl

  writes_none : (description : Description) (object : Object) → IsOpen files description object → is_write_end number object ≡ false
  writes_none description (objects.Stream stream) h = refl
  writes_none description (objects.ReadEnd pipe) h = refl
  writes_none description (objects.WriteEnd pipe) h = not_there pipe h.0
  writes_none description (objects.Node node) h = refl

  abbrev after : Files
  after = after_pipe files flags number (ends read write)

  abbrev reading_end : Description
  reading_end = description_of (objects.ReadEnd number) (end_flags flags (no_flags Read))

  abbrev writing_end : Description
  writing_end = description_of (objects.WriteEnd number) (end_flags flags (no_flags Write))

  counted : (test : Object → Bool)
      → count_by (has_open test) after.table.live ≤ count_by (has_open test) files.table.live + one_if (test (objects.ReadEnd number)) + one_if (test (objects.WriteEnd number))
  counted test =
      let first = inserted_count (has_open test) files.table.live reading_end refl in
      let second = inserted_count (has_open test) (with_slot files.table.live (new_place files.table.live) (Some reading_end)) writing_end refl in
      omega (arith, first, second)

  pub after_pipe_ends : HasEndsOnce after
  after_pipe_ends = record {
    reads = λ pipe. elim (cases_eq number pipe) [
      | inl here ↦
          let none : count_by (has_open (is_read_end pipe)) files.table.live ≡ 0 = ap (λ n. count_by (has_open (is_read_end n)) files.table.live) (sym here) ∙ none_open (is_read_end number) reads_none in
          let one : one_if (number == pipe) ≡ 1 = ap one_if (eq-eqb number pipe here) in
          omega (arith, counted (is_read_end pipe), none, one)
      | inr apart ↦
          let no : one_if (number == pipe) ≡ 0 = ap one_if (ne_eqb number pipe apart) in
          omega (arith, counted (is_read_end pipe), no, once.reads pipe)
    ];
    writes = λ pipe. elim (cases_eq number pipe) [
      | inl here ↦
          let none : count_by (has_open (is_write_end pipe)) files.table.live ≡ 0 = ap (λ n. count_by (has_open (is_write_end n)) files.table.live) (sym here) ∙ none_open (is_write_end number) writes_none in
          let one : one_if (number == pipe) ≡ 1 = ap one_if (eq-eqb number pipe here) in
          omega (arith, counted (is_write_end pipe), none, one)
      | inr apart ↦
          let no : one_if (number == pipe) ≡ 0 = ap one_if (ne_eqb number pipe apart) in
          omega (arith, counted (is_write_end pipe), no, once.writes pipe)
    ];
  }

-- A description that changes and has the same object open

module _ (files : Files) (once : HasEndsOnce files) where
  described_ends : (fd : ℕ) (old item : Description) → opened files fd ≡ Some old → item.object ≡ old.object
      → HasEndsOnce (record files { table = with_description files.table fd item })
  described_ends fd old item open_as same = by (number_at files.table fd) refl where
    by : (found : Option ℕ) → number_at files.table fd ≡ found → HasEndsOnce (record files { table = changed_at files.table found item })
    by None e = same_live files _ refl once
    by (Some number) e = record { reads = λ k. still (is_read_end k) (once.reads k); writes = λ k. still (is_write_end k) (once.writes k) } where
      there : slot files.table.live number ≡ Some old
      there = sym (ap (λ o. option_and_then (λ n. slot files.table.live n) o) e) ∙ open_as

      still : (test : Object → Bool) → count_by (has_open test) files.table.live ≤ 1 → count_by (has_open test) (with_slot files.table.live number (Some item)) ≤ 1
      still test few =
          let counts = count_set (has_open test) files.table.live number (Some item) None (within files.table.live number old there) (ap test same ∙ ap (λ o. has_open test o) (sym there)) in
          omega (arith, counts, few)

  pub moved_ends : (fd : ℕ) (description : Description) → opened files fd ≡ Some description → (position : ℕ) → HasEndsOnce (moved_to files fd description position)
  moved_ends fd description e position = described_ends fd description (record description { position = position }) e refl

  flags_end : (fd : ℕ) (description : Description) → opened files fd ≡ Some description → (flags : OpenSet) → HasEndsOnce (with_flags files fd description flags)
  flags_end fd description e flags = described_ends fd description (record description { flags = flags }) e refl

  live_stays : (new : Files) → new.table.live ≡ files.table.live → HasEndsOnce new
  live_stays new e = same_live files new e once

  nodes_end : (nodes : Nodes) → HasEndsOnce (with_nodes files nodes)
  nodes_end nodes = live_stays _ refl

  -- Descriptors

  shared_ends : (fd new : ℕ) (cloexec : Bool) → HasEndsOnce (after_duplicate files fd new cloexec)
  shared_ends fd new cloexec = live_stays _ (shared_live files fd new cloexec)

  pub duplicate_ends : (fd : ℕ) (from : Option ℕ) (cloexec : Bool) → Keeps HasEndsOnce (duplicate files fd from cloexec)
  unfolding duplicate
  duplicate_ends fd from cloexec = search (keeps, shared_ends, once) depth 14

  pub make_pipe_ends : IsFiles files → (flags : Option PipeFlags) → Keeps HasEndsOnce (make_pipe files flags)
  unfolding make_pipe
  make_pipe_ends is flags = search (keeps, after_pipe_ends files is once, once) depth 14

  cloexec_ends : (fd : ℕ) (cloexec : Bool) → HasEndsOnce (record files { table = with_cloexec files.table fd cloexec })
  cloexec_ends fd cloexec = live_stays _ refl

  pub close_on_exec_ends : (fd : ℕ) → Keeps HasEndsOnce (close_on_exec files fd)
  unfolding close_on_exec
  close_on_exec_ends fd = search (keeps, once) depth 14

  pub set_close_on_exec_ends : (fd : ℕ) (cloexec : Bool) → Keeps HasEndsOnce (set_close_on_exec files fd cloexec)
  unfolding set_close_on_exec
  set_close_on_exec_ends fd cloexec = search (keeps, cloexec_ends, once) depth 14

  pub status_flags_ends : (fd : ℕ) → Keeps HasEndsOnce (status_flags files fd)
  unfolding status_flags
  status_flags_ends fd = search (keeps, once) depth 14

  pub set_status_flags_ends : (fd : ℕ) (append nonblock : Bool) → Keeps HasEndsOnce (set_status_flags files fd append nonblock)
  unfolding set_status_flags
  set_status_flags_ends fd append nonblock = search (keeps, flags_end, once) depth 14

  pub set_nonblock_ends : (fd : ℕ) (on : Given Bool) → Keeps HasEndsOnce (set_nonblock files fd on)
  unfolding set_nonblock
  set_nonblock_ends fd on = search (keeps, flags_end, once) depth 14

  pub unlisted_command_ends : (fd : ℕ) → Keeps HasEndsOnce (unlisted_command files fd)
  unfolding unlisted_command
  unlisted_command_ends fd = search (keeps, once) depth 14

  pub unlisted_request_ends : (fd : ℕ) → Keeps HasEndsOnce (unlisted_request files fd)
  unfolding unlisted_request
  unlisted_request_ends fd = search (keeps, once) depth 14

  -- What is open

  pub seek_ends : (fd : ℕ) (offset : ℤ) (origin : ℕ) → Keeps HasEndsOnce (seek files fd offset origin)
  unfolding seek
  seek_ends fd offset origin = search (keeps, moved_ends, once) depth 18

  pub status_ends : (fd : ℕ) → Keeps HasEndsOnce (status files fd)
  unfolding status
  status_ends fd = search (keeps, once) depth 14

  pub entries_ends : (fd : ℕ) (records : Records) (size room : ℕ) → Keeps HasEndsOnce (entries files fd records size room)
  unfolding entries
  entries_ends fd records size room = search (keeps, moved_ends, once) depth 18

  pub sync_ends : (fd : ℕ) → Keeps HasEndsOnce (sync files fd)
  unfolding sync
  sync_ends fd = search (keeps, once) depth 14

  pub bytes_ready_ends : (fd : ℕ) → Keeps HasEndsOnce (bytes_ready files fd)
  unfolding bytes_ready
  bytes_ready_ends fd = search (keeps, once) depth 14

  settings_end : (terminal : Terminal) (settings : TerminalSettings) → HasEndsOnce (with_settings files terminal settings)
  settings_end terminal settings = live_stays _ refl

  pub terminal_settings_ends : (fd : ℕ) → Keeps HasEndsOnce (terminal_settings files fd)
  unfolding terminal_settings
  terminal_settings_ends fd = search (keeps, once) depth 14

  pub set_terminal_settings_ends : (fd : ℕ) (settings : Given TerminalSettings) → Keeps HasEndsOnce (set_terminal_settings files fd settings)
  unfolding set_terminal_settings
  set_terminal_settings_ends fd settings = search (keeps, settings_end, once) depth 14

  pub window_size_ends : (fd : ℕ) → Keeps HasEndsOnce (window_size files fd)
  unfolding window_size
  window_size_ends fd = search (keeps, once) depth 14

  -- Names

  pub make_directory_ends : (now : ℤ) (base : Base) (path : Given (List ℕ)) (mode : ℕ) → Keeps HasEndsOnce (make_directory files now base path mode)
  unfolding make_directory
  make_directory_ends now base path mode = search (keeps, nodes_end, once) depth 14

  pub remove_name_ends : (now : ℤ) (base : Base) (path : Given (List ℕ)) (directory : Option Bool) → Keeps HasEndsOnce (remove_name files now base path directory)
  unfolding remove_name
  remove_name_ends now base path directory = search (keeps, nodes_end, once) depth 18

  pub link_ends : (now : ℤ) (old_base : Base) (old_path : Given (List ℕ)) (new_base : Base) (new_path : Given (List ℕ)) (follow : Option Bool)
      → Keeps HasEndsOnce (link files now old_base old_path new_base new_path follow)
  unfolding link
  link_ends now old_base old_path new_base new_path follow = search (keeps, nodes_end, once) depth 18

  pub make_link_ends : (now : ℤ) (target : Given (List ℕ)) (base : Base) (path : Given (List ℕ)) → Keeps HasEndsOnce (make_link files now target base path)
  unfolding make_link
  make_link_ends now target base path = search (keeps, nodes_end, once) depth 18

  pub rename_ends : (now : ℤ) (old_base : Base) (old_path : Given (List ℕ)) (new_base : Base) (new_path : Given (List ℕ))
      → Keeps HasEndsOnce (rename files now old_base old_path new_base new_path)
  unfolding rename
  rename_ends now old_base old_path new_base new_path = search (keeps, nodes_end, once) depth 18

  pub read_link_ends : (base : Base) (path : Given (List ℕ)) (size : ℤ) → Keeps HasEndsOnce (read_link files base path size)
  unfolding read_link
  read_link_ends base path size = search (keeps, once) depth 14

  -- Nodes

  open_node_ends : (node : Option ℕ) (change : ℕ → Files) → ((number : ℕ) → HasEndsOnce (change number)) → Keeps HasEndsOnce (on_open_node files node change)
  open_node_ends None change h = search (keeps, once) depth 14
  open_node_ends (Some node) change h = search (keeps, h) depth 14

  base_ends : (base : Base) → Keeps HasEndsOnce (status_of_base files base)
  base_ends Working = search (keeps, once) depth 14
  base_ends (Descriptor fd) = status_ends fd

  pub status_at_path_ends : (base : Base) (path : Given (List ℕ)) (flags : Option StatusFlags) → Keeps HasEndsOnce (status_at_path files base path flags)
  unfolding status_at_path
  status_at_path_ends base path flags = search (keeps, base_ends, once) depth 14

  pub access_ends : (base : Base) (path : Given (List ℕ)) (mode : ℕ) → Keeps HasEndsOnce (access files base path mode)
  unfolding access
  access_ends base path mode = search (keeps, once) depth 14

  pub change_mode_ends : (now : ℤ) (base : Base) (path : Given (List ℕ)) (mode : ℕ) → Keeps HasEndsOnce (change_mode files now base path mode)
  unfolding change_mode
  change_mode_ends now base path mode = search (keeps, nodes_end, once) depth 14

  mode_end : (now : ℤ) (mode node : ℕ) → HasEndsOnce (after_mode files now mode node)
  mode_end now mode node = nodes_end _

  times_end : (now : ℤ) (changes : TimeChanges) (node : ℕ) → HasEndsOnce (after_times files now changes node)
  times_end now changes node = nodes_end _

  pub change_open_mode_ends : (now : ℤ) (fd mode : ℕ) → Keeps HasEndsOnce (change_open_mode files now fd mode)
  unfolding change_open_mode
  change_open_mode_ends now fd mode = search (keeps, open_node_ends, mode_end, once) depth 14

  times_on_ends : (now : ℤ) (changes : TimeChanges) (base : Base) (follow : Bool) (path : Option (List ℕ)) → Keeps HasEndsOnce (times_on files now changes base follow path)
  times_on_ends now changes base follow (Some path) = search (keeps, times_end, once) depth 14
  times_on_ends now changes Working follow None = search (keeps, once) depth 14
  times_on_ends now changes (Descriptor fd) follow None = search (keeps, open_node_ends, times_end, once) depth 14

  pub set_times_ends : (now : ℤ) (base : Base) (path : Option (Given (List ℕ))) (times : Option (Given Times)) (follow : Option Bool)
      → Keeps HasEndsOnce (set_times files now base path times follow)
  unfolding set_times
  set_times_ends now base path times follow = search (keeps, times_on_ends, once) depth 14

  truncate_content_ends : (now : ℤ) (node size : ℕ) (content : Option NodeContent) → Keeps HasEndsOnce (truncate_content files now node size content)
  truncate_content_ends now node size None = search (keeps, once) depth 14
  truncate_content_ends now node size (Some (File content)) = search (keeps, nodes_end, once) depth 14
  truncate_content_ends now node size (Some (Directory listing)) = search (keeps, once) depth 14
  truncate_content_ends now node size (Some (Link target)) = search (keeps, once) depth 14

  pub truncate_ends : (now : ℤ) (base : Base) (path : Given (List ℕ)) (size : ℤ) → Keeps HasEndsOnce (truncate files now base path size)
  unfolding truncate
  truncate_ends now base path size = search (keeps, truncate_content_ends, once) depth 14

  pub truncate_open_ends : (now : ℤ) (fd : ℕ) (size : ℤ) → Keeps HasEndsOnce (truncate_open files now fd size)
  unfolding truncate_open
  truncate_open_ends now fd size = search (keeps, truncate_content_ends, once) depth 14

  change_end : (directory : ℕ) → HasEndsOnce (after_change files directory)
  change_end directory = live_stays _ refl

  pub change_directory_ends : (path : Given (List ℕ)) → Keeps HasEndsOnce (change_directory files path)
  unfolding change_directory
  change_directory_ends path = search (keeps, change_end, once) depth 14

  pub change_to_open_ends : (fd : ℕ) → Keeps HasEndsOnce (change_to_open files fd)
  unfolding change_to_open
  change_to_open_ends fd = search (keeps, change_end, once) depth 14

  pub working_directory_ends : (size : ℕ) → Keeps HasEndsOnce (working_directory files size)
  unfolding working_directory
  working_directory_ends size = search (keeps, once) depth 14

  umask_end : (umask : ℕ) → HasEndsOnce (record files { umask = umask })
  umask_end umask = live_stays _ refl

  pub set_umask_ends : (umask : ℕ) → Keeps HasEndsOnce (set_umask files umask)
  unfolding set_umask
  set_umask_ends umask = search (keeps, umask_end, once) depth 14
