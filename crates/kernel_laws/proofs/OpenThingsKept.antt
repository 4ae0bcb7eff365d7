-- The rows on descriptors and on what they have open that change no node keep what files always are.
use Rattle.std.proofs.Common.{◌≡◌, ℕ, zero, suc, ◌≤◌, ◌<◌, ◌%◌, ◌-◌, ◌⊎◌, List, [], ◌∷◌, length, Bool, true, false, ◌||◌, refl, sym, ◌∙◌, ap, subst, arith, inl, inr}
use Rattle.std.specs.Prelude.{All, Option, Some, None, is_some, option_map, unwrap_or, filter, map, nat_lt, ℤ, if◌then◌else◌}
use Rattle.std.proofs.lemmas.Bool.{cases_eq, cases_lt}
use Rattle.std.proofs.lemmas.List.{length-set, get_or-set_same, get_or-set_other, set_past}
use Rattle.std.proofs.lemmas.List.Elements.{All-filter}
use Rattle.kernel_core.specs.FileContent.{greatest_size}
use Rattle.kernel_core.specs.FileSystem.{IsLiveContent}
use Rattle.kernel_core.specs.Nodes.{Listing, NodeContent, File, Directory, Link, listing_at}
use Rattle.kernel_core.specs.ValidTree.{IsEntry}
use Rattle.kernel_core.specs.declared.tree.DirEntry.{DirEntry}
use Rattle.file_system_laws.proofs.Lookups.{directory_found}
use Rattle.kernel_laws.proofs.Keeps.{Keeps, keeps, transferring_keeps}
use Rattle.kernel_model.proofs.Described.{any_set}
use Rattle.kernel_model.proofs.DescribedRows.{moved_kept, open_facts}
use Rattle.kernel_model.specs.Always.{IsFiles, IsOpen, IsTable}
use Rattle.kernel_model.specs.Came.{Given}
use Rattle.kernel_model.specs.ContentRows.{Entry, Records, all_entries, bytes_ready, entries, entry_of, fitting, is_above, position_after, record_length, set_terminal_settings, status, sync, terminal_settings, window_size, with_settings}
use Rattle.kernel_model.specs.DescriptorRows.{close_on_exec, set_close_on_exec, status_flags, unlisted_command, unlisted_request}
use Rattle.kernel_model.specs.Descriptions.{node_of, opened}
use Rattle.kernel_model.specs.NameRows.{read_link}
use Rattle.kernel_model.specs.NodeRows.{StatusFlags, access, set_umask, status_at_path, status_of_base, working_directory}
use Rattle.kernel_model.specs.Paths.{Base, Descriptor as Based, Working}
use Rattle.kernel_model.specs.State.{Files}
use Rattle.kernel_model.specs.Table.{leads_to, set_cloexec, slot, with_cloexec, with_slot}
use Rattle.kernel_model.specs.Transfers.{moved_to, read_at, read_content}
use Rattle.kernel_model.specs.declared.descriptor.Descriptor.{Descriptor}
use Rattle.kernel_model.specs.declared.descriptor.Description.{Description}
use Rattle.kernel_model.specs.declared.descriptor.Object.{Object}
use Rattle.kernel_model.specs.declared.descriptor.Object.TheVariants as objects
use Rattle.kernel_model.specs.declared.terminal.Terminal.{Terminal}
use Rattle.kernel_model.specs.declared.terminal.TerminalSettings.{TerminalSettings}

module _ (files : Files) (is : IsFiles files) where
  -- Other descriptors, terminal or umask

  cloexec_leads : (number : ℕ) (cloexec : Bool) (descriptor : Option Descriptor) → leads_to number (option_map (set_cloexec cloexec) descriptor) ≡ leads_to number descriptor
  cloexec_leads number cloexec None = refl
  cloexec_leads number cloexec (Some descriptor) = refl

  module _ (fd : ℕ) (cloexec : Bool) where
    abbrev new : Option Descriptor
    new = option_map (set_cloexec cloexec) (slot files.table.fds fd)

    same_number : (found : Option Descriptor) (descriptor : Descriptor) → option_map (set_cloexec cloexec) found ≡ Some descriptor
        → (old : Descriptor) × (found ≡ Some old) × (old.number ≡ descriptor.number)
    same_number None descriptor e = absurd cc
    same_number (Some old) descriptor e = (old, refl, ap (λ o. unwrap_or (option_map (λ d. d.number) o) 0) e)

    at_place : (k : ℕ) → (slot (with_slot files.table.fds fd new) k ≡ option_map (set_cloexec cloexec) (slot files.table.fds k)) ⊎ (slot (with_slot files.table.fds fd new) k ≡ slot files.table.fds k)
    at_place k = elim (cases_eq k fd) [
      | inl here ↦ elim (cases_lt fd (length files.table.fds)) [
        | inl low ↦ inl (ap (λ n. slot (with_slot files.table.fds fd new) n) here ∙ get_or-set_same files.table.fds fd new None low ∙ ap (λ n. option_map (set_cloexec cloexec) (slot files.table.fds n)) (sym here))
        | inr past ↦ inr (ap (λ fds. slot fds k) (set_past files.table.fds fd new past))
      ]
      | inr other ↦ inr (get_or-set_other files.table.fds fd k new None other)
    ]

    leads : (k : ℕ) (descriptor : Descriptor) → slot (with_slot files.table.fds fd new) k ≡ Some descriptor → is_some (slot files.table.live descriptor.number) ≡ true
    leads k descriptor h = elim (at_place k) [
      | inl changed ↦
          let old = same_number (slot files.table.fds k) descriptor (sym changed ∙ h) in
          subst (λ n. is_some (slot files.table.live n) ≡ true) old.2 (is.table.leads k old.0 old.1)
      | inr stays ↦ is.table.leads k descriptor (sym stays ∙ h)
    ]

    cloexec_table : IsTable (with_cloexec files.table fd cloexec)
    cloexec_table = record {
      fds = length-set files.table.fds fd new ∙ is.table.fds;
      live = is.table.live;
      leads = leads;
      used = λ number h. any_set (leads_to number) files.table.fds fd new None (cloexec_leads number cloexec (slot files.table.fds fd)) ∙ is.table.used number h;
    }

    open_as : (description : Description) (object : Object) → IsOpen files description object → IsOpen (record files { table = with_cloexec files.table fd cloexec }) description object
    open_as description (objects.Stream stream) h = h
    open_as description (objects.ReadEnd pipe) h = h
    open_as description (objects.WriteEnd pipe) h = h
    open_as description (objects.Node node) h = h

    cloexec_kept : IsFiles (record files { table = with_cloexec files.table fd cloexec })
    cloexec_kept = record {
      nodes = is.nodes;
      table = cloexec_table;
      places = is.places;
      pipes = λ k pipe h. let p = is.pipes k pipe h in record { small = p.small; are_bytes = p.are_bytes; used = p.used; readers = p.readers; writers = p.writers };
      moved = is.moved;
      opens = λ k description h. open_as description description.object (is.opens k description h);
      kept = is.kept;
      fits = is.fits;
      directory = is.directory;
      holds = is.holds;
      umask = is.umask;
    }

  module _ (terminal : Option Terminal) (umask : ℕ) (small : umask < 512) where
    abbrev with_others : Files
    with_others = record files { terminal = terminal; umask = umask }

    open_with_others : (description : Description) (object : Object) → IsOpen files description object → IsOpen with_others description object
    open_with_others description (objects.Stream stream) h = h
    open_with_others description (objects.ReadEnd pipe) h = h
    open_with_others description (objects.WriteEnd pipe) h = h
    open_with_others description (objects.Node node) h = h

    set_kept : IsFiles with_others
    set_kept = record {
      nodes = is.nodes;
      table = is.table;
      places = is.places;
      pipes = λ k pipe h. let p = is.pipes k pipe h in record { small = p.small; are_bytes = p.are_bytes; used = p.used; readers = p.readers; writers = p.writers };
      moved = is.moved;
      opens = λ k description h. open_with_others description description.object (is.opens k description h);
      kept = is.kept;
      fits = is.fits;
      directory = is.directory;
      holds = is.holds;
      umask = small;
    }

  settings_kept : (terminal : Terminal) (settings : TerminalSettings) → IsFiles (with_settings files terminal settings)
  settings_kept terminal settings = set_kept (Some (record terminal { settings = settings })) files.umask is.umask

  pub set_terminal_settings_keeps : (fd : ℕ) (settings : Given TerminalSettings) → Keeps IsFiles (set_terminal_settings files fd settings)
  unfolding set_terminal_settings
  set_terminal_settings_keeps fd settings = search (keeps, settings_kept, is) depth 14

  umask_kept : (umask : ℕ) → IsFiles (record files { umask = umask % 0x200 })
  umask_kept umask = set_kept files.terminal (umask % 0x200) (omega arith)

  pub set_umask_keeps : (umask : ℕ) → Keeps IsFiles (set_umask files umask)
  unfolding set_umask
  set_umask_keeps umask = search (keeps, umask_kept, is) depth 14

  pub set_close_on_exec_keeps : (fd : ℕ) (cloexec : Bool) → Keeps IsFiles (set_close_on_exec files fd cloexec)
  unfolding set_close_on_exec
  set_close_on_exec_keeps fd cloexec = search (keeps, cloexec_kept, is) depth 14

  -- Rows that only ask

  pub close_on_exec_keeps : (fd : ℕ) → Keeps IsFiles (close_on_exec files fd)
  unfolding close_on_exec
  close_on_exec_keeps fd = search (keeps, is) depth 14

  pub status_flags_keeps : (fd : ℕ) → Keeps IsFiles (status_flags files fd)
  unfolding status_flags
  status_flags_keeps fd = search (keeps, is) depth 14

  pub unlisted_command_keeps : (fd : ℕ) → Keeps IsFiles (unlisted_command files fd)
  unfolding unlisted_command
  unlisted_command_keeps fd = search (keeps, is) depth 14

  pub unlisted_request_keeps : (fd : ℕ) → Keeps IsFiles (unlisted_request files fd)
  unfolding unlisted_request
  unlisted_request_keeps fd = search (keeps, is) depth 14

  pub status_keeps : (fd : ℕ) → Keeps IsFiles (status files fd)
  unfolding status
  status_keeps fd = search (keeps, is) depth 14

  pub sync_keeps : (fd : ℕ) → Keeps IsFiles (sync files fd)
  unfolding sync
  sync_keeps fd = search (keeps, is) depth 14

  pub bytes_ready_keeps : (fd : ℕ) → Keeps IsFiles (bytes_ready files fd)
  unfolding bytes_ready
  bytes_ready_keeps fd = search (keeps, is) depth 14

  pub terminal_settings_keeps : (fd : ℕ) → Keeps IsFiles (terminal_settings files fd)
  unfolding terminal_settings
  terminal_settings_keeps fd = search (keeps, is) depth 14

  pub window_size_keeps : (fd : ℕ) → Keeps IsFiles (window_size files fd)
  unfolding window_size
  window_size_keeps fd = search (keeps, is) depth 14

  pub read_link_keeps : (base : Base) (path : Given (List ℕ)) (size : ℤ) → Keeps IsFiles (read_link files base path size)
  unfolding read_link
  read_link_keeps base path size = search (keeps, is) depth 14

  base_keeps : (base : Base) → Keeps IsFiles (status_of_base files base)
  base_keeps Working = search (keeps, is) depth 14
  base_keeps (Based fd) = status_keeps fd

  pub status_at_path_keeps : (base : Base) (path : Given (List ℕ)) (flags : Option StatusFlags) → Keeps IsFiles (status_at_path files base path flags)
  unfolding status_at_path
  status_at_path_keeps base path flags = search (keeps, base_keeps, is) depth 14

  pub access_keeps : (base : Base) (path : Given (List ℕ)) (mode : ℕ) → Keeps IsFiles (access files base path mode)
  unfolding access
  access_keeps base path mode = search (keeps, is) depth 14

  pub working_directory_keeps : (size : ℕ) → Keeps IsFiles (working_directory files size)
  unfolding working_directory
  working_directory_keeps size = search (keeps, is) depth 14

  content_asked : (at most : ℕ) (content : Option NodeContent) → Keeps IsFiles (read_content files at most (λ _. files) content)
  content_asked at most None = search (keeps, is) depth 14
  content_asked at most (Some (File content)) = search (keeps, is) depth 14
  content_asked at most (Some (Directory listing)) = search (keeps, is) depth 14
  content_asked at most (Some (Link target)) = search (keeps, is) depth 14

  pub read_at_keeps : (fd : ℕ) (place : ℤ) (asked : Given ℕ) (room : ℕ) → Keeps IsFiles (read_at files fd place asked room)
  unfolding read_at
  read_at_keeps fd place asked room = search (keeps, transferring_keeps, content_asked, is) depth 18

  -- Entries

  abbrev IsLow : Entry → Type 0
  IsLow entry = entry.cookie ≤ greatest_size

  entries_low : (known : List DirEntry) → All IsEntry known → All IsLow (map (entry_of files.nodes) known)
  entries_low [] all k d h = absurd (omega (arith, h))
  entries_low (entry ∷ known) all zero d h = let e : IsEntry entry = all 0 entry (omega arith) in let low = e.high in omega (arith, low)
  entries_low (entry ∷ known) all (suc k) d h = entries_low known (λ i e low. all (suc i) e (omega (arith, low))) k d (omega (arith, h))

  all_low : (directory parent : ℕ) (known : List DirEntry) → All IsEntry known → All IsLow (all_entries files.nodes directory parent known)
  all_low directory parent known all zero d h = omega arith
  all_low directory parent known all (suc zero) d h = omega arith
  all_low directory parent known all (suc (suc k)) d h = entries_low known all k d (omega (arith, h))

  after_low : (given : List Entry) (position : ℕ) → position ≤ greatest_size → All IsLow given → position_after position given ≤ greatest_size
  after_low [] position low all = low
  after_low (entry ∷ given) position low all = after_low given entry.cookie (all 0 entry (omega arith)) (λ k d h. all (suc k) d (omega (arith, h)))

  fitting_low : (records : Records) (known : List Entry) (size : ℕ) → All IsLow known → All IsLow (fitting records size known)
  fitting_low records [] size all = all
  fitting_low records (entry ∷ known) size all =
      by (nat_lt size (record_length records entry) || is_above records.greatest entry.node)
      (fitting_low records known (size - record_length records entry) (λ k d h. all (suc k) d (omega (arith, h)))) where
        by : (b : Bool) → All IsLow (fitting records (size - record_length records entry) known)
            → All IsLow (if b then [] else entry ∷ fitting records (size - record_length records entry) known)
        by true rest k d h = absurd (omega (arith, h))
        by false rest zero d h = all 0 entry (omega arith)
        by false rest (suc k) d h = rest k d (omega (arith, h))

  listing_entries : (directory : ℕ) (listing : Listing) → listing_at files.nodes directory ≡ Some listing → All IsEntry listing.entries
  listing_entries directory listing e =
      let found = directory_found files.nodes directory listing e in
      (subst (λ c. IsLiveContent files.nodes directory (found.0).links c) found.2 (is.nodes.each directory found.0 found.1).content).entries.each

  position_low : (description : Description) (object : Object) (node : ℕ) → IsOpen files description object → node_of object ≡ Some node → description.position ≤ greatest_size
  position_low description (objects.Stream stream) node h e = absurd cc
  position_low description (objects.ReadEnd pipe) node h e = absurd cc
  position_low description (objects.WriteEnd pipe) node h e = absurd cc
  position_low description (objects.Node number) node h e = h.0

  given_kept : (fd : ℕ) (description : Description) → opened files fd ≡ Some description → (directory : ℕ) → node_of description.object ≡ Some directory → (listing : Listing)
      → listing_at files.nodes directory ≡ Some listing → (records : Records) (size parent : ℕ)
      → IsFiles (moved_to files fd description (position_after description.position (fitting records size
      (filter (λ e. nat_lt description.position e.cookie) (all_entries files.nodes directory parent listing.entries)))))
  given_kept fd description e directory node listing there records size parent =
      moved_kept files fd is description directory _ e node
      (after_low _ description.position (position_low description description.object directory (open_facts files fd description is e).0 node)
      (fitting_low records _ size
      (All-filter (λ e. nat_lt description.position e.cookie) IsLow (all_entries files.nodes directory parent listing.entries)
      (all_low directory parent listing.entries (listing_entries directory listing there)))))

  pub entries_keeps : (fd : ℕ) (records : Records) (size room : ℕ) → Keeps IsFiles (entries files fd records size room)
  unfolding entries
  entries_keeps fd records size room = search (keeps, given_kept, is) depth 18
