-- What descriptors lead to after open and pipe.
use Rattle.std.proofs.Common.{◌≡◌, ◌≢◌, ℕ, ◌+◌, ◌<◌, List, length, Bool, true, false, refl, sym, ◌∙◌, ap, subst, arith}
use Rattle.std.specs.Prelude.{Option, Some, None, is_none, option_and_then, option_map, position, unwrap_or, Ok, Result, ℤ, if◌then◌else◌}
use Rattle.std.proofs.lemmas.List.{drop-set-lt, get_or-set_other, get_or-set_same}
use Rattle.kernel_core.specs.NodeCalls.{after_resize}
use Rattle.kernel_core.specs.PathWalk.{Place}
use Rattle.kernel_core.specs.Queries.{new_number}
use Rattle.kernel_core.specs.declared.error.Errno.{Errno}
use Rattle.kernel_core.specs.declared.error.Errno.TheVariants.{EMFILE}
use Rattle.kernel_core.specs.declared.open_flags.Access.TheVariants.{Read, Write}
use Rattle.kernel_laws.specs.Ends.{LeadToPipe}
use Rattle.kernel_laws.proofs.Says.{Says, done_says, says, some_says}
use Rattle.kernel_model.proofs.LeastFree.{least_free}
use Rattle.kernel_model.proofs.Pigeons.{description_place, pipe_place}
use Rattle.kernel_model.proofs.PipeKept.{inserted_table}
use Rattle.kernel_model.specs.Always.{IsFiles, IsTable}
use Rattle.kernel_model.specs.Came.{Done}
use Rattle.kernel_model.specs.DescriptorRows.{Ends, PipeFlags, after_pipe, end_flags, ends, make_pipe}
use Rattle.kernel_model.specs.Descriptions.{description_of, no_flags, opened}
use Rattle.kernel_model.specs.Laws.{IsLeastFree}
use Rattle.kernel_model.specs.Opening.{after_open, create, follows, open_file, open_place, truncated}
use Rattle.kernel_model.specs.Paths.{Base, walk}
use Rattle.kernel_model.specs.Pipes.{new_pipe}
use Rattle.kernel_model.specs.Shared.{OpenSet}
use Rattle.kernel_model.specs.State.{Descriptors, Files}
use Rattle.kernel_model.specs.Table.{description_at, inserted, lowest_free, new_place, slot}
use Rattle.kernel_model.specs.declared.descriptor.Descriptor.{Descriptor}
use Rattle.kernel_model.specs.declared.descriptor.Description.{Description}
use Rattle.kernel_model.specs.declared.descriptor.Object.TheVariants as objects

-- A new descriptor leads to its description.

module _ (table : Descriptors Description) (fd : ℕ) (item : Description) (cloexec : Bool) (low : fd < length table.fds) (place : IsLeastFree table.live 0 (new_place table.live)) where
  new_leads : description_at (inserted table fd item cloexec) fd ≡ Some item
  new_leads =
      ap (λ o. option_and_then (λ n. slot (inserted table fd item cloexec).live n) (option_map (λ d. d.number) o))
      (get_or-set_same table.fds fd (Some (record { number = new_place table.live; cloexec = cloexec })) None low)
      ∙ get_or-set_same table.live (new_place table.live) (Some item) None place.within

  -- and others where they led
  others_lead : (other : ℕ) (description : Description) → other ≢ fd → description_at table other ≡ Some description → description_at (inserted table fd item cloexec) other ≡ Some description
  others_lead other description apart e =
      ap (λ o. option_and_then (λ n. slot (inserted table fd item cloexec).live n) (option_map (λ d. d.number) o))
      (get_or-set_other table.fds fd other (Some (record { number = new_place table.live; cloexec = cloexec })) None apart)
      ∙ by (slot table.fds other) refl where
        by : (found : Option Descriptor) → slot table.fds other ≡ found
            → option_and_then (λ n. slot (inserted table fd item cloexec).live n) (option_map (λ d. d.number) (slot table.fds other)) ≡ Some description
        by None f = absurd (let wrong : None ≡ Some description = sym (ap (λ o. option_and_then (λ n. slot table.live n) (option_map (λ d. d.number) o)) f) ∙ e in cc)
        by (Some descriptor) f =
            let there : slot table.live descriptor.number ≡ Some description = sym (ap (λ o. option_and_then (λ n. slot table.live n) (option_map (λ d. d.number) o)) f) ∙ e in
            let free : descriptor.number ≢ new_place table.live
            = λ s. (let wrong : Some description ≡ None = sym there ∙ ap (λ n. slot table.live n) s ∙ place.free in absurd cc) in
            ap (λ o. option_and_then (λ n. slot (inserted table fd item cloexec).live n) (option_map (λ d. d.number) o)) f
            ∙ get_or-set_other table.live (new_place table.live) descriptor.number (Some item) None free ∙ there

-- open

same_place : (first second : Place) → ◌≡◌ {A = Result Place Errno} (Ok first) (Ok second) → first ≡ second
same_place first second e = cc

module _ (files : Files) (is : IsFiles files) (limit : Option ℕ) (now : ℤ) (base : Base) (path : List ℕ) (flags : OpenSet) (mode : ℕ) (place : Place)
    (led : walk files base path (follows flags) ≡ Ok place) where
  abbrev LeadsToNode : Files → ℕ → Type 0
  LeadsToNode state fd = opened state fd ≡ Some (description_of (objects.Node (unwrap_or place.node (new_number files.nodes))) flags)

  -- the table is that of before
  module _ (fd : ℕ) (free : lowest_free files.table.fds 0 ≡ Some fd) where
    leads : (node : ℕ) → opened (after_open files flags fd node) fd ≡ Some (description_of (objects.Node node) flags)
    leads node =
        new_leads files.table fd (description_of (objects.Node node) flags) flags.cloexec (least_free files.table.fds 0 fd free).within (description_place files.table is.table 0 fd free)

    made : place.node ≡ None → LeadsToNode (after_open (create files now mode place) flags fd (new_number files.nodes)) fd
    made e = leads (new_number files.nodes) ∙ ap (λ o. Some (description_of (objects.Node (unwrap_or o (new_number files.nodes))) flags)) (sym e)

    found : (node : ℕ) → place.node ≡ Some node → LeadsToNode (after_open (truncated files now flags node) flags fd node) fd
    found node e = by flags.trunc where
      by : (b : Bool) → LeadsToNode (after_open (if b then record files { nodes = after_resize files.nodes node 0 now } else files) flags fd node) fd
      by true = leads node ∙ ap (λ o. Some (description_of (objects.Node (unwrap_or o (new_number files.nodes))) flags)) (sym e)
      by false = leads node ∙ ap (λ o. Some (description_of (objects.Node (unwrap_or o (new_number files.nodes))) flags)) (sym e)

    place_says : (node : Option ℕ) → place.node ≡ node → Says LeadsToNode (open_place files limit now path flags mode fd place node)
    place_says None e = search (says, made e) depth 14
    place_says (Some node) e = search (says, found node e) depth 14

  at_place : (fd : ℕ) → lowest_free files.table.fds 0 ≡ Some fd → (other : Place) → walk files base path (follows flags) ≡ Ok other
      → Says LeadsToNode (open_place files limit now path flags mode fd other other.node)
  at_place fd free other e =
      let same : place ≡ other = same_place place other (sym led ∙ e) in
      subst (λ p. Says LeadsToNode (open_place files limit now path flags mode fd p p.node)) same (place_says fd free place.node refl)

  open_says : Says LeadsToNode (open_file files limit now base (Ok path) (Some flags) mode)
  unfolding open_file
  open_says = search (says, at_place) depth 18

  pub open_leads : (fd : ℕ) → (open_file files limit now base (Ok path) (Some flags) mode).came ≡ Done fd
      → opened (open_file files limit now base (Ok path) (Some flags) mode).state fd ≡ Some (description_of (objects.Node (unwrap_or place.node (new_number files.nodes))) flags)
  open_leads fd e = open_says.said fd e

-- pipe

module _ (files : Files) (is : IsFiles files) (flags : PipeFlags) where
  abbrev number : ℕ
  number = new_place files.flow.pipes

  abbrev reading : Description
  reading = description_of (objects.ReadEnd number) (end_flags flags (no_flags Read))

  abbrev writing : Description
  writing = description_of (objects.WriteEnd number) (end_flags flags (no_flags Write))

  abbrev LeadsToPipe : Files → Ends → Type 0
  LeadsToPipe state at = LeadToPipe state at number flags

  module _ (read write : ℕ) (r : lowest_free files.table.fds 0 ≡ Some read) (w : lowest_free files.table.fds (read + 1) ≡ Some write) where
    first_place : IsLeastFree files.table.live 0 (new_place files.table.live)
    first_place = description_place files.table is.table 0 read r

    first_free : IsLeastFree files.table.fds 0 read
    first_free = least_free files.table.fds 0 read r

    abbrev first : Descriptors Description
    first = inserted files.table read reading flags.cloexec

    first_table : IsTable first
    first_table = inserted_table files.table is.table read reading flags.cloexec first_free.within first_free.free first_place

    second : lowest_free first.fds (read + 1) ≡ Some write
    second =
        ap (λ xs. option_map (λ k. read + 1 + k) (position (λ s. is_none s) xs))
        (drop-set-lt (read + 1) files.table.fds read (Some (record { number = new_place files.table.live; cloexec = flags.cloexec })) (omega arith)) ∙ w

    second_free : IsLeastFree first.fds (read + 1) write
    second_free = least_free first.fds (read + 1) write second

    second_place : IsLeastFree first.live 0 (new_place first.live)
    second_place = description_place first first_table (read + 1) write second

    led_there : LeadsToPipe (after_pipe files flags number (ends read write)) (ends read write)
    led_there = record {
      read =
          others_lead first write writing flags.cloexec second_free.within second_place read reading (λ e. omega (arith, e, second_free.from_there))
          (new_leads files.table read reading flags.cloexec first_free.within first_place);
      write = new_leads first write writing flags.cloexec second_free.within second_place;
      pipe = get_or-set_same files.flow.pipes number (Some new_pipe) None (pipe_place files is 0 read r).within;
    }

  pipe_says : Says LeadsToPipe (make_pipe files (Some flags))
  unfolding make_pipe
  pipe_says =
      some_says LeadsToPipe files EMFILE (lowest_free files.table.fds 0) _ (λ read r. some_says LeadsToPipe files EMFILE (lowest_free files.table.fds (read + 1)) _ (λ write w.
      done_says LeadsToPipe _ _ (led_there read write r w)))

  pub pipe_leads : (at : Ends) → (make_pipe files (Some flags)).came ≡ Done at → LeadToPipe (make_pipe files (Some flags)).state at number flags
  pipe_leads at e = pipe_says.said at e
