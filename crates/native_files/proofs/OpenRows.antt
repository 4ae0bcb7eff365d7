-- The row that opens what a path names, from what the walk and the call on the nodes gave.
use Rattle.std.proofs.Common.{◌≡◌, ℕ, ◌%◌, ℤ, Bool, true, false, List, Option, Some, None, refl, sym, ap, subst, ◌∙◌}
use Rattle.std.specs.Prelude.{Result, Ok, Err, ◌&&◌, not, if◌then◌else◌}
use Rattle.kernel_core.specs.NameCalls.{make_refusal}
use Rattle.kernel_core.specs.NodeCalls.{after_resize}
use Rattle.kernel_core.specs.PathWalk.{Place}
use Rattle.kernel_core.specs.declared.core_error.CoreError.{CoreError}
use Rattle.kernel_core.specs.declared.core_error.CoreError.TheVariants as errors
use Rattle.kernel_core.specs.declared.core_error.Stop.TheVariants as stops
use Rattle.kernel_core.specs.declared.error.Errno.{Errno}
use Rattle.kernel_core.specs.declared.error.Errno.TheVariants.{EEXIST, EINVAL, EMFILE, ENOENT}
use Rattle.kernel_model.specs.Came.{Did, done, refused_by, refused_if, with_given, with_some}
use Rattle.kernel_model.specs.Descriptions.{content_at}
use Rattle.kernel_model.specs.Modes.{permitted}
use Rattle.kernel_model.specs.Opening.{after_open, follows, kind_refusal, open_file, open_place}
use Rattle.kernel_model.specs.Paths.{Base, is_missing_before_slash, walk}
use Rattle.kernel_model.specs.Shared.{OpenSet}
use Rattle.kernel_model.specs.State.{Descriptors, Files, Flow}
use Rattle.kernel_model.specs.Table.{lowest_free}
use Rattle.kernel_model.specs.declared.descriptor.Description.{Description}
use Rattle.kernel_model.specs.declared.terminal.Terminal.{Terminal}
use Rattle.native_vfs.specs.Keyed.{Keyed, number_at as node_at, place_at}
use Rattle.native_vfs.specs.declared.place.Place.{Place as KeyedPlace}
use Rattle.native_files.specs.Answers.{Answers}
use Rattle.native_files.specs.inside.Openings.{Opened, OpensAt, opened_at, unless_refused}
use Rattle.native_files.specs.inside.Walks.{LeadsTo, walk_in}
use Rattle.native_files.proofs.NamedRows.{walk-lost, walked-to}
use Rattle.native_files.proofs.NameSteps.{seen}

-- the row by the node that is opened
module _ (files : Files) (time : ℤ) (path : List ℕ) (flags : OpenSet) (mode fd : ℕ) where
  abbrev finished : Opened → Did Files ℕ
  finished found = done (after_open (record files { nodes = found.nodes }) flags fd found.node) fd

  by_refusal : (refusal : Option Errno) (found : Opened) → refused_by refusal files (finished found) ≡ with_given files (unless_refused refusal found) finished
  by_refusal None found = refl
  by_refusal (Some error) found = refl

  by_test : (wrong : Bool) (error : Errno) (rest : Result Opened Errno) (step : Did Files ℕ) → step ≡ with_given files rest finished
      → refused_if wrong error files step ≡ with_given files (if wrong then Err error else rest) finished
  by_test true error rest step is = refl
  by_test false error rest step is = is

  cut : (node : ℕ) (b : Bool) → done (after_open (if b then record files { nodes = after_resize files.nodes node 0 time } else files) flags fd node) fd
      ≡ finished (record { nodes = if b then after_resize files.nodes node 0 time else files.nodes; node = node })
  cut node true = refl
  cut node false = refl

  pub open_place-is : (place : Place) (node : Option ℕ)
      → open_place files None time path flags mode fd place node ≡ with_given files (opened_at files.nodes time path flags (permitted files.umask (mode % 0x1000)) place node) finished
  open_place-is place None =
      by_test (not flags.creat) ENOENT _ _ (by_test (is_missing_before_slash path place) ENOENT _ _ (by_refusal (make_refusal files.nodes place) _))
  open_place-is place (Some node) =
      by_test (flags.creat && flags.excl) EEXIST _ _
      (ap (refused_by (kind_refusal None flags (content_at files.nodes node)) files) (cut node flags.trunc)
      ∙ by_refusal (kind_refusal None flags (content_at files.nodes node)) _)

-- the answer with the descriptor
abbrev pub with_fd : ℕ → Result (Unit {0}) CoreError → Result ℕ CoreError
with_fd fd (Ok value) = Ok fd
with_fd fd (Err error) = Err error

module _ (table : Descriptors Description) (flow : Flow) (directory umask : ℕ) (terminal : Option Terminal) (system : Keyed) (base : Base) (path : List ℕ) (time : ℤ) (flags : OpenSet) (mode : ℕ)
    (allowed : (flags.creat && flags.directory) ≡ false) where
  abbrev files : Files
  files = seen table flow directory umask terminal system

  abbrev row : Did Files ℕ
  row = open_file files None time base (Ok path) (Some flags) mode

  abbrev placed : ℕ → Place → Did Files ℕ
  placed fd place = open_place files None time path flags mode fd place place.node

  abbrev numbered : ℕ → Did Files ℕ
  numbered fd = with_given files (walk files base path (follows flags)) (placed fd)

  row_is : row ≡ with_some files EMFILE (lowest_free table.fds 0) numbered
  unfolding open_file
  row_is = ap (λ b. refused_if b EINVAL files (with_some files EMFILE (lowest_free table.fds 0) numbered)) allowed

  pub open-full : lowest_free table.fds 0 ≡ None → Answers row (Err (errors.Refused EMFILE)) files
  open-full none =
      subst (λ (step : Did Files ℕ). Answers step (Err (errors.Refused EMFILE)) files) (sym (row_is ∙ ap (λ o. with_some files EMFILE o numbered) none)) (refl, refl)

  module _ (fd : ℕ) (least : lowest_free table.fds 0 ≡ Some fd) where
    numbered_is : row ≡ numbered fd
    numbered_is = row_is ∙ ap (λ o. with_some files EMFILE o numbered) least

    pub open-lost : (error : CoreError) → LeadsTo system (walk_in system.nodes table (node_at system directory) base path (follows flags)) (Err error) → Answers row (Err error) files
    open-lost error leads =
        subst (λ (step : Did Files ℕ). Answers step (Err error) files) (sym numbered_is) (walk-lost table flow directory umask terminal system base path (follows flags) (placed fd) error leads)

    module _ (at : KeyedPlace) (leads : LeadsTo system (walk_in system.nodes table (node_at system directory) base path (follows flags)) (Ok at))
        (bits : ℕ) (bits_are : bits ≡ permitted umask (mode % 0x1000)) (now_as : ℤ) (same : now_as ≡ time) where
      abbrev place : Place
      place = place_at system at

      abbrev found : ℕ → ℤ → Result Opened Errno
      found bits time = opened_at system.nodes time path flags bits place place.node

      at_place : row ≡ with_given files (found (permitted umask (mode % 0x1000)) time) (finished files time path flags mode fd)
      at_place =
          numbered_is ∙ ap (λ (r : Result Place Errno). with_given files r (placed fd)) (walked-to table flow directory umask terminal system base path (follows flags) at leads)
          ∙ open_place-is files time path flags mode fd place place.node

      module _ (new : Keyed) (now_table : Descriptors Description) (home : node_at new directory ≡ node_at system directory) where
        abbrev after : Files
        after = seen now_table flow directory umask terminal new

        opened_answers : (walked : Result Opened Errno) (result : Result (Unit {0}) CoreError) → OpensAt system.nodes table walked fd flags result new.nodes now_table
            → Answers (with_given files walked (finished files time path flags mode fd)) (with_fd fd result) after
        opened_answers walked (Ok value) is =
            subst (λ (w : Result Opened Errno). Answers (with_given files w (finished files time path flags mode fd)) (Ok fd) after) (sym is.1)
            (refl, λ i. record { nodes = is.2 i; table = is.3 i; flow = flow; directory = home i; umask = umask; terminal = terminal })
        opened_answers walked (Err (errors.Refused error)) is =
            subst (λ (w : Result Opened Errno). Answers (with_given files w (finished files time path flags mode fd)) (Err (errors.Refused error)) after) (sym is.0)
            (refl, λ i. record { nodes = is.1 i; table = is.2 i; flow = flow; directory = home i; umask = umask; terminal = terminal })
        opened_answers walked (Err (errors.Stop stops.NoMemory)) is = tt
        opened_answers walked (Err (errors.Stop stops.ReadFault)) is = is
        opened_answers walked (Err (errors.Stop stops.WriteFault)) is = is

        pub open-row : (result : Result (Unit {0}) CoreError) → OpensAt system.nodes table (found bits now_as) fd flags result new.nodes now_table
            → Answers row (with_fd fd result) after
        open-row result is =
            subst (λ (step : Did Files ℕ). Answers step (with_fd fd result) after) (sym at_place)
            (opened_answers (found (permitted umask (mode % 0x1000)) time) result
            (subst (λ (w : Result Opened Errno). OpensAt system.nodes table w fd flags result new.nodes now_table) (λ i. found (bits_are i) (same i)) is))
