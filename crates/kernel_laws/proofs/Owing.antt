-- Files in which one object more is open than descriptions have: it is about to get a description, or has just lost its last one.
use Rattle.std.proofs.Common.{◌≡◌, ◌≢◌, ℕ, ◌+◌, ◌-◌, ◌<◌, ◌≤◌, length, Bool, true, false, ◌||◌, refl, sym, ◌∙◌, ap, subst, arith}
use Rattle.std.specs.Prelude.{All, Option, Some, None, is_some, unwrap_or, ◌==◌, ⊤, if◌then◌else◌}
use Rattle.std.proofs.lemmas.List.{length-set}
use Rattle.std.proofs.lemmas.List.Folds.{list_any_at}
use Rattle.kernel_core.specs.FileSystem.{IsFileSystem}
use Rattle.kernel_core.specs.NodeCalls.{released}
use Rattle.kernel_core.specs.Nodes.{Nodes, is_directory}
use Rattle.kernel_core.specs.Queries.{holds_at, kind_at}
use Rattle.file_system_laws.proofs.HeldNodes.{live_on, release_counts, release_kinds}
use Rattle.file_system_laws.proofs.NodeLaws.{release_keeps}
use Rattle.kernel_laws.proofs.Lists.{apart, either_way, one_if, or_false, same}
use Rattle.kernel_laws.proofs.NodesKept.{directory_still, fits_still, open_still}
use Rattle.kernel_model.proofs.Described.{slot_cases, within}
use Rattle.kernel_model.specs.Always.{AreMoved, IsFiles, IsOpen, IsPipe, IsTable, any_open, fits_object, has_open, holders, is_node, is_read_end, is_write_end}
use Rattle.kernel_model.specs.DescriptorRows.{let_go}
use Rattle.kernel_model.specs.Descriptions.{kept_flags}
use Rattle.kernel_model.specs.Pipes.{kept_pipe, pipe_at, pipe_size, without_readers, without_writers}
use Rattle.kernel_model.specs.State.{Files, Pipe}
use Rattle.kernel_model.specs.Table.{descriptor_limit, slot, with_slot}
use Rattle.kernel_model.specs.declared.descriptor.Description.{Description}
use Rattle.kernel_model.specs.declared.descriptor.Object.{Object}
use Rattle.kernel_model.specs.declared.descriptor.Object.TheVariants as objects

pub record IsOwingPipe (files : Files) (owed : Object) (number : ℕ) (pipe : Pipe) : Type 0 where
  pub small : length pipe.bytes ≤ pipe_size
  pub are_bytes : All (λ byte. byte < 256) pipe.bytes
  pub used : (pipe.readers || pipe.writers) ≡ true
  pub readers : pipe.readers ≡ (any_open files (is_read_end number) || is_read_end number owed)
  pub writers : pipe.writers ≡ (any_open files (is_write_end number) || is_write_end number owed)

abbrev pub IsThere : Files → Object → Type 0
IsThere files (objects.Stream stream) = ⊤
IsThere files (objects.ReadEnd pipe) = is_some (pipe_at files.flow pipe) ≡ true
IsThere files (objects.WriteEnd pipe) = is_some (pipe_at files.flow pipe) ≡ true
IsThere files (objects.Node node) = ⊤

pub record IsOwing (files : Files) (owed : Object) : Type 0 where
  pub nodes : IsFileSystem files.nodes
  pub table : IsTable files.table
  pub places : length files.flow.pipes ≡ descriptor_limit
  pub pipes : (number : ℕ) (pipe : Pipe) → pipe_at files.flow number ≡ Some pipe → IsOwingPipe files owed number pipe
  pub moved : AreMoved files.flow.moved
  pub opens : (number : ℕ) (description : Description) → slot files.table.live number ≡ Some description → IsOpen files description description.object
  pub kept : (number : ℕ) (description : Description) → slot files.table.live number ≡ Some description → kept_flags description.flags ≡ description.flags
  pub fits : (number : ℕ) (description : Description) → slot files.table.live number ≡ Some description
      → fits_object files.nodes description.flags.access description.object ≡ true
  pub directory : is_directory files.nodes files.directory ≡ true
  pub holds : (node : ℕ) → holds_at files.nodes node ≡ holders files node + one_if (is_node node owed)
  pub umask : files.umask < 512
  pub there : IsThere files owed
  pub reads_once : (number : ℕ) → is_read_end number owed ≡ true → any_open files (is_read_end number) ≡ false
  pub writes_once : (number : ℕ) → is_write_end number owed ≡ true → any_open files (is_write_end number) ≡ false

-- An end of a pipe goes, and maybe the pipe

-- what a description has open is open
has_any : (files : Files) (test : Object → Bool) (at : ℕ) (description : Description) → slot files.table.live at ≡ Some description → test description.object ≡ true
    → any_open files test ≡ true
has_any files test at description there passes =
    list_any_at (has_open test) files.table.live at None (within files.table.live at description there) (ap (λ o. has_open test o) there ∙ passes)

none_has : (files : Files) (test : Object → Bool) (at : ℕ) (description : Description) → slot files.table.live at ≡ Some description → test description.object ≡ true
    → any_open files test ≡ false → false ≡ true
none_has files test at description there passes none = sym none ∙ has_any files test at description there passes

module _ (files : Files) (owed : Object) (is : IsOwing files owed) (number : ℕ) (old : Pipe) (there : pipe_at files.flow number ≡ Some old) (new : Option Pipe)
    (others : (at : ℕ) → at ≢ number → (is_read_end at owed ≡ false) × (is_write_end at owed ≡ false)) (no_node : (node : ℕ) → is_node node owed ≡ false)
    (stays : (pipe : Pipe) → new ≡ Some pipe → IsPipe files number pipe)
    (goes : new ≡ None → (any_open files (is_read_end number) ≡ false) × (any_open files (is_write_end number) ≡ false)) where
  abbrev piped : Files
  piped = record files { flow = record files.flow { pipes = with_slot files.flow.pipes number new } }

  low : number < length files.flow.pipes
  low = within files.flow.pipes number old there

  pipe_is : (at : ℕ) (pipe : Pipe) → pipe_at piped.flow at ≡ Some pipe → IsPipe files at pipe
  pipe_is at pipe =
      slot_cases files.flow.pipes number at new low (λ o. o ≡ Some pipe → IsPipe files at pipe)
      (λ e g. subst (λ n. IsPipe files n pipe) (sym e) (stays pipe g))
      (λ e g.
      let p = is.pipes at pipe g in
      let o = others at e in
      record {
        small = p.small;
        are_bytes = p.are_bytes;
        used = p.used;
        readers = p.readers ∙ ap (λ b. any_open files (is_read_end at) || b) o.0 ∙ or_false (any_open files (is_read_end at));
        writers = p.writers ∙ ap (λ b. any_open files (is_write_end at) || b) o.1 ∙ or_false (any_open files (is_write_end at));
      })

  -- a pipe of which an end is open is there
  read_there : (at : ℕ) (description : Description) (pipe : ℕ) → slot files.table.live at ≡ Some description → description.object ≡ objects.ReadEnd pipe
      → is_some (pipe_at files.flow pipe) ≡ true → is_some (pipe_at piped.flow pipe) ≡ true
  read_there at description pipe open_as object before =
      slot_cases files.flow.pipes number pipe new low (λ o. is_some o ≡ true)
      (λ e. by new refl (ap (λ o. is_read_end number o) object ∙ ap (λ n. n == number) e ∙ same number)) (λ e. before) where
        by : (o : Option Pipe) → new ≡ o → is_read_end number description.object ≡ true → is_some o ≡ true
        by None f passes = none_has files (is_read_end number) at description open_as passes (goes f).0
        by (Some q) f passes = refl

  write_there : (at : ℕ) (description : Description) (pipe : ℕ) → slot files.table.live at ≡ Some description → description.object ≡ objects.WriteEnd pipe
      → is_some (pipe_at files.flow pipe) ≡ true → is_some (pipe_at piped.flow pipe) ≡ true
  write_there at description pipe open_as object before =
      slot_cases files.flow.pipes number pipe new low (λ o. is_some o ≡ true)
      (λ e. by new refl (ap (λ o. is_write_end number o) object ∙ ap (λ n. n == number) e ∙ same number)) (λ e. before) where
        by : (o : Option Pipe) → new ≡ o → is_write_end number description.object ≡ true → is_some o ≡ true
        by None f passes = none_has files (is_write_end number) at description open_as passes (goes f).1
        by (Some q) f passes = refl

  open_piped : (at : ℕ) (description : Description) → slot files.table.live at ≡ Some description → (object : Object) → description.object ≡ object
      → IsOpen files description object → IsOpen piped description object
  open_piped at description open_as (objects.Stream stream) e h = h
  open_piped at description open_as (objects.ReadEnd pipe) e h = (read_there at description pipe open_as e h.0, h.1)
  open_piped at description open_as (objects.WriteEnd pipe) e h = (write_there at description pipe open_as e h.0, h.1)
  open_piped at description open_as (objects.Node node) e h = h

  pub end_gone : IsFiles piped
  end_gone = record {
    nodes = is.nodes;
    table = is.table;
    places = length-set files.flow.pipes number new ∙ is.places;
    pipes = λ at pipe h. let p = pipe_is at pipe h in record { small = p.small; are_bytes = p.are_bytes; used = p.used; readers = p.readers; writers = p.writers };
    moved = is.moved;
    opens = λ at description h. open_piped at description h description.object refl (is.opens at description h);
    kept = is.kept;
    fits = is.fits;
    directory = is.directory;
    holds = λ node. let none : one_if (is_node node owed) ≡ 0 = ap one_if (no_node node) in omega (arith, is.holds node, none);
    umask = is.umask;
  }

-- What is owed is let go

module _ (files : Files) where
  read_end_gone : (number : ℕ) → IsOwing files (objects.ReadEnd number) → (found : Option Pipe) → pipe_at files.flow number ≡ found
      → IsFiles (record files { flow = without_readers files.flow number found })
  read_end_gone number is None e = absurd (let wrong : false ≡ true = sym (ap (λ o. is_some o) e) ∙ is.there in cc)
  read_end_gone number is (Some pipe) e =
      end_gone files (objects.ReadEnd number) is number pipe e (kept_pipe (record pipe { readers = false })) (λ at h. (apart at number h, refl)) (λ node. refl) stays goes where
        p : IsOwingPipe files (objects.ReadEnd number) number pipe
        p = is.pipes number pipe e

        unread : any_open files (is_read_end number) ≡ false
        unread = is.reads_once number (same number)

        written : pipe.writers ≡ any_open files (is_write_end number)
        written = p.writers ∙ or_false (any_open files (is_write_end number))

        rest : pipe.writers ≡ true → IsPipe files number (record pipe { readers = false })
        rest w = record { small = p.small; are_bytes = p.are_bytes; used = w; readers = sym unread; writers = written }

        stays : (q : Pipe) → kept_pipe (record pipe { readers = false }) ≡ Some q → IsPipe files number q
        stays q = by pipe.writers refl where
          by : (w : Bool) → pipe.writers ≡ w → (if w then Some (record pipe { readers = false }) else None) ≡ Some q → IsPipe files number q
          by true w h = subst (λ r. IsPipe files number r) (ap (λ o. unwrap_or o q) h) (rest w)
          by false w h = absurd cc

        goes : kept_pipe (record pipe { readers = false }) ≡ None → (any_open files (is_read_end number) ≡ false) × (any_open files (is_write_end number) ≡ false)
        goes = by pipe.writers refl where
          by : (w : Bool) → pipe.writers ≡ w → (if w then Some (record pipe { readers = false }) else None) ≡ None
              → (any_open files (is_read_end number) ≡ false) × (any_open files (is_write_end number) ≡ false)
          by true w h = absurd cc
          by false w h = (unread, sym written ∙ w)

  write_end_gone : (number : ℕ) → IsOwing files (objects.WriteEnd number) → (found : Option Pipe) → pipe_at files.flow number ≡ found
      → IsFiles (record files { flow = without_writers files.flow number found })
  write_end_gone number is None e = absurd (let wrong : false ≡ true = sym (ap (λ o. is_some o) e) ∙ is.there in cc)
  write_end_gone number is (Some pipe) e =
      end_gone files (objects.WriteEnd number) is number pipe e (kept_pipe (record pipe { writers = false })) (λ at h. (refl, apart at number h)) (λ node. refl) stays goes where
        p : IsOwingPipe files (objects.WriteEnd number) number pipe
        p = is.pipes number pipe e

        unwritten : any_open files (is_write_end number) ≡ false
        unwritten = is.writes_once number (same number)

        read : pipe.readers ≡ any_open files (is_read_end number)
        read = p.readers ∙ or_false (any_open files (is_read_end number))

        rest : pipe.readers ≡ true → IsPipe files number (record pipe { writers = false })
        rest r = record { small = p.small; are_bytes = p.are_bytes; used = ap (λ b. b || false) r; readers = read; writers = sym unwritten }

        stays : (q : Pipe) → kept_pipe (record pipe { writers = false }) ≡ Some q → IsPipe files number q
        stays q = by pipe.readers refl where
          by : (r : Bool) → pipe.readers ≡ r → (if r || false then Some (record pipe { writers = false }) else None) ≡ Some q → IsPipe files number q
          by true r h = subst (λ x. IsPipe files number x) (ap (λ o. unwrap_or o q) h) (rest r)
          by false r h = absurd cc

        goes : kept_pipe (record pipe { writers = false }) ≡ None → (any_open files (is_read_end number) ≡ false) × (any_open files (is_write_end number) ≡ false)
        goes = by pipe.readers refl where
          by : (r : Bool) → pipe.readers ≡ r → (if r || false then Some (record pipe { writers = false }) else None) ≡ None
              → (any_open files (is_read_end number) ≡ false) × (any_open files (is_write_end number) ≡ false)
          by true r h = absurd cc
          by false r h = (sym read ∙ r, unwritten)

  module _ (node : ℕ) (is : IsOwing files (objects.Node node)) where
    abbrev gone : Nodes
    gone = released files.nodes node

    counted : (number : ℕ) → holds_at gone number ≡ holders files number
    counted number = release_counts files.nodes node number ∙ by (number == node) refl where
      by : (b : Bool) → (number == node) ≡ b → (if b then holds_at files.nodes number - 1 else holds_at files.nodes number) ≡ holders files number
      by true e = let one : one_if (node == number) ≡ 1 = either_way node number ∙ ap one_if e in omega (arith, one, is.holds number)
      by false e = let none : one_if (node == number) ≡ 0 = either_way node number ∙ ap one_if e in omega (arith, none, is.holds number)

    kinds : (number : ℕ) → 1 ≤ holders files number → kind_at gone number ≡ kind_at files.nodes number
    kinds number some =
        (live_on files.nodes gone (release_kinds files.nodes node) number (omega (arith, some, is.holds number)) (omega (arith, some, counted number))).1

    node_gone : IsFiles (record files { nodes = gone })
    node_gone = record {
      nodes = release_keeps files.nodes node is.nodes;
      table = is.table;
      places = is.places;
      pipes = λ at pipe h. let p = is.pipes at pipe h in record {
        small = p.small;
        are_bytes = p.are_bytes;
        used = p.used;
        readers = p.readers ∙ or_false (any_open files (is_read_end at));
        writers = p.writers ∙ or_false (any_open files (is_write_end at));
      };
      moved = is.moved;
      opens = λ at description h. open_still files gone kinds at description h (is.opens at description h);
      kept = is.kept;
      fits = λ at description h. fits_still files gone kinds at description h (is.fits at description h);
      directory = directory_still files gone kinds is.directory;
      holds = counted;
      umask = is.umask;
    }

  pub let_go_kept : (object : Object) → IsOwing files object → IsFiles (let_go files object)
  let_go_kept (objects.Stream stream) is = record {
    nodes = is.nodes;
    table = is.table;
    places = is.places;
    pipes = λ at pipe h. let p = is.pipes at pipe h in record {
      small = p.small;
      are_bytes = p.are_bytes;
      used = p.used;
      readers = p.readers ∙ or_false (any_open files (is_read_end at));
      writers = p.writers ∙ or_false (any_open files (is_write_end at));
    };
    moved = is.moved;
    opens = is.opens;
    kept = is.kept;
    fits = is.fits;
    directory = is.directory;
    holds = λ node. omega (arith, is.holds node);
    umask = is.umask;
  }
  let_go_kept (objects.ReadEnd pipe) is = read_end_gone pipe is (pipe_at files.flow pipe) refl
  let_go_kept (objects.WriteEnd pipe) is = write_end_gone pipe is (pipe_at files.flow pipe) refl
  let_go_kept (objects.Node node) is = node_gone node is
