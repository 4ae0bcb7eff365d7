-- What closing a descriptor makes of the files.
use Rattle.std.proofs.Common.{◌≡◌, ℕ, Option, Some, None, refl, sym, ap, ◌∙◌}
use Rattle.std.specs.Prelude.{option_map}
use Rattle.kernel_core.specs.Nodes.{Nodes}
use Rattle.kernel_core.specs.NodeCalls.{released}
use Rattle.kernel_model.specs.DescriptorRows.{after_close, after_last, let_go}
use Rattle.kernel_model.specs.Pipes.{pipe_at, without_readers, without_writers}
use Rattle.kernel_model.specs.State.{Descriptors, Files, Flow}
use Rattle.kernel_model.specs.Table.{slot, number_at, closed, closed_at, last_description, last_at}
use Rattle.kernel_model.specs.declared.descriptor.Descriptor.{Descriptor}
use Rattle.kernel_model.specs.declared.descriptor.Description.{Description}
use Rattle.kernel_model.specs.declared.descriptor.Object.TheVariants as objects
use Rattle.kernel_model.specs.declared.stream.Stream.{Stream}

pub not_open-free : {A : Type 0} (table : Descriptors A) (fd : ℕ) → None ≡ number_at table fd → slot table.fds fd ≡ None
not_open-free table fd none = by (slot table.fds fd) none
  where
    by : (o : Option Descriptor) → None ≡ option_map (λ d. d.number) o → o ≡ None
    by None none = refl
    by (Some d) none = absurd (cc)

pub after-not_open : (files : Files) (fd : ℕ) → None ≡ number_at files.table fd → files ≡ after_close files fd
unfolding after_close closed last_description
after-not_open files fd none =
    ap (λ o. after_last (record files { table = closed_at files.table fd o }) (last_at files.table fd o)) none

-- `now` is the table without the descriptor, `nodes` and `flow` what its description leaves of them.
module _ (before files : Files) (fd : ℕ) (is : before ≡ files) (now : Descriptors Description) (without : now ≡ closed before.table fd) where
  abbrev closed_files : Files
  closed_files = record before { table = closed before.table fd }

  pub after-kept : None ≡ last_description before.table fd → record before { table = now } ≡ after_close files fd
  unfolding after_close
  after-kept last =
      ap (λ t. record before { table = t }) without
      ∙ ap (λ o. after_last closed_files o) last
      ∙ ap (λ f. after_close f fd) is

  module _ (description : Description) (last : Some description ≡ last_description before.table fd) where
    pub after-stream : (stream : Stream) → description.object ≡ objects.Stream stream → record before { table = now } ≡ after_close files fd
    unfolding after_close
    after-stream stream object =
        ap (λ t. record before { table = t }) without
        ∙ ap (λ o. let_go closed_files o) (sym object)
        ∙ ap (λ o. after_last closed_files o) last
        ∙ ap (λ f. after_close f fd) is

    pub after-read_end : (pipe : ℕ) → description.object ≡ objects.ReadEnd pipe → (flow : Flow) → flow ≡ without_readers before.flow pipe (pipe_at before.flow pipe)
        → record before { table = now; flow = flow } ≡ after_close files fd
    unfolding after_close
    after-read_end pipe object flow flows =
        ap (λ t. record before { table = t; flow = flow }) without
        ∙ ap (λ f. record before { table = closed before.table fd; flow = f }) flows
        ∙ ap (λ o. let_go closed_files o) (sym object)
        ∙ ap (λ o. after_last closed_files o) last
        ∙ ap (λ f. after_close f fd) is

    pub after-write_end : (pipe : ℕ) → description.object ≡ objects.WriteEnd pipe → (flow : Flow) → flow ≡ without_writers before.flow pipe (pipe_at before.flow pipe)
        → record before { table = now; flow = flow } ≡ after_close files fd
    unfolding after_close
    after-write_end pipe object flow flows =
        ap (λ t. record before { table = t; flow = flow }) without
        ∙ ap (λ f. record before { table = closed before.table fd; flow = f }) flows
        ∙ ap (λ o. let_go closed_files o) (sym object)
        ∙ ap (λ o. after_last closed_files o) last
        ∙ ap (λ f. after_close f fd) is

    pub after-node : (node : ℕ) → description.object ≡ objects.Node node → (nodes : Nodes) → nodes ≡ released before.nodes node → (directory : ℕ) → directory ≡ before.directory
        → record before { table = now; nodes = nodes; directory = directory } ≡ after_close files fd
    unfolding after_close
    after-node node object nodes left directory home =
        ap (λ t. record before { table = t; nodes = nodes; directory = directory }) without
        ∙ ap (λ n. record before { table = closed before.table fd; nodes = n; directory = directory }) left
        ∙ ap (λ d. record before { table = closed before.table fd; nodes = released before.nodes node; directory = d }) home
        ∙ ap (λ o. let_go closed_files o) (sym object)
        ∙ ap (λ o. after_last closed_files o) last
        ∙ ap (λ f. after_close f fd) is
