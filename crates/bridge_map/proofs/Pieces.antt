-- A piece of a file that one native call puts to memory, and one piece after another.
use Rattle.std.proofs.Common.{◌≡◌, ◌≤◌, ◌<◌, ◌+◌, ◌-◌, ◌%◌, ◌^◌, ℕ, List, [], ◌∷◌, length, replicate, min, Option, Some, None, Result, Ok, Err, IsErr, refl, sym, ap, subst, ◌∙◌, arith, inl, inr}
use Rattle.std.proofs.lemmas.Bool.Decides.{nat_tests}
use Rattle.std.proofs.lemmas.Int.{to_z_pos}
use Rattle.std.proofs.lemmas.List.{length-replicate}
use Rattle.std.specs.Int.{w64, cast_signed}
use Rattle.std.specs.Prelude.{ℤ, pos}
use Rattle.file_blocks.proofs.ByteLemmas.{bytes_at-same, bytes_at-zero}
use Rattle.guest_space.proofs.Prefixes.{first_denied-skip, first_denied-zero}
use Rattle.guest_space.proofs.Uses.{refusal-with_bytes}
use Rattle.guest_space.specs.Access.{bytes_before, first_denied, refusal, writable_prefix}
use Rattle.guest_space.specs.Bytes.{copied_out}
use Rattle.guest_space.specs.Memory.{Memory, Pages}
use Rattle.guest_space.specs.declared.access.Access.TheVariants.{Store}
use Rattle.guest_space.specs.declared.access.Denied.{Denied}
use Rattle.host_mem.specs.Memory.{first_address, written}
use Rattle.kernel_core.specs.FileContent.{FileContent}
use Rattle.kernel_core.specs.Nodes.{NodeContent}
use Rattle.kernel_core.specs.declared.core_error.Stop.{Stop}
use Rattle.kernel_core.specs.declared.error.Errno.TheVariants.{ESPIPE}
use Rattle.kernel_model.specs.Came.{Did, Done, done, with_some}
use Rattle.kernel_model.specs.Descriptions.{content_at}
use Rattle.kernel_model.specs.Pipes.{nothing}
use Rattle.kernel_model.specs.State.{Files, Kernel}
use Rattle.kernel_model.specs.Transfers.{file_bytes, read_at, read_content, transfer_limit}
use Rattle.kernel_model.specs.Whole.{on_files}
use Rattle.mips_exec.specs.Processor.{Processor, fresh}
use Rattle.native_calls.specs.HostBytes.{accessible}
use Rattle.native_calls.specs.Step as native_step
use Rattle.native_calls.specs.Step.{NativeStep}
use Rattle.native_calls.specs.Table.{native_call}
use Rattle.native_calls.specs.Transfers as transfers
use Rattle.o32_model.specs.Answered as o32
use Rattle.o32_model.specs.Logs.{Kept}
use Rattle.o32_model.specs.Step.{Guest, O32Step, value}
use Rattle.o32_model.specs.declared.call_words.CallWords.{CallWords}
use Rattle.o32_model.specs.declared.outcome.Outcome.{Outcome}
use Rattle.outside.specs.Streams.{Contents}
use Rattle.bridge_log.specs.Fills as bridge
use Rattle.bridge_log.specs.Keeping.{Keeps}
use Rattle.bridge_map.proofs.FileBytes.{copied_out-none, length-file_bytes, file_bytes-end, file_bytes-whole, next_piece}
use Rattle.bridge_map.proofs.Journal.{leads_none, leads_then}
use Rattle.bridge_map.proofs.Looking.{read_at_is, read_of}
use Rattle.bridge_map.proofs.Quietly.{no_text, contents_same, quiet_none, quiet_then}
use Rattle.bridge_map.specs.Rows.{Leads, guest_of}
use Rattle.bridge_map.specs.Shown.{AreStorable, Filled, Fills, Shows, Silent}

-- Bytes that may be stored to

pub storable_part : (pages : Pages) (address count from some : ℕ) → AreStorable pages address count → from + some ≤ count → AreStorable pages (address + from) some
storable_part pages address count from some free within = λ j below.
    ap (refusal Store pages) (let e : address + from + j ≡ address + (from + j) = omega arith in e) ∙ free (from + j) (omega arith)

pub storable_after : (memory now : Memory) (at : ℕ) (bytes : List ℕ) (address count : ℕ) → now ≡ copied_out memory at bytes → AreStorable memory.pages address count → AreStorable now.pages address count
unfolding copied_out
storable_after memory now at bytes address count became free = λ j below.
    ap (λ (m : Memory). refusal Store m.pages (address + j)) became
    ∙ refusal-with_bytes Store bytes memory.pages at (address + j)
    ∙ free j below

pub none_denied : (pages : Pages) (address count : ℕ) → AreStorable pages address count → first_denied Store pages address count ≡ None
none_denied pages address count free =
    ap (first_denied Store pages address) (let e : count ≡ count + 0 = omega arith in e)
    ∙ first_denied-skip Store pages count 0 address free
    ∙ first_denied-zero Store pages (address + count)

pub all_writable : (pages : Pages) (address count : ℕ) → AreStorable pages address count → writable_prefix pages address count ≡ count
unfolding writable_prefix
all_writable pages address count free = ap (λ (o : Option Denied). bytes_before address count o) (none_denied pages address count free)

-- What the native call does

module _ (kernel : Kernel) (left : List ℕ) (content : FileContent) (fd place count : ℕ) (word : fd < 2 ^ 32) (low : place < 2 ^ 63) (some : 0 < count) (few : count ≤ 65536) (shows : Shows kernel.files fd content) where
  most_is : min (min count count) transfer_limit ≡ count
  most_is = omega arith

  file_read : read_at kernel.files fd (pos place) (Ok count) count ≡ done kernel.files (file_bytes content place count)
  unfolding read_of
  file_read =
      read_at_is kernel.files shows.description place count count fd shows.there shows.may_read some some
      ∙ ap (read_of kernel.files shows.description place) most_is
      ∙ ap (λ (o : Option ℕ). with_some kernel.files ESPIPE o (λ (node : ℕ). read_content kernel.files place count (λ _. kernel.files) (content_at kernel.files.nodes node))) shows.node_is
      ∙ ap (λ (o : Option NodeContent). read_content kernel.files place count (λ _. kernel.files) o) shows.file

  pub piece_read : (room : List ℕ) (first third : ℕ) → first ≡ fd → third ≡ count → length room ≡ count
      → native_call 67 (first ∷ 65536 ∷ third ∷ place ∷ 0 ∷ 0 ∷ []) kernel room left
      ≡ native_step.fills (written room first_address) room (done kernel (file_bytes content place count)) left
  unfolding transfers.pread_row
  piece_read room first third first_is third_is long =
      let number : first % 2 ^ 32 ≡ fd = omega arith in
      let there : accessible room 65536 third ≡ count = grind (arith, nat_tests) in
      let fills : Did Files (List ℕ) → NativeStep = λ did. native_step.fills (written room first_address) room (on_files kernel did) left in
      ap (λ (n : ℕ). fills (read_at kernel.files n (cast_signed w64 place) (Ok third) (accessible room 65536 third))) number
      ∙ ap (λ (z : ℤ). fills (read_at kernel.files fd z (Ok third) (accessible room 65536 third))) (to_z_pos w64 place low)
      ∙ ap (λ (n : ℕ). fills (read_at kernel.files fd (pos place) (Ok third) n)) there
      ∙ ap (λ (n : ℕ). fills (read_at kernel.files fd (pos place) (Ok n) count)) third_is
      ∙ ap fills file_read

-- a piece, as a call of the program that reads it to memory
abbrev pub piece_step : Kernel → Guest → ℕ → List ℕ → List ℕ → O32Step
piece_step kernel guest address bytes left = record {
  kernel = kernel;
  left = left;
  memory = copied_out guest.memory address bytes;
  processor = guest.processor;
  sent = nothing;
  outcome = value (length bytes);
}

bytes_fill : (guest : Guest) (kernel : Kernel) (address : ℕ) (room left bytes : List ℕ) → length bytes ≤ length room
    → bridge.Fills guest address room (native_step.fills (written room first_address) room (done kernel bytes) left) (piece_step kernel guest address bytes left)
bytes_fill guest kernel address room left bytes within = record {
  came = Done bytes;
  bounded = within;
  kernel = refl;
  left = refl;
  native_sends = refl;
  sends = refl;
  room_after = refl;
  stored = refl;
  set = refl;
  replied = refl;
  outcome = refl;
}

pub piece_fills : (guest : Guest) (kernel : Kernel) (left : List ℕ) (content : FileContent) (first third fd address count place : ℕ) → first ≡ fd → third ≡ count → fd < 2 ^ 32 → place < 2 ^ 63 → 0 < count → count ≤ 65536
    → Shows kernel.files fd content → AreStorable guest.memory.pages address count
    → (let room = replicate {A = ℕ} (writable_prefix guest.memory.pages address count) 0 in
    bridge.Fills guest address room (native_call 67 (first ∷ 65536 ∷ third ∷ place ∷ 0 ∷ 0 ∷ []) kernel room left) (piece_step kernel guest address (file_bytes content place count) left))
piece_fills guest kernel left content first third fd address count place first_is third_is word low some few shows free =
    let room = replicate {A = ℕ} (writable_prefix guest.memory.pages address count) 0 in
    let long : length room ≡ count = length-replicate {A = ℕ} (writable_prefix guest.memory.pages address count) 0 ∙ all_writable guest.memory.pages address count free in
    let bytes = file_bytes content place count in
    let size = length-file_bytes content place count in
    subst (λ (s : NativeStep). bridge.Fills guest address room s (piece_step kernel guest address bytes left))
    (sym (piece_read kernel left content fd place count word low some few shows room first third first_is third_is long))
    (bytes_fill guest kernel address room left bytes (omega arith))

-- what was said of that call, said of the piece

module _ (words : CallWords) (kernel : Kernel) (left : List ℕ) (start : Memory) (address : ℕ) (bytes : List ℕ) where
  pub piece_filled : (outcome : Outcome) (became : Kernel) (before after : Contents) (now : Memory) (old new : Kept) → before.left ≡ Some left
      → o32.Called (piece_step kernel (guest_of words (fresh 0) start) address bytes left) outcome became now (fresh 0) before after
      → ((processor : Processor) → Keeps (piece_step kernel (guest_of words processor start) address bytes left) kernel left (guest_of words processor start) old new)
      → Filled kernel became left before after start now old new address bytes
  piece_filled outcome became before after now old new told called keeps = record {
    quiet = record {
      stays = called.became;
      same = contents_same before after (called.rest ∙ sym told) (no_text before.out after.out [] refl called.to_out) (no_text before.err after.err [] refl called.to_err);
      logged = (keeps (fresh 0)).native;
    };
    stored = called.stored;
    effects = subst (λ (m : Memory). Leads old.effects new.effects start.pages m.pages) (sym called.stored) (λ processor. (keeps processor).effects);
  }

  pub piece_silent : (before after : Contents) → before.left ≡ Some left → o32.Stopped (piece_step kernel (guest_of words (fresh 0) start) address bytes left) before after → Silent before after
  piece_silent before after told stopped = record {
    rest = elim stopped.rest [ inl same ↦ same | inr taken ↦ taken ∙ sym told ];
    to_out = stopped.to_out;
    to_err = stopped.to_err;
  }

-- Piece after piece

pub filled_none : (kernel : Kernel) (left : List ℕ) (at : Contents) (memory : Memory) (kept : Kept) (address : ℕ) → Filled kernel kernel left at at memory memory kept kept address []
filled_none kernel left at memory kept address = record { quiet = quiet_none kernel left at kept.native; stored = sym (copied_out-none memory address); effects = leads_none kept.effects memory.pages }

-- the pieces so far, all of which the file has
pub record SoFar (content : FileContent) (kernel became : Kernel) (left : List ℕ) (before after : Contents) (start now : Memory) (old new : Kept) (address at done : ℕ) : Type 0 where
  pub filled : Filled kernel became left before after start now old new address (file_bytes content at done)
  pub whole : length (file_bytes content at done) ≡ done

module _ (content : FileContent) {kernel between became : Kernel} {left : List ℕ} {before middle after : Contents} {start half now : Memory} {old kept new : Kept} (address at done want : ℕ)
    (so_far : SoFar content kernel between left before middle start half old kept address at done)
    (piece : Filled between became left middle after half now kept new (address + done) (file_bytes content (at + done) want)) where
  pub filled_more : Filled kernel became left before after start now old new address (file_bytes content at (done + want))
  filled_more = record {
    quiet = quiet_then so_far.filled.quiet piece.quiet;
    stored = piece.stored ∙ next_piece start half content address at done want so_far.whole so_far.filled.stored;
    effects = leads_then _ _ _ _ _ _ so_far.filled.effects piece.effects;
  }

  pub filled_end : (count : ℕ) → length (file_bytes content (at + done) want) < want → done + want ≤ count → Filled kernel became left before after start now old new address (file_bytes content at count)
  filled_end count short within =
      subst (λ (bytes : List ℕ). Filled kernel became left before after start now old new address bytes) (file_bytes-end content at done want count so_far.whole short within) filled_more

  pub further : length (file_bytes content (at + done) want) ≡ want → SoFar content kernel became left before after start now old new address at (done + want)
  further more = record { filled = filled_more; whole = file_bytes-whole content at done want so_far.whole more }

-- A loop over pieces: what a piece is asked for, and how it begins

module _ {content : FileContent} {kernel between : Kernel} {left : List ℕ} {before middle : Contents} {start half : Memory} {old kept : Kept} {address at done : ℕ}
    (so_far : SoFar content kernel between left before middle start half old kept address at done) where
  pub still_told : before.left ≡ Some left → middle.left ≡ Some left
  still_told told = ap (λ (c : Contents). c.left) so_far.filled.quiet.same ∙ told

  pub still_shows : (fd : ℕ) → Shows kernel.files fd content → Shows between.files fd content
  still_shows fd shows = subst (λ (k : Kernel). Shows k.files fd content) (sym so_far.filled.quiet.stays) shows

  pub still_storable : (count want : ℕ) → AreStorable start.pages address count → done + want ≤ count → AreStorable half.pages (address + done) want
  still_storable count want free within =
      storable_part half.pages address count done want (storable_after start half address (file_bytes content at done) address count so_far.filled.stored free) within

  pub at_place : (place : ℕ) → done ≡ place → SoFar content kernel between left before middle start half old kept address at place
  at_place place is = subst (λ (n : ℕ). SoFar content kernel between left before middle start half old kept address at n) is so_far

pub so_far_none : (content : FileContent) (kernel : Kernel) (left : List ℕ) (here : Contents) (memory : Memory) (kept : Kept) (address at done : ℕ) → done ≡ 0
    → SoFar content kernel kernel left here here memory memory kept kept address at done
so_far_none content kernel left here memory kept address at done none =
    let size = length-file_bytes content at done in
    record {
      filled =
          subst (λ (bytes : List ℕ). Filled kernel kernel left here here memory memory kept kept address bytes)
          (sym (bytes_at-same content.blocks {a = at} {b = at} refl (let e : min done (content.size - at) ≡ 0 = omega arith in e) ∙ bytes_at-zero content.blocks at))
          (filled_none kernel left here memory kept address);
      whole = omega arith;
    }

pub fills_stop : {A : Type 0} (Holds : A → Type 0) (result : Result A Stop) (kernel became : Kernel) (left : List ℕ) (before after : Contents) (start now : Memory) (old new : Kept) (address : ℕ) (bytes : List ℕ)
    → IsErr result → Silent before after → Fills Holds result kernel became left before after start now old new address bytes
fills_stop Holds (Ok answer) kernel became left before after start now old new address bytes failed silent = absurd cc
fills_stop Holds (Err stop) kernel became left before after start now old new address bytes failed silent = silent

pub filled_as : {kernel became : Kernel} {left : List ℕ} {before after : Contents} {start now : Memory} {old new : Kept} {address : ℕ} {bytes other : List ℕ}
    → Filled kernel became left before after start now old new address bytes → bytes ≡ other → Filled kernel became left before after start now old new address other
filled_as {kernel} {became} {left} {before} {after} {start} {now} {old} {new} {address} filled same =
    subst (λ (b : List ℕ). Filled kernel became left before after start now old new address b) same filled
